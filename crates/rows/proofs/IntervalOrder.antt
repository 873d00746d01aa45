-- The records in the order of their numbers are the records by team, member, interval.
use Prim.Native.Nat.{ℕ, zero, suc, ◌+◌, ◌-◌, ◌*◌, ◌%◌, ◌≤◌, ◌<◌}
use mathlib.Core.Path.{◌≡◌, refl, sym, ◌∙◌, ap, subst}
use mathlib.Core.Logic.{◌⊎◌, ⊎_elim}
use mathlib.Core.Bool.{true}
use mathlib.Core.List.Memᴰ
use mathlib.Core.List.{List, [], ◌∷◌, ◌++◌, map, map-map, Memᴰ}
use native.Mathlib.Omega.{arith}
use lib.ListN.{length, get_or, take, drop}
use lib.Seq.{take-suc, take_all, take_at, length-take-le, get_or-take, get_or-drop, get_or-append-add}
use lib.Dec.{leb}
use borrow.Author.Tests.{le-leb, lt-leb}
use Rattle.sorting.specs.Order.{sorted, All}
use Rattle.sorting.proofs.Insertion.{all-at, at_all, sorted_all, sorted-length}
use Rattle.bundle.specs.Chunks.{fresh, chunks_of}
use Rattle.bundle.specs.Walk.{forks_of}
use Rattle.bundle.specs.Check.{Accepted}
use Rattle.bundle.specs.Index.{table_from, table}
use Rattle.bundle.specs.declared.index.Fork.{Fork}
use Rattle.bundle.proofs.Tests.{false-is-true, is_false}
use Rattle.bundle.proofs.ListLaws.{Distinct, distinct_head, distinct_tail, concat_map-elim}
use Rattle.bundle.proofs.Tables.{table_more, table_same, table_none, table-in}
use Rattle.bundle.proofs.SegmentRuns.{member-range}
use Rattle.bundle.proofs.Onward.{legible}
use Rattle.verdict.specs.Accesses.{lex_less}
use Rattle.verdict.proofs.Lexical.{Compared, less, same, more, compare, less-elim, less-asymmetric}
use Rattle.order.specs.Labels.{last_triple}
use Rattle.rewrite.specs.Rewriting.{sorted_by}
use Rattle.rewrite.proofs.KeySort.{Agreeing, agreeing_nil, agreeing_cons, sort-words}
use Rattle.rewrite.proofs.WordOrder.{from-elim, from-intro}
use Rattle.rows.specs.Rows.{Interval, interval_name, intervals_in, intervals_of, row_of, rows_of}
use Rattle.rows.specs.Slots.{Slot, name_word, held_in, row_made, slot_at, row_in}
use Rattle.rows.specs.Passing.{slot_of_interval, slots_from, listed, Listed, Sorted}
use Rattle.rows.proofs.IntervalNames.{chunk-runs, run-names, names-distinct}

-- team, member and interval as one number
module _ (t m i t' m' i' : ℕ) (small : m < 256) (small' : m' < 256) (few : i < 65536) (few' : i' < 65536) where
  name-less : lex_less (t ∷ m ∷ i ∷ []) (t' ∷ m' ∷ i' ∷ []) ≡ true → (t * 256 + m) * 65536 + i < (t' * 256 + m') * 65536 + i'
  name-less e =
      ⊎_elim
      (λ (h : t < t'). omega arith)
      (λ h. second h.0 (less-elim m m' (i ∷ []) (i' ∷ []) h.1))
      (less-elim t t' (m ∷ i ∷ []) (m' ∷ i' ∷ []) e)
    where
      third : t ≡ t' → m ≡ m' → (i < i') ⊎ ((i ≡ i') × (lex_less [] [] ≡ true)) → (t * 256 + m) * 65536 + i < (t' * 256 + m') * 65536 + i'
      third p q d = ⊎_elim (λ (h : i < i'). omega arith) (λ (h : (i ≡ i') × (lex_less [] [] ≡ true)). false-is-true (unfold lex_less in h.1)) d

      second : t ≡ t' → (m < m') ⊎ ((m ≡ m') × (lex_less (i ∷ []) (i' ∷ []) ≡ true)) → (t * 256 + m) * 65536 + i < (t' * 256 + m') * 65536 + i'
      second p d = ⊎_elim (λ (h : m < m'). omega arith) (λ h. third p h.0 (less-elim i i' [] [] h.1)) d

module _ (t m i t' m' i' p q : ℕ) (small : m < 256) (small' : m' < 256) (few : i < 65536) (few' : i' < 65536) (place : p < 65536) (place' : q < 65536) where
  names-agree :
      (t ∷ m ∷ i ∷ [] ≡ t' ∷ m' ∷ i' ∷ [] → ⊥)
      → leb (name_word t m i p) (name_word t' m' i' q) ≡ lex_less (t ∷ m ∷ i ∷ []) (t' ∷ m' ∷ i' ∷ [])
  unfolding name_word
  names-agree apart = go (compare (t ∷ m ∷ i ∷ []) (t' ∷ m' ∷ i' ∷ []))
    where
      word : ℕ
      word = ((t * 256 + m) * 65536 + i) * 65536 + p

      word' : ℕ
      word' = ((t' * 256 + m') * 65536 + i') * 65536 + q

      go : Compared (t ∷ m ∷ i ∷ []) (t' ∷ m' ∷ i' ∷ []) → leb word word' ≡ lex_less (t ∷ m ∷ i ∷ []) (t' ∷ m' ∷ i' ∷ [])
      go (less h) = le-leb word word' (omega (arith, name-less t m i t' m' i' small small' few few' h)) ∙ sym h
      go (same h) = absurd (apart h)
      go (more h) =
          lt-leb word word' (omega (arith, name-less t' m' i' t m i small' small few' few h))
          ∙ sym (is_false (lex_less (t ∷ m ∷ i ∷ []) (t' ∷ m' ∷ i' ∷ [])) (λ e. less-asymmetric (t ∷ m ∷ i ∷ []) (t' ∷ m' ∷ i' ∷ []) e h))

name-place : (t m i p : ℕ) → p < 65536 → name_word t m i p % 65536 ≡ p
unfolding name_word
name-place t m i p h = omega arith

-- a list by its places
module _ {A : Type 0} (d : A) where
  table-places : (xs : List A) (n : ℕ) → n ≤ length xs → table (λ i. get_or xs i d) n ≡ take n xs
  table-places xs zero h = table_none (λ i. get_or xs i d)
  table-places xs (suc n) h = table_more (λ i. get_or xs i d) n ∙ ap (λ (l : List A). l ++ (get_or xs n d ∷ [])) (table-places xs n (omega arith)) ∙ sym (take-suc xs n d (omega arith))

  pub table-whole : (xs : List A) (n : ℕ) → n ≡ length xs → table (λ i. get_or xs i d) n ≡ xs
  table-whole xs n h = table-places xs n (omega arith) ∙ take_all n xs (omega arith)

from-map : {A B : Type 0} (g : A → B) (f : ℕ → A) (i k : ℕ) → map g (table_from f i k) ≡ table_from (λ j. g (f j)) i k
unfolding table_from
from-map g f i zero = refl
from-map {B = B} g f i (suc k) = ap (λ (l : List B). g (f i) ∷ l) (from-map g f (suc i) k)

table-map : {A B : Type 0} (g : A → B) (f : ℕ → A) (n : ℕ) → map g (table f n) ≡ table (λ j. g (f j)) n
unfolding table
table-map g f n = from-map g f 0 n

nowhere : Interval
nowhere = record { team = 0; member = 0; state = fresh; begin = 0; past = 0 }

slots-table : (fs : List Fork) (n : ℕ) (is : List Interval) (i : ℕ) (s : Slot) → i < length is → get_or (slots_from fs n is) i s ≡ slot_of_interval fs (get_or is i nowhere) (n + i)
unfolding slots_from
slots-table fs n [] i s h = absurd (omega arith)
slots-table fs n (x ∷ is) zero s h = ap (slot_of_interval fs x) (omega arith)
slots-table fs n (x ∷ is) (suc i) s h = slots-table fs (n + 1) is i s (omega arith) ∙ ap (slot_of_interval fs (get_or is i nowhere)) (omega arith)

from_at : {A : Type 0} (f : ℕ → A) (i k j : ℕ) (d : A) → j < k → get_or (table_from f i k) j d ≡ f (i + j)
unfolding table_from
from_at f i zero j d h = absurd (omega arith)
from_at f i (suc k) zero d h = ap f (omega arith)
from_at f i (suc k) (suc j) d h = from_at f (suc i) k j d (omega arith) ∙ ap f (omega arith)

pub table_at : {A : Type 0} (f : ℕ → A) (n i : ℕ) (d : A) → i < n → get_or (table f n) i d ≡ f i
unfolding table
table_at f n i d h = from_at f 0 n i d h ∙ ap f (omega arith)

module _ (s words : List ℕ) (n : ℕ) (a : Accepted s) (x : Listed s n words) where
  abbrev fs : List Fork
  fs = forks_of (chunks_of s)

  -- the interval of a place, and its number
  abbrev at : ℕ → Interval
  at i = get_or (listed s) i nowhere

  abbrev number : ℕ → ℕ
  number i = name_word (at i).team (at i).member (at i).state.barriers i

  held : (i : ℕ) → i < n → slot_at words i ≡ slot_of_interval fs (at i) i
  held i h =
      sym (table_at (slot_at words) n i (slot_at words 0) h)
      ∙ ap (λ (l : List Slot). get_or l i (slot_at words 0)) x.rows
      ∙ slots-table fs 0 (listed s) i (slot_at words 0) (omega (arith, x.count))
      ∙ ap (slot_of_interval fs (at i)) (omega arith)

  numbers : take n words ≡ table number n
  unfolding slot_at slot_of_interval
  numbers =
      sym (table-places 0 words n (omega (arith, x.few, x.long)))
      ∙ table_same (λ i. get_or words i 0) number n (λ j h. ap (λ (l : Slot). l.name) (held j h))

  all-at-places : table at n ≡ listed s
  all-at-places = table-whole nowhere (listed s) n x.count

  present : (i : ℕ) → i < n → Memᴰ (at i) (listed s)
  present i h = subst (Memᴰ (at i)) all-at-places (table-in at n i h)

  member-small : (i : ℕ) → i < n → (at i).member < 256
  unfolding listed interval_name
  member-small i h =
      let from = concat_map-elim intervals_in (chunks_of s) (present i h) in
      let c = from.source in
      let r = run-names (chunk-runs c ((legible s a).formed c from.present)) from.gives in
      let same : (at i).member ≡ c.member = ap (λ (l : List ℕ). get_or l 1 0) r.key in
      omega (arith, same, (member-range s a c from.present).1)

  interval-small : (i : ℕ) → i < n → (at i).state.barriers < 65536
  unfolding slot_at held_in row_made slot_of_interval row_of last_triple
  interval-small i h =
      let same : get_or words (i + 512) 0 % 65536 ≡ (at i).state.barriers = ap (λ (l : Slot). l.row.bid) (held i h) in
      omega (arith, same)

  -- the interval whose place a number holds
  abbrev named : ℕ → Interval
  named w = at (w % 65536)

  named-at : (i : ℕ) → i < n → named (number i) ≡ at i
  named-at i h = ap at (name-place (at i).team (at i).member (at i).state.barriers i (omega (arith, x.few)))

  agreeing : (i k : ℕ) → i + k ≤ n → Distinct (map interval_name (table_from at i k)) → Agreeing interval_name named (table_from number i k)
  unfolding table_from
  agreeing i zero h d = agreeing_nil
  agreeing i (suc k) h d =
      agreeing_cons
      (λ y m.
      let r = from-elim number (suc i) k m in
      behind r.0 y r.1 r.2 r.3)
      (agreeing (suc i) k (omega arith) (distinct_tail d))
    where
      behind : (j y : ℕ) → suc i ≤ j → j < suc i + k → y ≡ number j → leb (number i) y ≡ lex_less (interval_name (named (number i))) (interval_name (named y))
      behind j y l u e =
          rw (e, named-at i (omega arith), named-at j (omega arith))
          (unfold interval_name in
          (names-agree (at i).team (at i).member (at i).state.barriers (at j).team (at j).member (at j).state.barriers i j
          (member-small i (omega arith)) (member-small j (omega arith)) (interval-small i (omega arith)) (interval-small j (omega arith))
          (omega (arith, x.few)) (omega (arith, x.few))
          (λ q. distinct_head d (Memᴰ.cast (unfold interval_name in q) (Memᴰ.map interval_name (from-intro at (suc i) k j l u))))))

  in_order : map named (sorted (take n words)) ≡ intervals_of s
  unfolding intervals_of listed
  in_order =
      ap (λ (ws : List ℕ). map named (sorted ws)) numbers
      ∙ sort-words interval_name named (unfold table in (agreeing 0 n (omega arith) (unfold table in (subst (λ (is : List Interval). Distinct (map interval_name is)) (sym all-at-places) (names-distinct s a)))))
      ∙ ap (sorted_by interval_name) (table-map named number n ∙ table_same (λ i. named (number i)) at n named-at ∙ all-at-places)

  -- the words with their numbers in order
  module _ (words' : List ℕ) (y : Sorted words words' n) where
    abbrev ordered : List ℕ
    ordered = sorted (take n words)

    long : length ordered ≡ n
    long = sorted-length (take n words) ∙ length-take-le n words (omega (arith, x.few, x.long))

    behind-numbers : (i : ℕ) → n ≤ i → get_or words' i 0 ≡ get_or words i 0
    behind-numbers i h =
        let more : i ≡ length ordered + (i - n) = omega (arith, long) in
        ap (λ (ws : List ℕ). get_or ws i 0) y.is
        ∙ ap (λ (k : ℕ). get_or (ordered ++ drop n words) k 0) more
        ∙ get_or-append-add ordered (drop n words) (i - n) 0
        ∙ get_or-drop n words (i - n) 0
        ∙ ap (λ (k : ℕ). get_or words k 0) (omega arith)

    at-number : (k : ℕ) → k < n → get_or words' k 0 ≡ get_or ordered k 0
    at-number k h =
        ap (λ (ws : List ℕ). get_or ws k 0) y.is
        ∙ sym (get_or-take n (ordered ++ drop n words) k 0 h)
        ∙ ap (λ (ws : List ℕ). get_or ws k 0) (take_at ordered (drop n words) n long)

    same_row : (i : ℕ) → i < n → (slot_at words' i).row ≡ row_of fs (at i)
    unfolding slot_at slot_of_interval
    same_row i h =
        rw (behind-numbers (i + 512) (omega (arith, x.few)), behind-numbers (i + 1024) (omega (arith, x.few)))
        (ap (λ (l : Slot). l.row) (held i h))

    -- each number leads to the record of its interval
    abbrev Leads : ℕ → Type 0
    Leads w = (slot_at words' (w % 65536)).row ≡ row_of fs (named w)

    number-leads : (i : ℕ) → i < n → Leads (number i)
    number-leads i h =
        let here = name-place (at i).team (at i).member (at i).state.barriers i (omega (arith, x.few)) in
        ap (λ (k : ℕ). (slot_at words' k).row) here ∙ same_row i h ∙ ap (row_of fs) (sym (named-at i h))

    all-lead : All Leads (take n words)
    all-lead =
        at_all Leads (take n words)
        (λ i h.
        let within : i < n = omega (arith, h, length-take-le n words (omega (arith, x.few, x.long))) in
        subst Leads (sym (ap (λ (ws : List ℕ). get_or ws i 0) numbers ∙ table_at number n i 0 within)) (number-leads i within))

    row_is : (k : ℕ) → k < n → row_in words' k ≡ row_of fs (named (get_or ordered k 0))
    unfolding row_in
    row_is k h =
        ap (λ (w : ℕ). (slot_at words' (w % 65536)).row) (at-number k h)
        ∙ all-at Leads ordered (sorted_all Leads (take n words) all-lead) k (omega (arith, long))

    pub rows-laid : table (row_in words') n ≡ rows_of s
    unfolding rows_of
    rows-laid =
        table_same (row_in words') (λ k. row_of fs (named (get_or ordered k 0))) n row_is
        ∙ sym (table-map (λ w. row_of fs (named w)) (λ k. get_or ordered k 0) n)
        ∙ ap (map (λ (w : ℕ). row_of fs (named w))) (table-whole 0 ordered n (sym long))
        ∙ sym (map-map (row_of fs) named ordered)
        ∙ ap (map (row_of fs)) in_order
