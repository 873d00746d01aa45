-- The functions over pairs of rows, case by case.
use Prim.Native.Nat.{ℕ, zero, suc, ◌+◌, ◌*◌, ◌%◌, ◌≤◌, ◌<◌}
use mathlib.Core.Path.{◌≡◌, refl, sym, ◌∙◌, ap, ap₂, subst}
use mathlib.Core.Logic.{⊎_elim}
use mathlib.Core.Bool.{Bool, true, false, cond, not, ◌&&◌, ◌||◌}
use mathlib.Core.List.{List, [], ◌++◌}
use mathlib.Core.Option.{Option, none, some}
use native.Mathlib.Omega.{arith}
use native.Mathlib.Numerals.{add-one}
use lib.Dec.{eqb, ltb, leb}
use borrow.Author.Tests.{ltb-true, leb-true, eqb-true}
use Rattle.bundle.proofs.Tests.{false-is-true, both, and_left, and_right, or_cases, is_false, cond-elim}
use Rattle.bundle.proofs.Ranges.{range-parts, size-within}
use Rattle.std.specs.declared.option.Option as Rust
use Rattle.std.specs.declared.option.Option.TheVariants.{None, Some}
use Rattle.order.specs.Ranges.{shared_byte}
use Rattle.order.specs.Pairs.{InOrder}
use Rattle.bundle.specs.Lists.{option_of}
use Rattle.order.proofs.SharedByte.{shared-some}
use Rattle.order.proofs.PairBytes.{base-shared, touch-fits}
use Rattle.verdict.specs.Accesses.{lex_less, name_key, name_below, key_of, race_key, race_below}
use Rattle.verdict.specs.Working.{access_row_at}
use Rattle.verdict.specs.Tallying.{
  row_range,
  row_name,
  rows_meet,
  rows_clash,
  row_element,
  race_from,
  race_between,
  race_at_byte,
  above_at,
  above_key,
  clash_race,
  pair_race,
  below_least,
  replaces,
  comes_later,
  name_in,
  SideOf,
  row_in,
  least_race,
  tally_in,
  counted_in,
  before_least,
  after_least,
  Adds,
  keeping,
  counting,
  add_race,
  add_pair,
  tally_row,
  tally_all,
  RowFits,
  TablesFit,
}
use Rattle.verdict.specs.declared.race.Name.{Name}
use Rattle.bundle.specs.declared.index.Fork.{Fork}
use Rattle.verdict.specs.declared.race.Race.{Race}
use Rattle.verdict.specs.declared.rows.AccessRow.{AccessRow}
use Rattle.verdict.specs.declared.pairs.Key.{Key}
use Rattle.verdict.specs.declared.pairs.Tally.{Tally}
use Rattle.verdict.specs.declared.pairs.Sum.{Sum}
use Rattle.verdict.proofs.Lexical.{less-elim, less-head, less-tail, less-asymmetric}

-- one more race
module _ (key : Rust.Option Key) (t : Tally) (r : Race) {b : Bool} (e : b ≡ replaces key t r) where
  pub race-kept : b ≡ true → keeping t r ≡ add_race key t r
  unfolding add_race
  race-kept h = sym (ap (λ (x : Bool). cond x (keeping t r) (counting t)) (sym e ∙ h))

  pub race-counted : b ≡ false → counting t ≡ add_race key t r
  unfolding add_race
  race-counted h = sym (ap (λ (x : Bool). cond x (keeping t r) (counting t)) (sym e ∙ h))

-- a lower name comes first, whatever stands behind the names
name-first : (a b : Name) (c d : List ℕ) → name_below a b ≡ true → lex_less (name_key a ++ c) (name_key b ++ d) ≡ true
unfolding name_below name_key
name-first a b c d e =
    ⊎_elim (less-head _ _ _ _)
    (λ p.
    less-tail _ _ _ _ p.0
    (⊎_elim (less-head _ _ _ _)
    (λ q.
    less-tail _ _ _ _ q.0
    (⊎_elim (less-head _ _ _ _) (λ (r : (a.number ≡ b.number) × (lex_less [] [] ≡ true)). false-is-true (unfold lex_less in r.1)) (less-elim _ _ _ _ q.1)))
    (less-elim _ _ _ _ p.1)))
    (less-elim _ _ _ _ e)

pick-one : (x y p q : Bool) → (x || y && (p && q)) ≡ true → (x || y && p) ≡ true
pick-one true y p q e = refl
pick-one false y p q e = both (and_left y (p && q) e) (and_left p q (and_right y (p && q) e))

pick_other : (x y p q : Bool) → (x || y && (p && q)) ≡ true → (x || y && q) ≡ true
pick_other true y p q e = refl
pick_other false y p q e = both (and_left y (p && q) e) (and_right p q (and_right y (p && q) e))

-- a race that comes after the least so far is only counted
module _ (least : Race) (one other : AccessRow) (w : ℕ) where
  after-first : (r : Race) → (ltb least.witness r.witness || eqb least.witness r.witness && name_below least.first r.first) ≡ true → race_below least r ≡ true
  unfolding race_below race_key key_of
  after-first r e =
      let lw : ℕ = least.witness in
      let rw' : ℕ = r.witness in
      let lf : Name = least.first in
      let rf : Name = r.first in
      let lk : List ℕ = name_key lf ++ name_key least.second in
      let rk : List ℕ = name_key rf ++ name_key r.second in
      ⊎_elim (λ (h : ltb lw rw' ≡ true). less-head lw rw' lk rk (ltb-true lw rw' h))
      (λ (h : (eqb lw rw' && name_below lf rf) ≡ true).
      less-tail lw rw' lk rk (eqb-true lw rw' (and_left (eqb lw rw') (name_below lf rf) h))
      (name-first lf rf (name_key least.second) (name_key r.second) (and_right (eqb lw rw') (name_below lf rf) h)))
      (or_cases (ltb lw rw') (eqb lw rw' && name_below lf rf) e)

  later-below : comes_later least.witness least.first (row_name one) (row_name other) w ≡ true → race_below least (race_between one other w) ≡ true
  unfolding comes_later race_between
  later-below h =
      let above : Bool = ltb least.witness w in
      let same : Bool = eqb least.witness w in
      let one-above : Bool = name_below least.first (row_name one) in
      let other-above : Bool = name_below least.first (row_name other) in
      cond-elim (λ (r : Race). race_below least r ≡ true) (name_below (row_name one) (row_name other)) (race_from one other w) (race_from other one w)
      (λ i. after-first (race_from one other w) (pick-one above same one-above other-above h))
      (λ i. after-first (race_from other one w) (pick_other above same one-above other-above h))

  not-replaced :
      (key : Rust.Option Key) (t : Tally)
      → t.least ≡ Some least
      → comes_later least.witness least.first (row_name one) (row_name other) w ≡ true
      → replaces key t (race_between one other w) ≡ false
  unfolding race_below
  not-replaced key t f e =
      let r : Race = race_between one other w in
      is_false (replaces key t r)
      (λ q.
      less-asymmetric (race_key least) (race_key r) (later-below e)
      (ap (λ (o : Rust.Option Race). below_least o r) (sym f) ∙ and_right (above_key key r) (below_least t.least r) q))

  pub later-counted :
      (key : Rust.Option Key) (t : Tally)
      → t.least ≡ Some least
      → comes_later least.witness least.first (row_name one) (row_name other) w ≡ true
      → counting t ≡ add_race key t (race_between one other w)
  later-counted key t f h = race-counted key t (race_between one other w) (sym (not-replaced key t f h)) refl

-- the code's test for a race that comes later
pub later-told :
    (one other : AccessRow) (s : Sum) (w : ℕ) {first a b : Name} {p q : Bool}
    → first ≡ name_in s.least.first
    → a ≡ row_name one
    → p ≡ name_below first a
    → b ≡ row_name other
    → q ≡ name_below first b
    → (s.found && (ltb s.least.witness w || eqb s.least.witness w && (p && q))) ≡ after_least s (row_name one) (row_name other) w
unfolding comes_later
later-told one other s w d f h g i =
    ap₂ (λ (x y : Bool). s.found && (ltb s.least.witness w || eqb s.least.witness w && (x && y)))
    (h ∙ ap₂ name_below d f)
    (i ∙ ap₂ name_below d g)

-- a race added to a tally in few numbers
module _ (key : Rust.Option Key) (sum : Sum) (one other : AccessRow) (i j w : ℕ) where
  -- the lower name first
  module _ {a b : Name} (p : a ≡ row_name one) (q : b ≡ row_name other) where
    before :
        (found : Bool) (race : Race)
        → (not found || race_below (race_from one other w) race) ≡ below_least (cond found (Some race) None) (race_from one other w)
    before true race = refl
    before false race = refl

    replaced : (rows : List ℕ) → (above_at key w a b && before_least sum w a b) ≡ replaces key (tally_in rows sum) (race_from one other w)
    unfolding race_below race_key
    replaced rows =
        ap₂ (λ (x y : Name). above_at key w x y && before_least sum w x y) p q
        ∙ ap (λ (x : Bool). above_at key w (row_name one) (row_name other) && x) (before sum.found (least_race rows sum.least))

    module _ {t : Bool} (e : t ≡ (above_at key w a b && before_least sum w a b)) where
      pub sum_kept :
          i < 1024 → j < 1024 → t ≡ true → {c d : ℕ} → SideOf a i c → SideOf b j d
          → Adds key one i other j (some (race_from one other w)) sum (record { count = sum.count + 1; found = true; least = record { witness = w; first = c; second = d } })
      unfolding add_pair
      sum_kept hi hj h {c} {d} s u =
          record {
            added = λ rows o v. kept-race rows o v ∙ race-kept key (tally_in rows sum) (race_from one other w) (e ∙ replaced rows) h;
          }
        where
          at : (side place : ℕ) → place < 1024 → side % 65536 ≡ place → side % 1024 ≡ place
          at side place l r = omega arith

          kept-race :
              (rows : List ℕ) → one ≡ access_row_at rows i → other ≡ access_row_at rows j
              → tally_in rows (record { count = sum.count + 1; found = true; least = record { witness = w; first = c; second = d } })
              ≡ keeping (tally_in rows sum) (race_from one other w)
          kept-race rows o v =
              let row : row_in rows c ≡ one = ap (access_row_at rows) (at c i hi s.rest_in) ∙ sym o in
              let row' : row_in rows d ≡ other = ap (access_row_at rows) (at d j hj u.rest_in) ∙ sym v in
              let name : name_in c ≡ row_name one = s.name_in ∙ p in
              let name' : name_in d ≡ row_name other = u.name_in ∙ q in
              λ k.
              record {
                count = sum.count + 1;
                least =
                    Some
                    (record {
                      witness = w;
                      first = name k;
                      first_site = (row k).site;
                      first_element = row_element (row k) w;
                      second = name' k;
                      second_site = (row' k).site;
                      second_element = row_element (row' k) w;
                    });
              }

      pub sum-counted : t ≡ false → {after : Sum} → after ≡ counted_in sum → Adds key one i other j (some (race_from one other w)) sum after
      unfolding add_pair
      sum-counted h f =
          record {
            added = λ rows o v. ap (tally_in rows) f ∙ race-counted key (tally_in rows sum) (race_from one other w) (e ∙ replaced rows) h;
          }

    -- which of the two names is lower
    module _ {t : Bool} (e : t ≡ name_below a b) where
      below_rows : t ≡ name_below (row_name one) (row_name other)
      below_rows = e ∙ ap₂ name_below p q

      pub one-first : t ≡ true → {after : Sum} → Adds key one i other j (some (race_from one other w)) sum after → Adds key one i other j (some (race_between one other w)) sum after
      unfolding race_between
      one-first h {after} f =
          subst (λ (x : Bool). Adds key one i other j (some (cond x (race_from one other w) (race_from other one w))) sum after)
          (sym (sym below_rows ∙ h)) f

      pub other-first : t ≡ false → {after : Sum} → Adds key other j one i (some (race_from other one w)) sum after → Adds key one i other j (some (race_between one other w)) sum after
      unfolding race_between
      other-first h {after} f =
          subst (λ (x : Bool). Adds key one i other j (some (cond x (race_from one other w) (race_from other one w))) sum after)
          (sym (sym below_rows ∙ h)) (record { added = λ rows o v. f.added rows v o })

  pub later-summed :
      {t : Bool}
      → t ≡ after_least sum (row_name one) (row_name other) w
      → t ≡ true
      → {after : Sum}
      → after ≡ counted_in sum
      → Adds key one i other j (some (race_between one other w)) sum after
  unfolding add_pair
  later-summed p h f =
      let e : (sum.found && comes_later sum.least.witness (name_in sum.least.first) (row_name one) (row_name other) w) ≡ true = sym p ∙ h in
      record {
        added = λ rows o v.
            ap (tally_in rows) f
            ∙ later-counted (least_race rows sum.least) one other w key (tally_in rows sum)
            (ap (λ (b : Bool). cond b (Some (least_race rows sum.least)) None) (and_left _ _ e)) (and_right _ _ e);
      }

-- the lowest shared byte of two rows
module _ (one other : AccessRow) (fits : RowFits one) (fits' : RowFits other) where
  ordered : one.base ≤ other.base → InOrder (row_range one) (row_range other)
  ordered h =
      let a = range-parts (row_range one) fits.range in
      let b = range-parts (row_range other) fits'.range in
      record {
        lower_counted = a.counted;
        lower_sized = (size-within one.size a.sized).0;
        upper_counted = b.counted;
        upper_sized = (size-within other.size b.sized).0;
        bases = h;
      }

  pub base-near :
      {b : Bool}
      → b ≡ (leb one.base other.base && ltb other.base (one.base + one.size))
      → b ≡ true
      → some other.base ≡ shared_byte (row_range one) (row_range other)
  base-near e h =
      let x : Bool = leb one.base other.base in
      let y : Bool = ltb other.base (one.base + one.size) in
      let up = leb-true one.base other.base (and_left x y (sym e ∙ h)) in
      let in-it = ltb-true other.base (one.base + one.size) (and_right x y (sym e ∙ h)) in
      base-shared (row_range one) (row_range other) (ordered up) (omega arith)

module _ (one other : AccessRow) (l : Rust.Option ℕ) (s : option_of l ≡ shared_byte (row_range one) (row_range other)) where
  pub byte_fits : RowFits one → {w : ℕ} → l ≡ Some w → w < 4294967296
  byte_fits fits {w} h =
      touch-fits (row_range one) w fits.range (shared-some (row_range one) (row_range other) w (sym s ∙ ap option_of h)).one

  -- two rows that clash
  module _ (key : Rust.Option Key) (i j : ℕ) (sum : Sum) where
    clashing : {k : Rust.Option ℕ} → l ≡ k → race_at_byte one other (option_of k) ≡ race_at_byte one other (shared_byte (row_range one) (row_range other))
    clashing h = ap (race_at_byte one other) (sym (ap option_of h) ∙ s)

    pub clash-added :
        {w : ℕ} {after : Sum}
        → l ≡ Some w
        → Adds key one i other j (some (race_between one other w)) sum after
        → Adds key one i other j (race_at_byte one other (shared_byte (row_range one) (row_range other))) sum after
    clash-added {after = after} h a = subst (λ (o : Option Race). Adds key one i other j o sum after) (clashing h) a

    pub clash-apart : l ≡ None → Adds key one i other j (race_at_byte one other (shared_byte (row_range one) (row_range other))) sum sum
    unfolding add_pair
    clash-apart h =
        subst (λ (o : Option Race). Adds key one i other j o sum sum) (clashing h) (record { added = λ rows p q. refl })

-- a row and the j-th
module _ (m : List ℕ) (fs : List Fork) (rows : List ℕ) (one : AccessRow) (j : ℕ) (key : Rust.Option Key) (t : Tally) {c : Bool}
    (e : c ≡ (rows_meet one (access_row_at rows j) && rows_clash m fs one (access_row_at rows j))) where
  abbrev shared : AccessRow → Option Race
  shared other = race_at_byte one other (shared_byte (row_range one) (row_range other))

  both-tests : (x y : Bool) (o : Option Race) → cond x (cond y o none) none ≡ cond (x && y) o none
  both-tests true y o = refl
  both-tests false y o = refl

  one-test : pair_race m fs one (access_row_at rows j) ≡ cond c (shared (access_row_at rows j)) none
  unfolding pair_race clash_race
  one-test =
      both-tests (rows_meet one (access_row_at rows j)) (rows_clash m fs one (access_row_at rows j)) (shared (access_row_at rows j))
      ∙ ap (λ (x : Bool). cond x (shared (access_row_at rows j)) none) (sym e)

  pub clash-fails : c ≡ false → {r : Tally} → r ≡ t → r ≡ add_pair key t (pair_race m fs one (access_row_at rows j))
  unfolding add_pair
  clash-fails h g = g ∙ sym (ap (add_pair key t) (one-test ∙ ap (λ (x : Bool). cond x (shared (access_row_at rows j)) none) h))

  pub clash-passes :
      c ≡ true → {other : AccessRow} → other ≡ access_row_at rows j → {r : Tally}
      → r ≡ add_pair key t (shared other)
      → r ≡ add_pair key t (pair_race m fs one (access_row_at rows j))
  clash-passes h f g =
      g ∙ ap (λ (x : AccessRow). add_pair key t (shared x)) f
      ∙ sym (ap (add_pair key t) (one-test ∙ ap (λ (x : Bool). cond x (shared (access_row_at rows j)) none) h))

-- the counts
race_count : (key : Rust.Option Key) (t : Tally) (r : Race) → (add_race key t r).count ≡ t.count + 1
unfolding add_race
race_count key t r = go (replaces key t r)
  where
    go : (x : Bool) → ◌≡◌ {A = ℕ} (cond {A = Tally} x (keeping t r) (counting t)).count (t.count + 1)
    go true = refl
    go false = refl

pub pair-count : (key : Rust.Option Key) (t : Tally) (o : Option Race) → (add_pair key t o).count ≤ t.count + 1
unfolding add_pair
pair-count key t none = omega arith
pair-count key t (some r) = omega (arith, race_count key t r)

-- fewer rows fit too
pub fewer-rows : {m rows : List ℕ} {n k : ℕ} → TablesFit m rows n → k ≤ n → TablesFit m rows k
fewer-rows g h =
    record { whole = g.whole; rows_whole = g.rows_whole; few = omega (arith, g.few); fit = λ j l. g.fit j (omega arith) }

module _ (m : List ℕ) (fs : List Fork) (rows : List ℕ) (key : Rust.Option Key) where
  pub row_count : (one : AccessRow) (t : Tally) (j : ℕ) → (tally_row m fs rows key one t j).count ≤ t.count + j
  unfolding tally_row
  row_count one t zero = omega arith
  row_count one t (suc j) =
      omega (arith, row_count one t j, pair-count key (tally_row m fs rows key one t j) (pair_race m fs one (access_row_at rows j)))

  pub all-count : (i : ℕ) → i ≤ 1024 → (tally_all m fs rows key i).count ≤ i * 1024
  unfolding tally_all
  all-count zero h = omega arith
  all-count (suc i) h =
      omega (arith, all-count i (omega arith), row_count (access_row_at rows i) (tally_all m fs rows key i) i)

  -- one turn of each loop
  pub row_more :
      (one : AccessRow) (t : Tally) (j : ℕ) {u v : Tally}
      → u ≡ tally_row m fs rows key one t j
      → v ≡ add_pair key u (pair_race m fs one (access_row_at rows j))
      → v ≡ tally_row m fs rows key one t (j + 1)
  row_more one t j p q =
      rw add-one (unfold tally_row in (q ∙ ap (λ (x : Tally). add_pair key x (pair_race m fs one (access_row_at rows j))) p))

  pub all_more :
      (i : ℕ) {u v : Tally}
      → u ≡ tally_all m fs rows key i
      → v ≡ tally_row m fs rows key (access_row_at rows i) u i
      → v ≡ tally_all m fs rows key (i + 1)
  all_more i p q =
      rw add-one (unfold tally_all in (q ∙ ap (λ (y : Tally). tally_row m fs rows key (access_row_at rows i) y i) p))

  -- and the last
  pub all-all : (n i : ℕ) {u : Tally} → i ≤ n → n ≤ i → u ≡ tally_all m fs rows key i → u ≡ tally_all m fs rows key n
  all-all n i h l e = let q : i ≡ n = omega arith in e ∙ ap (tally_all m fs rows key) q

  -- what a turn wants
  pub all_fit :
      (n i : ℕ) {u : Tally} → TablesFit m rows n → i < n → u ≡ tally_all m fs rows key i → TablesFit m rows (i + 1) × (u.count + i ≤ 4294967295)
  all_fit n i g h e = (
    fewer-rows g (omega arith),
    omega (arith, g.few, ap (λ (x : Tally). x.count) e, all-count i (omega (arith, g.few))),
  )
