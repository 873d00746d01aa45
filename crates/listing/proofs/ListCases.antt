-- Listing a bundle, case by case: the tables in the work area, what stands in the lent memory, and the answers.
use Prim.Native.Nat.{ℕ, zero, suc, ◌+◌, ◌*◌, ◌/◌, ◌≤◌, ◌<◌}
use mathlib.Core.Path.{◌≡◌, refl, sym, ◌∙◌, ap, ap₂, subst}
use mathlib.Core.Bool.{Bool, true, false, cond, ◌&&◌}
use mathlib.Core.List.{List, [], ◌∷◌, ◌++◌, map}
use native.Mathlib.Omega.{arith}
use native.Mathlib.Nat.{zero-add}
use lib.Dec.{leb}
use lib.ListN.{length, get_or, take, drop, replicate}
use lib.Seq.{get_or-drop, take_at, drop_at}
use borrow.Author.Tests.{lt-ltb, le-ltb, leb-true}
use Rattle.std.specs.declared.result.Result.{Result}
use Rattle.std.specs.declared.result.Result.TheVariants.{Ok}
use Rattle.sorting.specs.Order.{sorted}
use Rattle.sorting.proofs.Insertion.{sorted-length}
use Rattle.bundle.specs.Answer.{Answer, gives, refuses}
use Rattle.bundle.specs.Chunks.{Chunk, chunks_of}
use Rattle.bundle.specs.Check.{check_of, Accepted}
use Rattle.bundle.specs.Walk.{forks_of}
use Rattle.bundle.specs.Index.{table, Indexed}
use Rattle.bundle.specs.declared.index.Fork.{Fork}
use Rattle.bundle.specs.declared.refusal.Refusal.{Refusal}
use Rattle.bundle.proofs.Tests.{and_left, and_right, false-is-true}
use Rattle.bundle.proofs.Tables.{table-length}
use Rattle.bundle.proofs.Reorder.{distinct-members}
use Rattle.verdict.specs.Races.{races_of}
use Rattle.verdict.specs.Working.{access_row_at}
use Rattle.verdict.specs.Linking.{forks_in, fork_for, LineagesFit}
use Rattle.verdict.specs.Tallying.{RowFits, TablesFit}
use Rattle.verdict.specs.Census.{matrix_part, rows_part, RegionsOf, AreaFilled}
use Rattle.verdict.specs.declared.rows.AccessRow.{AccessRow}
use Rattle.verdict.proofs.JudgeCases.{tables-fit, lineages-fit, matrix-long, chunk_count}
use Rattle.listing.specs.Listing.{names_of, numbers_of, totals_of, Outcome, zeros, over, fits_in, all_races, refused_with, whichever, listed_of, listing_of, report_of, outcome_of, race_in, Readable}
use Rattle.listing.specs.Ranking.{order_of, Copied, RowsIn, word_of}
use Rattle.listing.specs.Pushing.{Pushes, all_numbers}
use Rattle.listing.specs.Settling.{Settled, Kept, listed_in}
use Rattle.listing.specs.declared.list.Totals.{Totals}
use Rattle.listing.specs.declared.list.Found.{Found}
use Rattle.listing.specs.declared.list.Listed.{Listed}
use Rattle.listing.specs.declared.list.Listed.TheVariants as Lis
use Rattle.listing.proofs.PushLaws.{pushes-length, pushed_front, all-few}
use Rattle.listing.proofs.OrderLaws.{rank-place}
use Rattle.listing.proofs.BundleNumbers.{names_are, numbers_are, races-counted, reads-back}

-- the words of a part are words of the whole
take-small : (n : ℕ) (l : List ℕ) (i : ℕ) → get_or (take n l) i 0 ≤ get_or l i 0
take-small zero l i = omega arith
take-small (suc n) [] i = omega arith
take-small (suc n) (x ∷ l) zero = omega arith
take-small (suc n) (x ∷ l) (suc i) = take-small n l i

rows-small : (area : List ℕ) → ((i : ℕ) → get_or area i 0 < 4294967296) → (i : ℕ) → get_or (rows_part area) i 0 < 4294967296
rows-small area h i = omega (arith, take-small 8192 (drop 8192 area) i, get_or-drop 8192 area i 0, h (8192 + i))

module _
    (s area : List ℕ) {g n : ℕ} (a : AreaFilled s area g n) (large : 16384 ≤ length area)
    {before ordered : List ℕ} (copied : Copied (rows_part area) (order_of (rows_part area) n) n before ordered) (whole : length before ≡ 8192) where
  few : n ≤ 1024
  few = omega (arith, a.access_count, a.rows.few)

  pub ordered-in : RowsIn ordered n
  ordered-in = record { few = few; whole = omega (arith, copied.long) }

  -- each row in order is one of those before
  each_row : (P : AccessRow → Type 0) → ((i : ℕ) → i < n → P (access_row_at (rows_part area) i)) → (i : ℕ) → i < n → P (access_row_at ordered i)
  each_row P f i h =
      let p = rank-place (rows_part area) n few i h in
      subst P (sym (copied.each i h ∙ ap (access_row_at (rows_part area)) p.named)) (f p.place p.below)

  tables : TablesFit (matrix_part area) ordered n
  tables =
      record {
        whole = matrix-long area large;
        rows_whole = omega (arith, copied.long);
        few = few;
        fit = each_row RowFits (tables-fit s area a large).fit;
      }

  pub ordered-fits :
      Accepted s
      → {forks : List ℕ} {regions : ℕ}
      → RegionsOf s forks regions
      → TablesFit (matrix_part area) ordered n × LineagesFit ordered forks regions n × (16384 ≤ length area)
  ordered-fits ok {forks} {regions} r =
      let f = lineages-fit s ok r a.rows a.access_count in (
        tables,
        record {
          few = f.few;
          rooted = f.rooted;
          rows_rooted =
              record { teams = each_row (λ (x : AccessRow). (x.team ≡ 0 → ⊥) → fork_for forks regions x.team < regions) f.rows_rooted.teams };
        },
        large,
      )

  pub races-few : (fs : List Fork) {numbers pushed : List ℕ} {races : ℕ} → Pushes (all_numbers (matrix_part area) fs ordered n n) numbers 0 pushed races → races < 4294967296
  races-few fs p = omega (arith, p.counted, all-few (matrix_part area) fs ordered n n few, few)

  module _ (ok : Accepted s) {forks : List ℕ} {regions : ℕ} (r : RegionsOf s forks regions) (small : (i : ℕ) → get_or area i 0 < 4294967296)
      (names numbers spare : List ℕ) {pushed : List ℕ} {races : ℕ}
      (p' : Pushes (all_numbers (matrix_part area) (forks_in forks regions) ordered n n) numbers 0 pushed races) where
    abbrev cs : List Chunk
    cs = chunks_of s

    abbrev met : List ℕ
    met = all_numbers (matrix_part area) (forks_of cs) ordered n n

    p : Pushes met numbers 0 pushed races
    p = subst (λ (fs : List Fork). Pushes (all_numbers (matrix_part area) fs ordered n n) numbers 0 pushed races) r.rows p'

    names-of : table (word_of ordered) (2 * n) ≡ names_of cs
    names-of = names_are cs (distinct-members s ok) a.paths a.rows (rows-small area small) n a.access_count copied

    numbers_of_lem : sorted met ≡ numbers_of cs
    numbers_of_lem = numbers_are cs (distinct-members s ok) a.paths a.rows (rows-small area small) n a.access_count copied

    pub race_count : races ≡ length (races_of cs)
    race_count = p.counted ∙ zero-add (length met) ∙ races-counted cs (distinct-members s ok) a.paths a.rows (rows-small area small) n a.access_count copied

    module _ {t : Bool} {names' numbers' spare' : List ℕ} (q : Settled ordered n races t names pushed spare names' numbers' spare') where
      fits-as : t ≡ fits_in cs names numbers spare
      unfolding fits_in
      fits-as =
          q.test
          ∙ ap (λ (k : ℕ). leb (2 * n) (length names) && (leb races k && leb (races / 2) (length spare))) (pushes-length p)
          ∙ ap₂ (λ (x y : ℕ). leb (2 * x) (length names) && (leb y (length numbers) && leb (y / 2) (length spare))) a.access_count race_count

      -- the numbers in front, sorted
      sorted-over : races ≤ length numbers → sorted (take races pushed) ++ drop races pushed ≡ over (numbers_of cs) numbers
      sorted-over h =
          let long : length met ≡ races = omega (arith, p.counted) in
          let front : pushed ≡ met ++ drop races numbers = pushed_front p (omega arith) ∙ ap (λ (k : ℕ). met ++ drop k numbers) long in
          let total : races ≡ length (numbers_of cs) = sym long ∙ sym (sorted-length met) ∙ ap length numbers_of_lem in
          ap₂ (λ (x y : List ℕ). sorted x ++ y)
          (ap (take races) front ∙ take_at met (drop races numbers) races long)
          (ap (drop races) front ∙ drop_at met (drop races numbers) races long)
          ∙ ap₂ (λ (x : List ℕ) (k : ℕ). x ++ drop k numbers) numbers_of_lem total

      names-over : table (word_of ordered) (2 * n) ++ drop (2 * n) names ≡ over (names_of cs) names
      names-over =
          ap₂ (λ (x : List ℕ) (k : ℕ). x ++ drop k names) names-of (sym (table-length (word_of ordered) (2 * n)) ∙ ap length names-of)

      has_room : t ≡ true → leb races (length numbers) ≡ true
      has_room e =
          ap (leb races) (sym (pushes-length p))
          ∙ and_left (leb races (length pushed)) (leb (races / 2) (length spare))
          (and_right (leb (2 * n) (length names)) (leb races (length pushed) && leb (races / 2) (length spare)) (sym q.test ∙ e))

      numbers-in : (b : Bool) → t ≡ b → cond b (sorted (take races pushed) ++ drop races pushed) (zeros pushed) ≡ cond b (over (numbers_of cs) numbers) (zeros numbers)
      numbers-in true e = sorted-over (leb-true races (length numbers) (has_room e))
      numbers-in false e = ap (λ (k : ℕ). replicate k 0) (pushes-length p)

      read-in : (b : Bool) → t ≡ b → b ≡ true → map (race_in names') (take races numbers') ≡ races_of cs
      read-in false e h = false-is-true h
      read-in true e h =
          let long : length met ≡ races = omega (arith, p.counted) in
          let held : names' ≡ table (word_of ordered) (2 * n) ++ drop (2 * n) names = q.names_are ∙ ap (λ (b : Bool). cond b (table (word_of ordered) (2 * n) ++ drop (2 * n) names) (zeros names)) e in
          let room : races ≤ length numbers = leb-true races (length numbers) (has_room e) in
          let front : pushed ≡ met ++ drop races numbers = pushed_front p (omega arith) ∙ ap (λ (k : ℕ). met ++ drop k numbers) long in
          let put : numbers' ≡ sorted met ++ drop races pushed =
          q.numbers_are
          ∙ ap (λ (b : Bool). cond b (sorted (take races pushed) ++ drop races pushed) (zeros pushed)) e
          ∙ ap (λ (l : List ℕ). sorted l ++ drop races pushed) (ap (take races) front ∙ take_at met (drop races numbers) races long)
          in
          let taken : take races numbers' ≡ sorted met = ap (take races) put ∙ take_at (sorted met) (drop races pushed) races (sorted-length met ∙ long) in
          ap₂ (λ (a b : List ℕ). map (race_in a) b) held taken
          ∙ reads-back cs (distinct-members s ok) a.paths a.rows (rows-small area small) n a.access_count copied tables.fit (drop (2 * n) names)

      pub kept : {count : ℕ} → count ≡ races → Kept s (record { segments = g; accesses = n; races = count; whole = t }) names numbers spare names' numbers' spare'
      kept e =
          record {
            segment_count = a.segment_count;
            access_count = a.access_count;
            race_count = e ∙ race_count;
            test = fits-as;
            names_are = q.names_are ∙ ap (λ (l : List ℕ). cond t l (zeros names)) names-over;
            numbers_are = q.numbers_are ∙ numbers-in t refl;
            spare_is = q.spare_is;
            read_back = λ h. ap (λ (k : ℕ). map (race_in names') (take k numbers')) e ∙ read-in t refl h;
          }

-- the answers
module _ (s : List ℕ) {n m : ℕ} {chunks forks : List ℕ} (x : Indexed s n m chunks forks) where
  pub listed-as :
      (work names numbers spare : List ℕ) (f : Found) {names' numbers' spare' : List ℕ} {r : Listed}
      → Kept s f names numbers spare names' numbers' spare'
      → r ≡ listed_in n f
      → outcome_of (Ok r) work names' numbers' spare' ≡ listed_of s work names numbers spare
  unfolding listed_of all_races totals_of
  listed-as work names numbers spare f {names'} {numbers'} {spare'} {r} k e =
      let totals : Totals = record { chunks = n; segments = f.segments; accesses = f.accesses; races = f.races } in
      let counts : totals ≡ totals_of (chunks_of s) =
      λ i. record { chunks = chunk_count s n m chunks forks x i; segments = k.segment_count i; accesses = k.access_count i; races = k.race_count i }
      in
      let answer : report_of (Ok r) ≡ gives (fits_in (chunks_of s) names numbers spare, totals_of (chunks_of s)) =
      ap (λ (l : Listed). report_of (Ok l)) e ∙ report totals f.whole ∙ ap₂ (λ (b : Bool) (t : Totals). given b t) k.test counts
      in
      let all : outcome_of (Ok r) work names' numbers' spare' ≡ all_races (chunks_of s) work names numbers spare =
      λ i.
      record {
        answer = answer i;
        work = work;
        names = (k.names_are ∙ ap (λ (b : Bool). cond b (over (names_of (chunks_of s)) names) (zeros names)) k.test) i;
        numbers = (k.numbers_are ∙ ap (λ (b : Bool). cond b (over (numbers_of (chunks_of s)) numbers) (zeros numbers)) k.test) i;
        spare = k.spare_is i;
      }
      in
      all
      ∙ sym
      (ap
      (λ (c : Answer (Unit {0})).
      whichever c (λ u. all_races (chunks_of s) work names numbers spare) (λ number place. refused_with number place work names numbers spare))
      x.accepted)
    where
      given : Bool → Totals → Answer (Bool × Totals)
      given b t = gives (b, t)

      report : (t : Totals) (b : Bool) → report_of (Ok (cond b (Lis.Whole t) (Lis.TooMany t))) ≡ given b t
      report t true = refl
      report t false = refl

  pub listed-readable :
      (names numbers spare : List ℕ) (f : Found) {names' numbers' spare' : List ℕ} {r : Listed}
      → Kept s f names numbers spare names' numbers' spare'
      → r ≡ listed_in n f
      → Readable s (Ok r) names' numbers'
  listed-readable names numbers spare f {names'} {numbers'} k e = subst (λ (x : Listed). Readable s (Ok x) names' numbers') (sym e) (go f.whole refl)
    where
      totals : Totals
      totals = record { chunks = n; segments = f.segments; accesses = f.accesses; races = f.races }

      go : (b : Bool) → f.whole ≡ b → Readable s (Ok (cond b (Lis.Whole totals) (Lis.TooMany totals))) names' numbers'
      go true h = k.read_back h
      go false h = tt

module _ (s : List ℕ) {number place : ℕ} (e : check_of s ≡ refuses number place) where
  pub listing-refused :
      (work names numbers spare : List ℕ) → refused_with number place work names numbers spare ≡ listed_of s work names numbers spare
  unfolding listed_of
  listing-refused work names numbers spare =
      sym
      (ap
      (λ (c : Answer (Unit {0})).
      whichever c (λ u. all_races (chunks_of s) work names numbers spare) (λ n p. refused_with n p work names numbers spare))
      e)

pub listing-small :
    (s work names numbers spare : List ℕ) → length work < 16384 → listing_of s work names numbers spare ≡ refused_with 13 0 work names numbers spare
unfolding listing_of
listing-small s work names numbers spare h = rw (lt-ltb (length work) 16384 h)

-- the same outcome with another work area
abbrev with_work : List ℕ → Outcome → Outcome
with_work work o = record { answer = o.answer; work = work; names = o.names; numbers = o.numbers; spare = o.spare }

listed-work : (s work other names numbers spare : List ℕ) → with_work other (listed_of s work names numbers spare) ≡ listed_of s other names numbers spare
unfolding listed_of all_races
listed-work s work other names numbers spare = go (check_of s)
  where
    all : List ℕ → Unit {0} → Outcome
    all w u = all_races (chunks_of s) w names numbers spare

    turned-away : List ℕ → ℕ → ℕ → Outcome
    turned-away w number place = refused_with number place w names numbers spare

    go : (c : Answer (Unit {0})) → with_work other (whichever c (all work) (turned-away work)) ≡ whichever c (all other) (turned-away other)
    go (gives u) = refl
    go (refuses number place) = refl

pub listing-large :
    (s work names numbers spare : List ℕ) (r : Result Listed Refusal) (used : List ℕ) {work' names' numbers' spare' : List ℕ}
    → 16384 ≤ length work
    → outcome_of r work names' numbers' spare' ≡ listed_of s work names numbers spare
    → length used ≡ length work
    → work' ≡ replicate (length used) 0
    → listing_of s work names numbers spare ≡ outcome_of r work' names' numbers' spare'
listing-large s work names numbers spare r used {work'} {names'} {numbers'} {spare'} h e l c =
    large-area
    ∙ sym (listed-work s work (zeros work) names numbers spare)
    ∙ ap (with_work (zeros work)) (sym e)
    ∙ ap (λ (w : List ℕ). outcome_of r w names' numbers' spare') (sym (c ∙ ap (λ (k : ℕ). replicate k 0) l))
  where
    large-area : listing_of s work names numbers spare ≡ listed_of s (zeros work) names numbers spare
    large-area = unfold listing_of in (ap (λ (t : Bool). cond t (refused_with 13 0 work names numbers spare) (listed_of s (zeros work) names numbers spare)) (le-ltb (length work) 16384 h))
