-- The tally over all pairs: as many races as the bundle has, and the first of them above the key.
use Prim.Native.Nat.{ℕ, zero, suc, ◌+◌, ◌≤◌}
use mathlib.Core.Path.{◌≡◌, refl, sym, ◌∙◌, ap, subst}
use mathlib.Core.Logic.{⊎_elim}
use mathlib.Core.Bool.{Bool, true, false, cond, ◌&&◌}
use mathlib.Core.List.Memᴰ
use mathlib.Core.List.Permᴰ
use mathlib.Core.List.{
  List,
  [],
  ◌∷◌,
  ◌++◌,
  map,
  append-nil,
  append_assoc,
  Memᴰ,
  Permᴰ,
}
use mathlib.Core.Option.{Option, none, some}
use native.Mathlib.Omega.{arith}
use lib.ListN.{length, take, get_elem?, length-append}
use lib.Seq.{take-length}
use Rattle.std.specs.declared.option.Option as Rust
use Rattle.std.specs.declared.option.Option.TheVariants.{None, Some}
use Rattle.bundle.specs.Lists.{first, option_of}
use Rattle.bundle.specs.Walk.{Segment, forks_of}
use Rattle.bundle.specs.declared.index.Fork.{Fork}
use Rattle.bundle.specs.Chunks.{Chunk}
use Rattle.bundle.proofs.Tests.{and_left, and_right, both, not-both, is_false}
use Rattle.bundle.proofs.ListLaws.{perm-mem, perm-length, Distinct}
use Rattle.bundle.proofs.Places.{member_key}
use Rattle.verdict.specs.Graph.{segments_of}
use Rattle.verdict.specs.GraphTests.{closure_of}
use Rattle.verdict.specs.Accesses.{NamedAccess, name_key, name_below, race_below, accesses_of}
use Rattle.verdict.specs.RaceLists.{clashes, race_of, races_among, races_of}
use Rattle.verdict.specs.Matrix.{PathBits}
use Rattle.verdict.specs.Working.{access_row_at, AccessTable}
use Rattle.verdict.specs.Tallying.{above_key, below_least, replaces, keeping, counting, add_race, add_pair, pair_race, tally_in, no_sum, tally_row, tally_all}
use Rattle.verdict.specs.Demand.{Ascending}
use Rattle.verdict.specs.Census.{Tallies}
use Rattle.verdict.specs.declared.race.Race.{Race}
use Rattle.verdict.specs.declared.pairs.Key.{Key}
use Rattle.verdict.specs.declared.pairs.Tally.{Tally}
use Rattle.verdict.proofs.Lexical.{less-irreflexive}
use Rattle.verdict.proofs.Sorting.{order-perm, below-trans, below-asymmetric}
use Rattle.verdict.proofs.AccessNames.{access_key, accesses-distinct}
use Rattle.verdict.proofs.RaceList.{races-ascending}
use Rattle.verdict.proofs.ListPlaces.{below_at, at_below, same_place}
use Rattle.verdict.proofs.RowRaces.{listed, pair-races}
use Rattle.verdict.proofs.EveryPair.{both_ways, one_more, both-more, take_more}

-- a race that was kept is one that passes, and none that passes is below it; else none passes
abbrev pub Least : (Race → Bool) → List Race → Rust.Option Race → Type 0
Least p rs (Some r) = Memᴰ r rs × (p r ≡ true) × ((q : Race) → Memᴰ q rs → p q ≡ true → race_below q r ≡ false)
Least p rs None = (q : Race) → Memᴰ q rs → p q ≡ true → ⊥

-- the races of a list are counted, in whatever order
pub record Tallied (key : Rust.Option Key) (rs : List Race) (t : Tally) : Type 0 where
  pub counted : t.count ≡ length rs
  pub kept : Least (above_key key) rs t.least

module _ (p : Race → Bool) (rs : List Race) (r : Race) where
  in-old : {q : Race} → Memᴰ q rs → Memᴰ q (rs ++ (r ∷ []))
  in-old m = Memᴰ.append_left (r ∷ []) m

  in-new : Memᴰ r (rs ++ (r ∷ []))
  in-new = Memᴰ.append_right rs (Memᴰ.head refl)

  not-below-self : {q : Race} → Memᴰ q (r ∷ []) → race_below q r ≡ false
  not-below-self {q} l =
      let o : q ≡ r = Memᴰ.eq_of_singleton l in
      rw o (is_false (race_below r r) (λ e. below-asymmetric r r e e))

  -- one more race: it takes the place of the least, or it does not
  least_more :
      (best : Rust.Option Race) (t : Bool)
      → (p r && below_least best r) ≡ t
      → Least p rs best
      → Least p (rs ++ (r ∷ [])) (cond t (Some r) best)
  least_more None true e k = (
    in-new,
    and_left (p r) true e,
    λ q m h. ⊎_elim (λ l. absurd (k q l h)) not-below-self (Memᴰ.append_cases rs m),
  )
  least_more (Some best) true e k = (
    in-new,
    and_left (p r) (race_below r best) e,
    λ q m h.
        ⊎_elim
        (λ l. is_false (race_below q r) (λ s. not-both (below-trans q r best s (and_right (p r) (race_below r best) e)) (k.2 q l h)))
        not-below-self
        (Memᴰ.append_cases rs m),
  )
  least_more None false e k =
      λ q m h. ⊎_elim (λ l. k q l h) (λ l. never q (Memᴰ.eq_of_singleton l) h) (Memᴰ.append_cases rs m)
    where
      never : (q : Race) → q ≡ r → p q ≡ true → ⊥
      never q o h = not-both (both (rw o at h) refl) e
  least_more (Some best) false e k = (
    in-old k.0,
    k.1,
    λ q m h.
        ⊎_elim
        (λ l. k.2 q l h)
        (λ l. later q (Memᴰ.eq_of_singleton l) h)
        (Memᴰ.append_cases rs m),
  )
    where
      later : (q : Race) → q ≡ r → p q ≡ true → race_below q best ≡ false
      later q o h = is_false (race_below q best) (λ s. not-both (both (rw o at h) (rw o at s)) e)

module _ (key : Rust.Option Key) where
  pub tallied-none : (rows : List ℕ) → Tallied key [] (tally_in rows no_sum)
  tallied-none rows = record { counted = refl; kept = λ q m h. Memᴰ.not-nil m }

  least-perm : {rs qs : List Race} (least : Rust.Option Race) → Permᴰ rs qs → Least (above_key key) rs least → Least (above_key key) qs least
  least-perm (Some r) d k = (perm-mem d k.0, k.1, λ q m h. k.2 q (perm-mem (Permᴰ.symm d) m) h)
  least-perm None d k = λ q m h. k q (perm-mem (Permᴰ.symm d) m) h

  pub tallied-perm : {rs qs : List Race} {t : Tally} → Permᴰ rs qs → Tallied key rs t → Tallied key qs t
  tallied-perm {t = t} d k = record { counted = k.counted ∙ perm-length d; kept = least-perm t.least d k.kept }

  tallied-add : {rs : List Race} (t : Tally) (r : Race) → Tallied key rs t → Tallied key (rs ++ (r ∷ [])) (add_race key t r)
  unfolding add_race
  tallied-add {rs} t r k =
      go (replaces key t r) (least_more (above_key key) rs r t.least (replaces key t r) refl k.kept)
    where
      more : t.count + 1 ≡ length (rs ++ (r ∷ []))
      more = omega (arith, k.counted, length-append rs (r ∷ []))

      go :
          (b : Bool)
          → Least (above_key key) (rs ++ (r ∷ [])) (cond b (Some r) t.least)
          → Tallied key (rs ++ (r ∷ []))
          (cond b (keeping t r) (counting t))
      go true l = record { counted = more; kept = l }
      go false l = record { counted = more; kept = l }

  tallied-pair : {rs : List Race} (t : Tally) (o : Option Race) → Tallied key rs t → Tallied key (rs ++ listed o) (add_pair key t o)
  unfolding add_pair
  tallied-pair {rs} t none k = rw append-nil k
  tallied-pair t (some r) k = tallied-add t r k

  -- the first of the races in order is the one that was kept
  least_first : {rs : List Race} → Ascending rs → (p : Race → Bool) (least : Rust.Option Race) → Least p rs least → option_of least ≡ first p rs
  least_first Ascending.none p (Some r) k = absurd (Memᴰ.not-nil k.0)
  least_first Ascending.none p None k = refl
  least_first (Ascending.more {r = x} {rs = xs} lower d) p least k = go least (p x) refl k (λ k'. least_first d p least k')
    where
      go :
          (least : Rust.Option Race) (t : Bool)
          → p x ≡ t
          → Least p (x ∷ xs) least
          → (Least p xs least → option_of least ≡ first p xs)
          → option_of least ≡ cond t (some x) (first p xs)
      go (Some r) true e l ih =
          ⊎_elim (λ (o : r ≡ x). ap some o) (λ m. not-both (lower r m) (l.2 x (Memᴰ.head refl) e)) (Memᴰ.cases_cons l.0)
      go (Some r) false e l ih =
          ih (
            ⊎_elim (λ (o : r ≡ x). not-both (rw o at l.1) e) (λ m. m) (Memᴰ.cases_cons l.0),
            l.1,
            λ q m h. l.2 q (Memᴰ.tail m) h,
          )
      go None true e l ih = absurd (l x (Memᴰ.head refl) e)
      go None false e l ih = ih (λ q m h. l q (Memᴰ.tail m) h)

  pub tallies : {rs : List Race} {t : Tally} → Ascending rs → Tallied key rs t → Tallies rs key t
  tallies {t = t} d k = record { race_count = k.counted; least = least_first d (above_key key) t.least k.kept }

-- an access does not race with itself
no_self : (ss : List Segment) (fs : List Fork) (x : NamedAccess) → race_of (closure_of ss) fs x x ≡ []
unfolding race_of clashes name_below
no_self ss fs x = rw (is_false _ (less-irreflexive (name_key x.name)))

-- the loops over the rows of a table
module _
    {ss : List Segment} {matrix : List ℕ} (paths : PathBits ss matrix) (fs : List Fork)
    {xs : List NamedAccess} {rows : List ℕ} (table : AccessTable ss xs rows)
    (distinct : Distinct (map access_key xs)) (key : Rust.Option Key) where
  row-tallied :
      (i : ℕ) {x : NamedAccess} (t : Tally) {rs : List Race}
      → get_elem? xs i ≡ some x
      → Tallied key rs t
      → (j : ℕ)
      → j ≤ i
      → Tallied key (rs ++ both_ways (race_of (closure_of ss) fs) x (take j xs)) (tally_row matrix fs rows key (access_row_at rows i) t j)
  unfolding tally_row
  row-tallied i t e k zero h = rw append-nil k
  row-tallied i {x} t {rs} e k (suc j) h = go (below_at xs j (omega (arith, at_below xs i e))) (row-tallied i t e k j (omega arith))
    where
      f : NamedAccess → NamedAccess → List Race
      f = race_of (closure_of ss) fs

      go :
          (y : NamedAccess) × (get_elem? xs j ≡ some y)
          → Tallied key (rs ++ both_ways f x (take j xs)) (tally_row matrix fs rows key (access_row_at rows i) t j)
          → Tallied key (rs ++ both_ways f x (take (suc j) xs))
          (add_pair key (tally_row matrix fs rows key (access_row_at rows i) t j) (pair_race matrix fs (access_row_at rows i) (access_row_at rows j)))
      go (y, p) ih =
          let apart : name_key x.name ≡ name_key y.name → ⊥ = λ q. absurd (ne (same_place access_key xs i j distinct e p q)) in
          let races = pair-races paths fs (table.rows i e) (table.rows j p) apart in
          let list : rs ++ both_ways f x (take (suc j) xs) ≡ rs ++ both_ways f x (take j xs) ++ listed (pair_race matrix fs (access_row_at rows i) (access_row_at rows j)) =
          ap (λ (l : List NamedAccess). rs ++ both_ways f x l) (take_more xs j p)
          ∙ ap (λ (l : List Race). rs ++ l) (both-more f x y (take j xs) ∙ ap (λ (l : List Race). both_ways f x (take j xs) ++ l) races)
          ∙ sym (append_assoc rs (both_ways f x (take j xs)) (listed (pair_race matrix fs (access_row_at rows i) (access_row_at rows j))))
          in
          rw list (tallied-pair key (tally_row matrix fs rows key (access_row_at rows i) t j) (pair_race matrix fs (access_row_at rows i) (access_row_at rows j)) ih)
        where
          ne : i ≡ j → ⊥
          ne q = omega arith

  all-tallied : (i : ℕ) → i ≤ length xs → Tallied key (races_among (closure_of ss) fs (take i xs)) (tally_all matrix fs rows key i)
  unfolding tally_all races_among
  all-tallied zero h = tallied-none key rows
  all-tallied (suc i) h = go (below_at xs i h) (all-tallied i (omega arith))
    where
      go :
          (x : NamedAccess) × (get_elem? xs i ≡ some x)
          → Tallied key (races_among (closure_of ss) fs (take i xs)) (tally_all matrix fs rows key i)
          → Tallied key (races_among (closure_of ss) fs (take (suc i) xs)) (tally_row matrix fs rows key (access_row_at rows i) (tally_all matrix fs rows key i) i)
      go (x, p) ih =
          rw (take_more xs i p)
          (tallied-perm key (one_more (race_of (closure_of ss) fs) (take i xs) x (no_self ss fs x))
          (row-tallied i (tally_all matrix fs rows key i) p ih i (omega arith)))

  pub rows-tallied : Tallied key (races_among (closure_of ss) fs xs) (tally_all matrix fs rows key (length xs))
  rows-tallied =
      subst
      (λ (l : List NamedAccess). Tallied key (races_among (closure_of ss) fs l) (tally_all matrix fs rows key (length xs)))
      (take-length xs)
      (all-tallied (length xs) (omega arith))

-- the tally of a bundle
pub bundle-tallied :
    (cs : List Chunk) {matrix rows : List ℕ}
    → Distinct (map member_key cs)
    → PathBits (segments_of cs) matrix
    → AccessTable (segments_of cs) (accesses_of cs) rows
    → (key : Rust.Option Key)
    → Tallies (races_of cs) key (tally_all matrix (forks_of cs) rows key (length (accesses_of cs)))
unfolding races_of
bundle-tallied cs members paths table key =
    tallies key (races-ascending cs members)
    (tallied-perm key (order-perm (races_among (closure_of (segments_of cs)) (forks_of cs) (accesses_of cs)))
    (rows-tallied paths (forks_of cs) table (accesses-distinct cs members) key))
