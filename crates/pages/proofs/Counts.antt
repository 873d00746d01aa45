-- The counts of an accepted bundle fit 32 bits.
use Prim.Native.Nat.{ℕ, ◌*◌, ◌≤◌}
use mathlib.Core.Bool.{Bool, true, false, cond}
use mathlib.Core.List.{List, [], ◌∷◌}
use mathlib.Core.Option.{Option, none, some}
use native.Mathlib.Omega.{arith}
use native.Mathlib.Nat.{suc-mul}
use lib.ListN.{length, length-append}
use Rattle.bundle.specs.Lists.{concat_map, from_option}
use Rattle.bundle.specs.Chunks.{Chunk, fresh, chunks_of}
use Rattle.bundle.specs.Walk.{of_chunk, Opening, opening_at, entries_of, segments_in, segments_of, forks_of}
use Rattle.bundle.specs.declared.index.Fork.{Fork}
use Rattle.bundle.specs.Check.{Accepted}
use Rattle.bundle.proofs.WalkLaws.{few_segments}
use Rattle.bundle.proofs.SegmentRuns.{segments-length}
use Rattle.order.specs.Ranges.{shared_byte}
use Rattle.verdict.specs.Graph.{closure_of}
use Rattle.verdict.specs.GraphTests.{NodePair}
use Rattle.verdict.specs.Accesses.{NamedAccess, accesses_of}
use Rattle.verdict.specs.RaceLists.{clashes, race_with, race_of, races_among, races_of}
use Rattle.verdict.proofs.AccessCount.{few-accesses}
use Rattle.verdict.proofs.Sorting.{order-length}
use Rattle.listing.specs.Listing.{totals_of}
use Rattle.pages.proofs.Lengths.{Small}

module _ {A B : Type 0} (f : A → List B) where
  -- so many for each, at most or at least
  concat-few : (n : ℕ) → ((x : A) → length (f x) ≤ n) → (xs : List A) → length (concat_map f xs) ≤ length xs * n
  concat-few n h [] = omega arith
  concat-few n h (x ∷ xs) = omega (arith, h x, concat-few n h xs, length-append (f x) (concat_map f xs), suc-mul (length xs) n)

  concat-some : ((x : A) → 1 ≤ length (f x)) → (xs : List A) → length xs ≤ length (concat_map f xs)
  concat-some h [] = omega arith
  concat-some h (x ∷ xs) = omega (arith, h x, concat-some h xs, length-append (f x) (concat_map f xs))

one-race : (closure : List NodePair) (fs : List Fork) (x y : NamedAccess) → length (race_of closure fs x y) ≤ 1
unfolding race_of
one-race closure fs x y = go (clashes closure fs x y) (shared_byte x.access.range y.access.range)
  where
    go : (t : Bool) (o : Option ℕ) → length (cond t (from_option [] (λ witness. race_with x y witness ∷ []) o) []) ≤ 1
    go false o = omega arith
    go true none = omega arith
    go true (some w) = omega arith

few-races : (closure : List NodePair) (fs : List Fork) (xs : List NamedAccess) → length xs ≤ 1024 → length (races_among closure fs xs) ≤ 1048576
unfolding races_among
few-races closure fs xs h =
    let each : (x : NamedAccess) → length (concat_map (race_of closure fs x) xs) ≤ 1024 =
    λ x. omega (arith, concat-few (race_of closure fs x) 1 (one-race closure fs x) xs)
    in
    omega (arith, concat-few (λ x. concat_map (race_of closure fs x) xs) 1024 each xs)

some-segments : (c : Chunk) → 1 ≤ length (segments_in c)
unfolding segments_in
some-segments c =
    let o : Opening = record { border = of_chunk; state = fresh } in
    omega (arith, segments-length c.team c.member 0 o (concat_map opening_at (entries_of c)))

pub counts-small : (s : List ℕ) → Accepted s → Small (totals_of (chunks_of s))
unfolding totals_of races_of segments_of
counts-small s a =
    let cs = chunks_of s in
    let races = few-races (closure_of (segments_of cs)) (forks_of cs) (accesses_of cs) (few-accesses s a) in
    record {
      chunks = omega (arith, concat-some segments_in some-segments cs, few_segments s a);
      segments = omega (arith, few_segments s a);
      accesses = omega (arith, few-accesses s a);
      races = omega (arith, races, order-length (races_among (closure_of (segments_of cs)) (forks_of cs) (accesses_of cs)));
    }
