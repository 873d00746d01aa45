-- The segments of an accepted bundle are regular.
use Prim.Native.Nat.{ℕ, ◌≤◌, ◌<◌}
use mathlib.Core.Path.{◌≡◌, refl}
use mathlib.Core.List.{List}
use native.Mathlib.Omega.{arith}
use lib.ListN.{length}
use Rattle.bundle.specs.Chunks.{chunks_of}
use Rattle.bundle.specs.Check.{Accepted}
use Rattle.bundle.specs.Walk.{Border, of_chunk, of_barrier, segments_of}
use Rattle.bundle.proofs.SegmentRuns.{Begins, with_chunk, at-barrier, after_region, segment-limited, segment-borders, segments-distinct}
use Rattle.verdict.specs.Edges.{Regular}
use Rattle.verdict.proofs.BundleForkJoin.{fork-join}

-- MEMBER opens segment 0 alone, and a barrier's number is below that of the segment it opens
first-with-chunk : {n : ℕ} {o : Border} → Begins n o → n ≡ 0 → o ≡ of_chunk
first-with-chunk (with_chunk q) e = refl
first-with-chunk (at-barrier h) e = absurd (omega arith)
first-with-chunk (after_region h) e = absurd (omega arith)

chunk-with-first : {n : ℕ} {o : Border} → Begins n o → o ≡ of_chunk → n ≡ 0
chunk-with-first (with_chunk q) e = q
chunk-with-first (at-barrier h) e = absurd (let z : ◌≡◌ {A = ℕ} 0 1 = cc in omega arith)
chunk-with-first (after_region h) e = absurd (let z : ◌≡◌ {A = ℕ} 0 1 = cc in omega arith)

barrier-below : {n i : ℕ} {o : Border} → Begins n o → o ≡ of_barrier i → i < n
barrier-below (with_chunk q) e = absurd (let z : ◌≡◌ {A = ℕ} 0 1 = cc in omega arith)
barrier-below {i = i} (at-barrier {i = j} h) e = let q : j ≡ i = cc in omega arith
barrier-below (after_region h) e = absurd (let z : ◌≡◌ {A = ℕ} 0 1 = cc in omega arith)

pub regular : (b : List ℕ) → Accepted b → length (segments_of (chunks_of b)) ≤ 512 → Regular (segments_of (chunks_of b))
regular b a few =
    record {
      team = λ s l. (segment-limited b a l).team;
      member = λ s l. (segment-limited b a l).member;
      number = λ s l. omega (arith, (segment-limited b a l).number);
      opened_first = λ s l. first-with-chunk (segment-borders b a l).opened;
      first_opened = λ s l. chunk-with-first (segment-borders b a l).opened;
      opened_barrier = λ s i l e. omega (arith, barrier-below (segment-borders b a l).opened e, (segment-limited b a l).number);
      barriers = λ s l. omega (arith, (fork-join b a).number l, (segment-limited b a l).number);
      ended_barrier = λ s i l e. omega (arith, (segment-borders b a l).ended i e, (segment-limited b a l).number);
      distinct = segments-distinct b a;
    }
