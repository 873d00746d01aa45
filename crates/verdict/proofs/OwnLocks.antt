-- Locks held around a region are only added (A.3): the accesses of a race hold no lock of their own in common either, so each race is one
-- by the accesses' own locks too.
use Prim.Native.Nat.{ℕ, ◌<◌}
use mathlib.Core.Path.{◌≡◌}
use mathlib.Core.Bool.{true}
use mathlib.Core.List.{List}
use Rattle.bundle.specs.Locks.{holds}
use Rattle.bundle.specs.Chunks.{Chunk}
use Rattle.bundle.specs.Walk.{forks_of}
use Rattle.verdict.specs.Lineages.{holder_of}
use Rattle.verdict.specs.Races.{IsRace}
use Rattle.verdict.specs.declared.race.Race.{Race}
use Rattle.verdict.proofs.LineageLaws.{own-counted}

-- all that `IsRace` asks, with the own locks of the two in place of those that count, holds of a race
pub own-locks-apart :
    {chunks : List Chunk} {r : Race} (i : IsRace chunks r) (lock : ℕ)
    → lock < 64
    → holds lock i.one.locks ≡ true
    → holds lock i.other.locks ≡ true
    → ⊥
own-locks-apart {chunks} i lock h p q =
    let one = holder_of i.one in
    let other = holder_of i.other in
    i.no_lock lock h (own-counted (forks_of chunks) one other lock (unfold holder_of in p)) (own-counted (forks_of chunks) other one lock (unfold holder_of in q))
