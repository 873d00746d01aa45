-- Demand 3, as one statement.
use Rattle.std.specs.Prelude.{ℕ, ◌≤◌, ◌≡◌, ◌⊎◌, ◌↔◌, true, length}
use mathlib.Core.List.{List, [], ◌∷◌, Memᴰ}
use Rattle.bundle.specs.Answer.{gives}
use Rattle.bundle.specs.Chunks.{chunks_of}
use Rattle.bundle.specs.Commands.{Bytes}
use Rattle.bundle.specs.Check.{Accepted, Reordered}
use Rattle.verdict.specs.Graph.{segments_of}
use Rattle.verdict.specs.Accesses.{accesses_of, race_below}
use Rattle.verdict.specs.Races.{IsRace}
use Rattle.verdict.specs.Judge.{judge_of}
use Rattle.verdict.specs.declared.race.Race.{Race}
use Rattle.std.specs.declared.option.Option.TheVariants.{Some, None}
use Rattle.verdict.specs.declared.race.Judgement.{Judgement}

-- each race stands before all that follow it
pub data Ascending : List Race → Type 0 where
  none : Ascending []
  more : {r : Race} {rs : List Race} → ((q : Race) → Memᴰ q rs → race_below r q ≡ true) → Ascending rs → Ascending (r ∷ rs)

-- what a judgement says of a bundle
pub record Exact (b : List ℕ) (j : Judgement) : Type 0 where
  -- "race-free exactly when the bundle has no race"
  pub race_free : (j.least ≡ None) ↔ ((r : Race) → IsRace (chunks_of b) r → ⊥)
  -- "Otherwise the answer gives one of the bundle's races with its lowest shared byte, and every other race of the bundle comes later"
  pub a_race : (r : Race) → j.least ≡ Some r → IsRace (chunks_of b) r
  pub the_least :
      (r : Race) → j.least ≡ Some r → (q : Race) → IsRace (chunks_of b) q → (q ≡ r) ⊎ (race_below r q ≡ true)
  -- "the race count is the number of the bundle's races": the length of the list that holds each of them once, in order
  pub races : List Race
  pub ascending : Ascending races
  pub all-races : (r : Race) → Memᴰ r races ↔ IsRace (chunks_of b) r
  pub race_count : j.races ≡ length races
  -- "the other counts"
  pub chunk_count : j.chunks ≡ length (chunks_of b)
  pub segment_count : j.segments ≡ length (segments_of (chunks_of b))
  pub access_count : j.accesses ≡ length (accesses_of (chunks_of b))

-- what demand 3 says of an accepted bundle b, its chunks in another order c, and the judge's work areas v and w
pub record Judged (b c v w : List ℕ) : Type 0 where
  -- "the bundle in that order is accepted too"
  pub accepted_too : Accepted c
  -- "the judge gives both bundles the same answer"
  pub judgement : Judgement
  pub answer : (judge_of b v).answer ≡ gives judgement
  pub same_answer : (judge_of c w).answer ≡ gives judgement
  pub exact : Exact b judgement

-- "For every accepted bundle and every order of its chunks .. Given work areas no smaller than document 01's size, whatever they hold"
abbrev pub Demand3 : Type 0
Demand3 =
    (b c v w : List ℕ)
    → Bytes b
    → Accepted b
    → Reordered b c
    → 16384 ≤ length v
    → 16384 ≤ length w
    → Judged b c v w
