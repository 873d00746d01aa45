-- The law of cutting (A.4), as one statement.
use Rattle.std.specs.Prelude.{ℕ, ◌≡◌, ◌↔◌}
use mathlib.Core.List.{List, Memᴰ}
use Rattle.bundle.specs.Chunks.{chunks_of}
use Rattle.bundle.specs.Commands.{Bytes}
use Rattle.bundle.specs.Check.{Accepted}
use Rattle.bundle.specs.Cutting.{Cutting}
use Rattle.verdict.specs.Accesses.{NamedAccess, accesses_of}
use Rattle.verdict.specs.Races.{IsRace}
use Rattle.verdict.specs.declared.race.Name.{Name}
use Rattle.verdict.specs.declared.race.Race.{Race}

-- the access of a name survives: the bundle c still has it
pub record Survives (c : List ℕ) (n : Name) : Type 0 where
  pub access : NamedAccess
  pub present : Memᴰ access (accesses_of (chunks_of c))
  pub name : access.name ≡ n

-- what cutting the bundle b to the bundle c gives
pub record Cuts (b c : List ℕ) : Type 0 where
  -- "Cutting chunks of an accepted bundle at command ends, with no REGION lost, gives an accepted bundle"
  pub accepted : Accepted c
  -- "Its races are exactly those races of the full one whose two accesses both survive"
  pub races : (r : Race) → IsRace (chunks_of c) r ↔ (IsRace (chunks_of b) r × Survives c r.first × Survives c r.second)

abbrev pub LawOfCutting : Type 0
LawOfCutting = (b c : List ℕ) → Bytes b → Accepted b → Cutting b c → Cuts b c
