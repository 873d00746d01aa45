-- Demand 3 at one bundle and the judge's answer to it.
use Rattle.std.specs.Prelude.{ℕ, ◌≤◌, ◌≡◌, List, length}
use Rattle.bundle.specs.Check.{Accepted, Reordered}
use Rattle.verdict.specs.Demand.{Judged}
use Rattle.std.specs.declared.result.Result.{Result}
use Rattle.std.specs.declared.result.Result.TheVariants.{Ok}
use Rattle.bundle.specs.declared.refusal.Refusal.{Refusal}
use Rattle.verdict.specs.declared.race.Judgement.{Judgement}

-- the answer r to a bundle b in the work area v is what demand 3 asks for, with the chunks in the order c and the work area w
pub record Kept (b c v w : List ℕ) (r : Result Judgement Refusal) : Type 0 where
  pub judged : Judged b c v w
  pub answer : r ≡ Ok judged.judgement

-- "For every accepted bundle and every order of its chunks .. Given work areas no smaller than document 01's size, whatever they hold"
abbrev pub Promise : List ℕ → List ℕ → Result Judgement Refusal → Type 0
Promise b v r = (c w : List ℕ) → Accepted b → Reordered b c → 16384 ≤ length v → 16384 ≤ length w → Kept b c v w r
