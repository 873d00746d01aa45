-- `verdict::pairs::some_meet` meets its contract. The invariant: where none is found, no bounds passed so far meet. Assumes nothing.
use mathlib.Core.Path.{◌≡◌}
use mathlib.Core.Bool.{false}
use Rattle.verdict.specs.Tallying.{NoneMeet}
use Rattle.verdict.proofs.pairs.some_meet.Given as goal

abbrev pub invariant-loop-k : goal.invariant-loop-k
invariant-loop-k l = l.some ≡ false → NoneMeet l.one l.rows l.first l.k
