-- `bundle::shape::first_failing` meets its contract: no row that is passed fails. Assumes nothing.
use Prim.Native.Nat.{ℕ, ◌<◌}
use mathlib.Core.Bool.{false}
use Rattle.bundle.proofs.shape.first_failing.Given as goal

abbrev pub invariant-loop-row : goal.invariant-loop-row
invariant-loop-row g l = (j : ℕ) → j < l.row → goal.F-post g l.fn.fails j false
