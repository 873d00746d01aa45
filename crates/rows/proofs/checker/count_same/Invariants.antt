-- `rows::checker::count_same` meets its contract. The invariant: each record so far is one that may be given at its index. Assumes nothing.
use Prim.Native.Nat.{ℕ, ◌<◌}
use Rattle.rows.specs.Slots.{row_in}
use Rattle.rows.proofs.checker.count_same.Given as goal

abbrev pub invariant-loop-i : goal.invariant-loop-i
invariant-loop-i g l = (k : ℕ) → k < l.i → goal.F-post g l.at k (row_in l.words k)
