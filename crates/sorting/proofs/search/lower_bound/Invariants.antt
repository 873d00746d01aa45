-- `sorting::search::lower_bound` meets its contract. The invariant: the search from `low` up to `high` gives the answer. Assumes nothing.
use Prim.Native.Nat.{◌-◌}
use Rattle.sorting.proofs.Halving.{Halved}
use Rattle.sorting.proofs.search.lower_bound.Given as goal

abbrev pub invariant-loop-low : goal.invariant-loop-low
invariant-loop-low l = Halved l.words l.word l.low l.high

abbrev pub decreases-loop-low : goal.decreases-loop-low
decreases-loop-low l = l.high - l.low
