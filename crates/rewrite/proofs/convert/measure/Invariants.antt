-- `rewrite::convert::measure` meets its contract. The invariant: what is measured, with the rest of the commands, is the whole. The measure: the
-- bytes left. Assumes nothing.
use Prim.Native.Nat.{◌-◌}
use lib.ListN.{length}
use Rattle.rewrite.proofs.ConvertPass.{MeasuredTo}
use Rattle.rewrite.proofs.convert.measure.Given as goal

abbrev pub invariant-loop-next : goal.invariant-loop-next
invariant-loop-next l = MeasuredTo l.wide l.bytes l.at l.measured

abbrev pub decreases-loop-next : goal.decreases-loop-next
decreases-loop-next l = length l.bytes - l.at
