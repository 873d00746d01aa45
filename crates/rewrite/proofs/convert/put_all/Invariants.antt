-- `rewrite::convert::put_all` meets its contract. The invariant: what is written, with the rest of the commands, is the whole. The measure: the
-- bytes left. Assumes nothing.
use Prim.Native.Nat.{◌-◌}
use lib.ListN.{length}
use Rattle.rewrite.proofs.ConvertPass.{PutTo}
use Rattle.rewrite.proofs.convert.put_all.Given as goal

abbrev pub invariant-loop-next : goal.invariant-loop-next
invariant-loop-next l = PutTo l.wide l.bytes l.initial.buffer l.at l.position l.buffer

abbrev pub decreases-loop-next : goal.decreases-loop-next
decreases-loop-next l = length l.bytes - l.at
