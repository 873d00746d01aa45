-- `verdict::fill::fill` meets its contract. The invariant: what the tables hold, with what the rest of the bundle adds, is the whole. The
-- measure: the bytes left. Assumes nothing.
use Prim.Native.Nat.{◌-◌}
use lib.ListN.{length}
use Rattle.verdict.proofs.TablePass.{Filling}
use Rattle.verdict.proofs.fill.fill.Given as goal

abbrev pub invariant-loop-cursor : goal.invariant-loop-cursor
invariant-loop-cursor l = Filling l.bytes (length l.initial.rows) l.cursor l.segments.ends l.segments.opens l.segments.nodes l.rows

abbrev pub decreases-loop-cursor : goal.decreases-loop-cursor
decreases-loop-cursor l = length l.bytes - l.cursor.at
