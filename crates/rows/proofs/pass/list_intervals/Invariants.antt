-- `rows::pass::list_intervals` meets its contract. The invariant: what the words hold, with what the rest of the commands adds, is the whole.
-- The measure: the bytes left. Assumes nothing.
use Prim.Native.Nat.{◌-◌}
use lib.ListN.{length}
use Rattle.bundle.specs.Index.{fork_rows_in}
use Rattle.rows.proofs.Running.{Running}
use Rattle.rows.proofs.pass.list_intervals.Given as goal

abbrev pub invariant-loop-next : goal.invariant-loop-next
invariant-loop-next l = Running l.bytes (fork_rows_in l.teams.forks) l.course l.words

abbrev pub decreases-loop-next : goal.decreases-loop-next
decreases-loop-next l = length l.bytes - l.course.at
