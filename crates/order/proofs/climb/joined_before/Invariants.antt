-- `order::climb::joined_before` meets its contract: the count over the rows passed. Assumes nothing.
use mathlib.Core.Path.{◌≡◌}
use Rattle.bundle.specs.Index.{fork_row_at, table}
use Rattle.order.specs.Climbing.{joined_before}
use Rattle.order.proofs.climb.joined_before.Given as goal

abbrev pub invariant-loop-i : goal.invariant-loop-i
invariant-loop-i l = l.joined ≡ joined_before (table (fork_row_at l.forks.words.now) l.i) l.team l.member l.number
