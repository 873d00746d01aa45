-- `bundle::teams::number_teams` meets its contract: the first i words are written. Assumes nothing.
use Prim.Native.Nat.{◌+◌, ◌*◌}
use mathlib.Core.Path.{◌≡◌}
use lib.ListN.{take}
use Rattle.bundle.specs.Index.{fork_row_at, table}
use Rattle.bundle.proofs.teams.number_teams.Given as goal

abbrev pub invariant-loop-i : goal.invariant-loop-i
invariant-loop-i l = take l.i l.order ≡ table (λ k. (fork_row_at l.fn.forks k).team * 65536 + k) l.i
