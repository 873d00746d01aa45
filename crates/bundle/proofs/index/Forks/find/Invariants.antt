-- `bundle::index::Forks::find` meets its contract: no row that is passed forks the team. Assumes nothing.
use Prim.Native.Nat.{ℕ, ◌<◌}
use mathlib.Core.Path.{◌≡◌}
use mathlib.Core.Bool.{false}
use lib.Dec.{eqb}
use Rattle.bundle.specs.Index.{fork_row_at}
use Rattle.bundle.proofs.index.Forks.find.Given as goal

abbrev pub invariant-loop-i : goal.invariant-loop-i
invariant-loop-i s = (l : ℕ) → l < s.i → eqb (fork_row_at s.self.words.now l).team s.team ≡ false
