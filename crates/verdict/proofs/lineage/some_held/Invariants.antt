-- `verdict::lineage::some_held` meets its contract. The invariant: no lock is held at the REGIONs passed. Assumes nothing.
use Prim.Native.Nat.{ℕ, ◌<◌}
use mathlib.Core.Path.{◌≡◌}
use Rattle.bundle.specs.Index.{fork_row_at}
use Rattle.verdict.proofs.lineage.some_held.Given as goal

abbrev pub invariant-loop-i : goal.invariant-loop-i
invariant-loop-i l = (k : ℕ) → k < l.i → (fork_row_at l.forks.words.now k).state.locks ≡ 0
