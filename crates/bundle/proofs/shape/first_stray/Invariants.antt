-- `bundle::shape::first_stray` meets its contract: no chunk that is passed is stray, and the tables have noted those. Assumes nothing.
use Prim.Native.Nat.{ℕ, ◌<◌}
use mathlib.Core.Path.{◌≡◌}
use mathlib.Core.Bool.{false}
use Rattle.bundle.specs.Index.{chunk_row_at, fork_rows_in, table}
use Rattle.bundle.specs.Shape.{stray_row, fails_at, Met}
use Rattle.bundle.proofs.shape.first_stray.Given as goal

abbrev pub invariant-loop-i : goal.invariant-loop-i
invariant-loop-i l = ((j : ℕ) → j < l.i → fails_at (stray_row (fork_rows_in l.forks)) (chunk_row_at l.chunks.words.now) j ≡ false) × Met (fork_rows_in l.forks) (table (chunk_row_at l.chunks.words.now) l.i) l.masks l.leads
