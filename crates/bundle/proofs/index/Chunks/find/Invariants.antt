-- `bundle::index::Chunks::find` meets its contract: no row that is passed is the chunk's. Assumes nothing.
use Prim.Native.Nat.{ℕ, ◌<◌}
use mathlib.Core.Path.{◌≡◌}
use mathlib.Core.Bool.{false}
use Rattle.bundle.specs.Index.{chunk_row_at, is_row}
use Rattle.bundle.proofs.index.Chunks.find.Given as goal

abbrev pub invariant-loop-i : goal.invariant-loop-i
invariant-loop-i s = (l : ℕ) → l < s.i → is_row s.team s.member (chunk_row_at s.self.words.now l) ≡ false
