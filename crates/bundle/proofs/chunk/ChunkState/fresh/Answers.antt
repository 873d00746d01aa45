-- `bundle::chunk::ChunkState::fresh` meets its contract. Assumes nothing.
use mathlib.Core.Path.{refl}
use Rattle.bundle.specs.Chunks.{fresh}
use Rattle.bundle.proofs.chunk.ChunkState.fresh.Goals as goal

pub returns : goal.returns
unfolding fresh
returns c = refl
