-- `bundle::chunk::ChunkState::after_barrier` meets its contract. Assumes nothing.
use borrow.Author.Tests.{lt-ltb, le-ltb}
use Rattle.bundle.specs.Chunks.{after_barrier}
use Rattle.bundle.proofs.chunk.ChunkState.after_barrier.Goals as goal

pub returns-then-barriers-lt4294967295 : goal.returns-then-barriers-lt4294967295
unfolding after_barrier
returns-then-barriers-lt4294967295 c = rw (lt-ltb _ _ c.if-barriers-lt4294967295.true)

pub returns : goal.returns
returns c = rw (le-ltb _ _ c.if-barriers-lt4294967295.false)
