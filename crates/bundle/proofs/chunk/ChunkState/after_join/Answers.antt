-- `bundle::chunk::ChunkState::after_join` meets its contract. Assumes nothing.
use borrow.Author.Tests.{lt-ltb, le-ltb}
use Rattle.bundle.specs.Chunks.{after_join}
use Rattle.bundle.proofs.chunk.ChunkState.after_join.Goals as goal

pub returns-then-regions-lt4294967295 : goal.returns-then-regions-lt4294967295
unfolding after_join
returns-then-regions-lt4294967295 c = rw (lt-ltb _ _ c.if-regions-lt4294967295.true)

pub returns : goal.returns
returns c = rw (le-ltb _ _ c.if-regions-lt4294967295.false)
