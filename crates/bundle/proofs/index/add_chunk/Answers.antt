-- `bundle::index::add_chunk` meets its contract. Assumes nothing.
use Rattle.bundle.proofs.Tables.{chunk-added, stored_past}
use Rattle.bundle.proofs.index.add_chunk.Goals as goal

pub returns : goal.returns
returns c = chunk-added _ _ _ _ _ c.requires.0 (stored_past _ _ _ _ _ _ _ _ _ _ c.requires.1.past_some c.pack.ensures c.pack-2.ensures)
