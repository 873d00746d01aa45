-- `bundle::index::Chunks::at` meets its contract. Assumes nothing.
use Rattle.bundle.specs.Index.{chunk_row_at, chunk_row_of}
use Rattle.bundle.proofs.index.Chunks.at.Goals as goal

pub returns : goal.returns
unfolding chunk_row_at chunk_row_of
returns c = rw (c.unpack-other.ensures, c.word_at-2.ensures, c.unpack-one.ensures, c.word_at.ensures)
