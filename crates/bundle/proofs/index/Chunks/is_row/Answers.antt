-- `bundle::index::Chunks::is_row` meets its contract. Assumes nothing.
use Rattle.bundle.specs.Index.{is_row}
use Rattle.bundle.proofs.index.Chunks.is_row.Goals as goal

pub returns : goal.returns
unfolding is_row
returns c = rw c.at-row.ensures
