-- `bundle::scan::open_chunk` meets its contract. Assumes nothing.
use Rattle.bundle.proofs.scan.open_chunk.Goals as goal

pub returns : goal.returns
returns c = rw c.fresh.ensures
