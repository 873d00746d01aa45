-- `bundle::scan::close_chunk` meets its contract. Assumes nothing.

use Rattle.bundle.proofs.scan.close_chunk.Goals as goal

pub returns : goal.returns
returns c = rw c.fresh.ensures
