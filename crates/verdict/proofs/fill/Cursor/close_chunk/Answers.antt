-- `verdict::fill::Cursor::close_chunk` meets its contract. Assumes nothing.
use Rattle.verdict.specs.Working.{end_code}
use Rattle.verdict.proofs.fill.Cursor.close_chunk.Goals as goal

pub returns-clause-closed : goal.returns-clause-closed
unfolding end_code
returns-clause-closed c = (c.leave.ensures, rw c.chunk_end.ensures)
