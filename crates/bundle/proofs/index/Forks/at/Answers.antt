-- `bundle::index::Forks::at` meets its contract. Assumes nothing.
use Rattle.bundle.specs.Index.{fork_row_at, fork_row_of}
use Rattle.bundle.proofs.index.Forks.at.Goals as goal

pub returns : goal.returns
unfolding fork_row_at fork_row_of
returns c = rw (c.word_at-locks.ensures, c.unpack-other.ensures, c.word_at-2.ensures, c.unpack-one.ensures, c.word_at.ensures)
