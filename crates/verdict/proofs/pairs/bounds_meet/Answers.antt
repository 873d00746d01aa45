-- `verdict::pairs::bounds_meet` meets its contract. Assumes nothing.
use Rattle.verdict.specs.Working.{access_row_at}
use Rattle.verdict.proofs.pairs.bounds_meet.Goals as goal

pub returns : goal.returns
unfolding access_row_at
returns c = rw (c.word_at-2.ensures, c.word_at.ensures)
