-- `verdict::pairs::kinds_clash` meets its contract. Assumes nothing.
use Rattle.verdict.specs.Working.{access_row_at}
use Rattle.verdict.proofs.pairs.kinds_clash.Goals as goal

pub returns : goal.returns
unfolding access_row_at
returns c = rw c.word_at-other.ensures
