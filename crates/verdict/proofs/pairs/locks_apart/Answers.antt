-- `verdict::pairs::locks_apart` meets its contract. Assumes nothing.
use borrow.Author.Rules.{rules}
use Rattle.verdict.specs.Working.{access_row_at}
use Rattle.verdict.proofs.PairBlocks.{halves-apart}
use Rattle.verdict.proofs.pairs.locks_apart.Goals as goal

pub returns : goal.returns
unfolding access_row_at
returns c =
    rw (← c.word_at.ensures, ← c.word_at-2.ensures)
    (halves-apart c.args.locks c.word_at.result c.word_at-2.result (search rules) (search rules))
