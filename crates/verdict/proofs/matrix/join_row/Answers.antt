-- `verdict::matrix::join_row` meets its contract. The invariant: the words passed are joined, the others as they were. Assumes nothing.
use Rattle.verdict.proofs.BitRows.{words-all}
use Rattle.verdict.proofs.matrix.join_row.Goals as goal

pub returns : goal.returns
returns c = words-all _ _ _ c.loop-word.auto.word-end c.loop-word-test.false c.loop-word.auto.matrix c.loop-word.invariant
