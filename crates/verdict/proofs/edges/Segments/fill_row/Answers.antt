-- `verdict::edges::Segments::fill_row` meets its contract. The invariant: the words passed have the tests of their columns, the others are as they were. Assumes nothing.
use borrow.Author.Rules.{rules}
use native.Mathlib.Omega.{arith}
use Rattle.verdict.proofs.EdgeWords.{cells-more, cells-all}
use Rattle.verdict.proofs.edges.Segments.fill_row.Goals as goal

pub loop-word-preserved : goal.loop-word-preserved
loop-word-preserved c =
    cells-more c.loop-word.matrix c.loop-word.word c.edge_word.result c.loop-word.invariant (search rules) c.edge_word.ensures.bits

pub returns : goal.returns
returns c =
    let low = c.first_event-low.ensures in
    let high = c.last_event-high.ensures in
    rw (← low, ← high)
    (cells-all _ _ c.loop-word.word (omega arith) (omega arith) c.loop-word.auto.matrix c.loop-word.invariant)
