-- `verdict::matrix::join_row` meets its contract. The invariant: the words passed are joined, the others as they were. Assumes nothing.
use Rattle.verdict.proofs.BitRows.{WordsTo}
use Rattle.verdict.proofs.matrix.join_row.Given as goal

abbrev pub invariant-loop-word : goal.invariant-loop-word
invariant-loop-word l = WordsTo l.i l.k l.initial.matrix l.matrix l.word
