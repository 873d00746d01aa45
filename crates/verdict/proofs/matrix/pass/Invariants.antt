-- `verdict::matrix::pass` meets its contract. The invariant: the rows passed are relaxed, the others as they were. Assumes nothing.
use Rattle.verdict.specs.Matrix.{bit_at}
use Rattle.verdict.proofs.BitRows.{RowsTo, or_via}
use Rattle.verdict.proofs.matrix.pass.Given as goal

abbrev pub invariant-loop-i : goal.invariant-loop-i
invariant-loop-i l = RowsTo (or_via (bit_at l.initial.matrix) l.k) l.initial.matrix l.matrix l.i
