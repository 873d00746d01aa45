-- `verdict::matrix::set_diagonal` meets its contract. The invariant: the rows passed have their bit, the others are as they were. Assumes nothing.
use Rattle.verdict.specs.Matrix.{bit_at}
use Rattle.verdict.proofs.Warshall.{with_self}
use Rattle.verdict.proofs.BitRows.{RowsTo}
use Rattle.verdict.proofs.matrix.set_diagonal.Given as goal

abbrev pub invariant-loop-i : goal.invariant-loop-i
invariant-loop-i l = RowsTo (with_self (bit_at l.initial.matrix)) l.initial.matrix l.matrix l.i
