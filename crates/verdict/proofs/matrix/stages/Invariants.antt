-- `verdict::matrix::stages` meets its contract. The invariant: the passes for the nodes below k are done. Assumes nothing.
use Rattle.verdict.proofs.BitRows.{StagesTo}
use Rattle.verdict.proofs.matrix.stages.Given as goal

abbrev pub invariant-loop-k : goal.invariant-loop-k
invariant-loop-k l = StagesTo l.n l.initial.matrix l.matrix l.k
