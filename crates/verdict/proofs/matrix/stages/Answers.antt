-- `verdict::matrix::stages` meets its contract. The invariant: the passes for the nodes below k are done. Assumes nothing.
use borrow.Author.Rules.{rules}
use Rattle.verdict.proofs.BitRows.{stages-none, stages-more}
use Rattle.verdict.proofs.matrix.stages.Goals as goal

pub loop-k-init : goal.loop-k-init
loop-k-init c = stages-none _ _

pub loop-k-preserved : goal.loop-k-preserved
loop-k-preserved c = stages-more c.loop-k.k c.loop-k.invariant (search rules) (search rules) c.pass.ensures
