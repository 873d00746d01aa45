-- `verdict::matrix::close` meets its contract. Assumes nothing.
use Rattle.verdict.proofs.BitRows.{matrix-closed}
use Rattle.verdict.proofs.matrix.close.Goals as goal

pub returns : goal.returns
returns c =
    matrix-closed c.requires.small c.set_diagonal.ensures c.stages.ensures
