-- `verdict::matrix::set_bit` meets its contract. Assumes nothing.
use Rattle.verdict.proofs.BitRows.{bit-set}
use Rattle.verdict.proofs.matrix.set_bit.Goals as goal

pub returns : goal.returns
returns c = bit-set c.args.matrix.now c.args.i c.args.j c.requires
