-- `verdict::pairs::Tables::no_path` meets its contract. Assumes nothing.
use Rattle.verdict.proofs.PairBlocks.{path-one, path-other}
use Rattle.verdict.proofs.pairs.Tables.no_path.Goals as goal

pub returns-then-bit : goal.returns-then-bit
returns-then-bit c = path-one _ _ _ c.bit.ensures c.if-bit.true

pub returns : goal.returns
returns c = path-other _ _ _ c.bit.ensures c.if-bit.false c.bit-2.ensures
