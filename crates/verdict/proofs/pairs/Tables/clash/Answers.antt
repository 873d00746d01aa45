-- `verdict::pairs::Tables::clash` meets its contract. Assumes nothing.
use Rattle.verdict.proofs.PairBlocks.{clash-odd}
use Rattle.verdict.proofs.pairs.Tables.clash.Goals as goal

pub returns-then-left-eq0 : goal.returns-then-left-eq0
returns-then-left-eq0 c = rw c.if-left-eq0.true

pub returns : goal.returns
returns c = clash-odd _ _ _ c.if-left-eq0.false c.no_path.ensures c.segment_at.ensures
