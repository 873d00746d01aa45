-- `verdict::edges::Segments::reach` meets its contract. Assumes nothing.
use Rattle.verdict.proofs.EdgeCodes.{tables-reach}
use Rattle.verdict.proofs.edges.Segments.reach.Goals as goal

pub returns : goal.returns
returns c = tables-reach c.fill_edges.ensures c.close.ensures
