-- `verdict::lineage::Lineages::side_of` meets its contract. Assumes nothing.
use Rattle.verdict.proofs.lineage.Lineages.side_of.Goals as goal

pub returns : goal.returns
returns c = rw c.word_at.ensures
