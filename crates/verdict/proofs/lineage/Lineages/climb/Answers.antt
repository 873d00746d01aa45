-- `verdict::lineage::Lineages::climb` meets its contract. Assumes nothing.
use Rattle.verdict.proofs.LinkLaws.{link-in, climbed-from}
use Rattle.verdict.proofs.lineage.Lineages.climb.Goals as goal

pub word_at-requires : goal.word_at-requires
word_at-requires c =
    link-in _ _ _ c.requires.0 c.args.side c.requires.1 c.requires.2

pub returns : goal.returns
returns c =
    climbed-from _ _ _ c.requires.0 c.args.side c.requires.1 c.requires.2 c.at-fork.result c.at-fork.ensures
    c.word_at.ensures
