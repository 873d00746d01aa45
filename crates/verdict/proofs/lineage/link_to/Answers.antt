-- `verdict::lineage::link_to` meets its contract. Assumes nothing.
use mathlib.Core.Path.{◌∙◌}
use Rattle.verdict.proofs.LinkLaws.{found-or-count}
use Rattle.verdict.proofs.lineage.link_to.Goals as goal

pub returns : goal.returns
returns c = c.unwrap_or.ensures ∙ found-or-count c.args.forks.words.now c.args.forks.count c.args.team c.find.result c.find.ensures
