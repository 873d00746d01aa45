-- `verdict::lineage::linked` meets its contract. Assumes nothing.
use Rattle.verdict.proofs.LinkLaws.{not-linked}
use Rattle.verdict.proofs.lineage.linked.Goals as goal

pub returns-then-not-link : goal.returns-then-not-link
returns-then-not-link c = not-linked c.requires (c.link.ensures.unheld c.if-not-link.true)

pub returns : goal.returns
returns c = rw c.if-not-link.false at c.link.ensures
