-- `verdict::lineage::link` meets its contract. Assumes nothing.
use Rattle.verdict.proofs.LinkLaws.{all-linked, still-unlinked}
use Rattle.verdict.proofs.lineage.link.Goals as goal

pub returns-then-not-some_held : goal.returns-then-not-some_held
returns-then-not-some_held c = still-unlinked c.requires (c.some_held.ensures c.if-not-some_held.true)

pub link_forks-requires : goal.link_forks-requires
link_forks-requires c = (c.link_accesses.ensures.1, c.requires.few_regions)

pub returns : goal.returns
returns c = all-linked c.requires c.link_accesses.ensures.0 c.link_forks.ensures
