-- `verdict::lineage::link_accesses` meets its contract. The invariant: the accesses passed are linked. Assumes nothing.
use mathlib.Core.Path.{◌∙◌}
use native.Mathlib.Omega.{arith}
use Rattle.verdict.proofs.LinkLaws.{links-none, links-more, links-all}
use Rattle.verdict.proofs.lineage.link_accesses.Goals as goal

pub loop-i-init : goal.loop-i-init
loop-i-init c = links-none _ _ _ _

pub link_of-requires : goal.link_of-requires
link_of-requires c = (
  record { below = omega (arith, c.requires.few, c.loop-i-test.true); whole = c.requires.whole },
  c.loop-i.invariant,
  c.loop-i.auto.links ∙ c.requires.long,
)

pub bounds-links-i : goal.bounds-links-i
bounds-links-i c = omega (arith, c.requires.few, c.requires.long, c.loop-i-test.true, c.loop-i.auto.links)

pub loop-i-preserved : goal.loop-i-preserved
loop-i-preserved c =
    links-more _ _ _ c.loop-i.links c.loop-i.i c.link_of.result c.loop-i.invariant
    (omega (arith, c.requires.few, c.requires.long, c.loop-i-test.true, c.loop-i.auto.links)) c.link_of.ensures

pub returns : goal.returns
returns c =
    (links-all _ _ _ c.loop-i.auto.i-end c.loop-i-test.false c.loop-i.invariant, c.loop-i.auto.links ∙ c.requires.long)
