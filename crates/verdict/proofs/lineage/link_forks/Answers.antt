-- `verdict::lineage::link_forks` meets its contract. The invariant: the REGIONs passed are linked. Assumes nothing.
use native.Mathlib.Omega.{arith}
use Rattle.verdict.proofs.LinkLaws.{regions-none, regions-more, regions-all}
use Rattle.verdict.proofs.lineage.link_forks.Goals as goal

pub loop-k-init : goal.loop-k-init
loop-k-init c = regions-none _ _ _ c.requires.0

pub overflow_add-links : goal.overflow_add-links
overflow_add-links c = record { fits = omega (arith, c.requires.1, c.loop-k-test.true) }

pub bounds-links-k : goal.bounds-links-k
bounds-links-k c = omega (arith, c.requires.1, c.loop-k-test.true, c.loop-k.invariant.long)

pub loop-k-preserved : goal.loop-k-preserved
loop-k-preserved c =
    regions-more _ _ _ c.loop-k.links c.loop-k.k c.link_to.result c.at-fork.result c.loop-k.invariant (omega (arith, c.requires.1, c.loop-k-test.true))
    c.at-fork.ensures c.link_to.ensures

pub returns : goal.returns
returns c = regions-all _ _ _ c.loop-k.auto.k-end c.loop-k-test.false c.loop-k.invariant
