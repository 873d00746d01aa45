-- `verdict::pairs::some_meet` meets its contract. The invariant: where none is found, no bounds passed so far meet. Assumes nothing.
use Rattle.verdict.proofs.PairBlocks.{meet-none, meet-more, meet_all}
use Rattle.verdict.proofs.pairs.some_meet.Goals as goal

pub loop-k-init : goal.loop-k-init
loop-k-init c = λ e. meet-none _ _ _

pub loop-k-preserved : goal.loop-k-preserved
loop-k-preserved c = meet-more _ _ _ _ c.loop-k.some c.bounds_meet-some.result c.loop-k.invariant c.bounds_meet-some.ensures

pub returns : goal.returns
returns c = λ e. meet_all _ _ _ c.loop-k-test.false (c.loop-k.invariant e)
