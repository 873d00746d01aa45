-- `listing::pairs::push_passing` meets its contract. The invariant: the accesses passed are compared, and the bits of the others are left. Assumes nothing.
use Rattle.listing.proofs.BlockLaws.{pass-none, pass_fits, pass-more, pass-stops, pass-ends}
use Rattle.listing.proofs.pairs.push_passing.Goals as goal

pub loop-j-init : goal.loop-j-init
loop-j-init c = pass-none _ _ _ _ _ _ _ _

pub returns-then-left-eq0 : goal.returns-then-left-eq0
returns-then-left-eq0 c =
    let pre = c.requires in
    pass-stops _ _ _ _ c.loop-j.invariant pre.0 pre.1 (c.loop-j.auto.j-end pre.0.rows_fit.ordered) c.if-left-eq0.true

pub push_next-count-requires : goal.push_next-count-requires
push_next-count-requires c =
    let pre = c.requires in
    pass_fits _ _ _ _ c.loop-j.invariant pre.0 pre.1 c.loop-j-test.true

pub loop-j-preserved : goal.loop-j-preserved
loop-j-preserved c =
    let pre = c.requires in
    pass-more _ _ _ _ c.loop-j.invariant pre.0 pre.1 _ _ c.loop-j-test.true c.push_next-count.ensures

pub returns : goal.returns
returns c =
    let pre = c.requires in
    pass-ends _ _ _ _ c.loop-j.invariant pre.0 pre.1 (c.loop-j.auto.j-end pre.0.rows_fit.ordered) c.loop-j-test.false
