-- `listing::pairs::push_rows` meets its contract. The invariant: the accesses passed are compared with those behind them. Assumes nothing.
use Rattle.listing.proofs.BlockLaws.{all_none, all-count, all_more, all-all}
use Rattle.listing.proofs.pairs.push_rows.Goals as goal

pub loop-i-init : goal.loop-i-init
loop-i-init c = all_none _ _ _ _ _

pub push_row-count-requires : goal.push_row-count-requires
push_row-count-requires c =
    let pre = c.requires in
    (pre.0, pre.1, c.loop-i-test.true, all-count _ _ _ _ _ c.loop-i.i c.loop-i.invariant pre.0 c.loop-i.auto.i-end)

pub loop-i-preserved : goal.loop-i-preserved
loop-i-preserved c = all_more _ _ _ _ _ c.loop-i.i c.loop-i.invariant c.push_row-count.ensures

pub returns : goal.returns
returns c = all-all _ _ _ _ _ c.loop-i.i c.loop-i.invariant c.loop-i.auto.i-end c.loop-i-test.false
