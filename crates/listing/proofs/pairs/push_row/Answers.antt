-- `listing::pairs::push_row` meets its contract. The invariant: the accesses of the blocks passed are compared. Assumes nothing.
use Prim.Native.Nat.{◌*◌, ◌<◌}
use mathlib.Core.Path.{ap}
use native.Mathlib.Omega.{arith}
use Rattle.verdict.specs.declared.pairs.Placed.{Placed}
use Rattle.verdict.proofs.LinkLaws.{around-below}
use Rattle.listing.proofs.BlockLaws.{blocks-none, block-fits, block_in, blocks_more, blocks-all}
use Rattle.listing.proofs.pairs.push_row.Goals as goal

pub place_at-one-requires : goal.place_at-one-requires
place_at-one-requires c =
    let pre = c.requires in
    record { below = omega (arith, pre.2, pre.0.few); whole = pre.0.rows_whole }

pub loop-block-init : goal.loop-block-init
loop-block-init c = blocks-none _ _ _ _ _ _ _ c.requires.2

pub block_end-requires : goal.block_end-requires
block_end-requires c = omega (arith, c.requires.0.few, c.loop-block-test.true, c.div_ceil-block-end.ensures)

pub push_block-count-requires : goal.push_block-count-requires
push_block-count-requires c =
    let pre = c.requires in
    let more : 32 * c.loop-block.block < c.args.n = omega (arith, c.loop-block-test.true, c.div_ceil-block-end.ensures) in
    let row = ap (λ (x : Placed). x.row) c.place_at-one.ensures in
    rw (ap (λ (x : Placed). x.at) c.place_at-one.ensures) (
      block-fits _ _ _ _ _ _ _ c.loop-block.numbers _ c.loop-block.block c.loop-block.invariant pre.0 pre.2 pre.3 more row c.block_end.ensures,
      block_in _ _ _ _ _ _ _ c.loop-block.numbers _ c.loop-block.block c.loop-block.invariant pre.0 more,
      around-below pre.0.few pre.1 pre.2 (omega (arith, c.block_end.ensures)),
    )

pub loop-block-preserved : goal.loop-block-preserved
loop-block-preserved c =
    blocks_more _ _ _ _ _ _ _ c.loop-block.numbers _ c.loop-block.block c.loop-block.invariant
    (omega (arith, c.loop-block-test.true, c.div_ceil-block-end.ensures)) c.block_end.ensures
    (rw (ap (λ (x : Placed). x.at) c.place_at-one.ensures) at c.push_block-count.ensures)

pub returns : goal.returns
returns c =
    blocks-all _ _ _ _ _ _ _ c.loop-block.numbers _ c.loop-block.block c.loop-block.invariant (omega (arith, c.loop-block-test.false, c.div_ceil-block-end.ensures))
