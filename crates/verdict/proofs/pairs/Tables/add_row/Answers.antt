-- `verdict::pairs::Tables::add_row` meets its contract. The invariant: the accesses of the blocks passed are compared. Assumes nothing.
use Prim.Native.Nat.{◌*◌, ◌<◌}
use mathlib.Core.Path.{ap}
use native.Mathlib.Omega.{arith}
use Rattle.verdict.specs.declared.pairs.Placed.{Placed}
use Rattle.verdict.proofs.LinkLaws.{around-before}
use Rattle.verdict.proofs.PairBlocks.{blocks-none, block-fits, block_in, blocks_more, blocks-all}
use Rattle.verdict.proofs.pairs.Tables.add_row.Goals as goal

pub place_at-one-requires : goal.place_at-one-requires
place_at-one-requires c =
    let tables = c.requires.0 in
    record { below = omega (arith, tables.few); whole = tables.rows_whole }

pub loop-block-init : goal.loop-block-init
loop-block-init c = blocks-none _ _ _ _ _ _ _

pub block_end-requires : goal.block_end-requires
block_end-requires c = omega (arith, c.requires.0.few, c.loop-block-test.true, c.div_ceil-blocks.ensures)

pub add_block-sum-requires : goal.add_block-sum-requires
add_block-sum-requires c =
    let more : 32 * c.loop-block.block < c.args.i = omega (arith, c.loop-block-test.true, c.div_ceil-blocks.ensures) in
    let row = ap (λ (x : Placed). x.row) c.place_at-one.ensures in
    rw (ap (λ (x : Placed). x.at) c.place_at-one.ensures) (
      block-fits _ _ _ _ _ _ _ c.loop-block.sum c.loop-block.block c.loop-block.invariant c.requires.0 row c.requires.2 more c.block_end.ensures,
      block_in _ _ _ _ _ _ _ c.loop-block.sum c.loop-block.block c.loop-block.invariant c.requires.0 more,
      around-before c.requires.1 (omega (arith, c.block_end.ensures)),
    )

pub loop-block-preserved : goal.loop-block-preserved
loop-block-preserved c =
    blocks_more _ _ _ _ _ _ _ c.loop-block.sum c.loop-block.block c.loop-block.invariant
    (omega (arith, c.loop-block-test.true, c.div_ceil-blocks.ensures)) c.add_block-sum.result c.block_end.ensures c.add_block-sum.ensures

pub returns : goal.returns
returns c =
    blocks-all _ _ _ _ _ _ _ c.loop-block.sum c.loop-block.block c.loop-block.invariant
    (omega (arith, c.loop-block-test.false, c.div_ceil-blocks.ensures)) (ap (λ (x : Placed). x.row) c.place_at-one.ensures)
