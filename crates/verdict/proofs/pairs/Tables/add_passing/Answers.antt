-- `verdict::pairs::Tables::add_passing` meets its contract. The invariant: the accesses passed are compared, and the bits of the others are left. Assumes nothing.
use mathlib.Core.Path.{◌∙◌, ap}
use Rattle.verdict.specs.Tallying.{tally_in}
use Rattle.verdict.specs.declared.pairs.Placed.{Placed}
use Rattle.verdict.proofs.PairCases.{clash-passes, clash-fails}
use Rattle.verdict.proofs.PairBlocks.{block_none, block_more, clash-told, block-stops, block-ends, row-in, row_within, rows_fit}
use Rattle.verdict.proofs.pairs.Tables.add_passing.Goals as goal
use Rattle.verdict.proofs.pairs.Tables.add_passing.Goals.{then-clash, else-clash}

pub loop-j-init : goal.loop-j-init
loop-j-init c = block_none _ _ _ _ _ _ _ _

pub returns-then-left-eq0 : goal.returns-then-left-eq0
returns-then-left-eq0 c =
    block-stops _ _ _ _ _ c.loop-j.invariant c.requires.1 (c.loop-j.auto.j-end c.requires.0.rows_fit.ordered) c.if-left-eq0.true

pub clash-requires : goal.clash-requires
clash-requires c = (
  row-in _ _ _ _ _ c.loop-j.invariant c.requires.0 c.loop-j-test.true,
  row_within _ _ _ _ _ c.loop-j.invariant c.requires.0 c.loop-j-test.true,
)

pub place_at-requires : goal.place_at-requires
place_at-requires c = row-in _ _ _ _ _ c.loop-j.invariant c.requires.0 c.loop-j-test.true

pub add_clash-sum-requires : goal.add_clash-sum-requires
add_clash-sum-requires c =
    let fits = rows_fit _ _ _ _ _ c.loop-j.invariant c.requires.0 c.loop-j-test.true (ap (λ (x : Placed). x.row) c.place_at.ensures) in
    rw (ap (λ (x : Placed). x.at) c.place_at.ensures) fits

pub loop-j-preserved : goal.loop-j-preserved
loop-j-preserved c =
    let told = clash-told _ _ _ _ _ c.loop-j.invariant c.requires.1 c.loop-j-test.true c.clash.ensures in
    block_more _ _ _ _ _ c.loop-j.invariant c.if-clash.sum
    (elim c.if-clash.branch [
      | then-clash w ↦
          clash-passes _ _ _ _ _ _ _ told w.if-clash.true (ap (λ (x : Placed). x.row) w.place_at.ensures)
          (ap (tally_in _) w.sum-is
          ∙ w.add_clash-sum.ensures.added _ c.requires.0.rows_fit.row_is
          (rw (ap (λ (x : Placed). x.at) w.place_at.ensures) (ap (λ (x : Placed). x.row) w.place_at.ensures)))
      | else-clash w ↦ clash-fails _ _ _ _ _ _ _ told w.if-clash.false (ap (tally_in _) w.sum-is)
    ])

pub returns : goal.returns
returns c =
    block-ends _ _ _ _ _ c.loop-j.invariant _ (c.loop-j.auto.j-end c.requires.0.rows_fit.ordered) c.loop-j-test.false
