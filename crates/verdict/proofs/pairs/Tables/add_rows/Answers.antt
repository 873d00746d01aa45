-- `verdict::pairs::Tables::add_rows` meets its contract. The invariant: the accesses passed are compared with those before them. Assumes nothing.
use mathlib.Core.Path.{refl}
use native.Mathlib.Omega.{arith}
use Rattle.verdict.specs.Tallying.{tally_all}
use Rattle.verdict.proofs.LinkLaws.{around-below}
use Rattle.verdict.proofs.PairCases.{all_fit, all_more, all-all}
use Rattle.verdict.proofs.pairs.Tables.add_rows.Goals as goal

pub loop-i-init : goal.loop-i-init
unfolding tally_all
loop-i-init c = refl

pub add_row-sum-requires : goal.add_row-sum-requires
add_row-sum-requires c =
    let fits = all_fit _ _ _ _ _ _ c.requires.0 c.loop-i-test.true c.loop-i.invariant in
    (fits.0, around-below c.requires.0.few c.requires.1 c.loop-i-test.true (omega (arith, c.loop-i-test.true)), fits.1)

pub loop-i-preserved : goal.loop-i-preserved
loop-i-preserved c = all_more _ _ _ _ _ c.loop-i.invariant c.add_row-sum.ensures

pub returns : goal.returns
returns c = all-all _ _ _ _ _ _ c.loop-i.auto.i-end c.loop-i-test.false c.loop-i.invariant
