-- `text::sides::Sides::put_side` meets its contract. Assumes nothing.
use mathlib.Core.Path.{◌≡◌, refl, ◌∙◌}
use native.Mathlib.Omega.{arith}
use lib.ListN.{length-set}
use Rattle.text.proofs.SideTable.{none-cleared, cleared_more, side-put}
use Rattle.text.proofs.sides.Sides.put_side.Goals as goal

pub loop-lacking-init : goal.loop-lacking-init
loop-lacking-init c = (omega arith, refl, c.self.told, none-cleared c.self.inside.sides c.self.inside.count)

pub loop-lacking-preserved : goal.loop-lacking-preserved
loop-lacking-preserved c =
    let so_far = c.loop-lacking.invariant in (
      omega (arith, c.loop-lacking-test.true),
      so_far.1,
      length-set _ _ _ ∙ so_far.2,
      cleared_more c.self.inside.sides c.loop-lacking.self-inside.sides c.self.inside.count c.loop-lacking.lacking c.loop-lacking.auto.lacking
          (omega (arith, so_far.2, c.loop-lacking-test.true, c.requires))
          so_far.3,
    )

pub invariant_of-self : goal.invariant_of-self
invariant_of-self c = omega (arith, c.max-self-inside.ensures, c.loop-lacking.invariant.1, c.self.invariant, c.requires)

pub returns : goal.returns
returns c =
    let last : c.max-self-inside.result ≡ c.loop-lacking.lacking =
    omega (arith, c.max-self-inside.ensures, c.loop-lacking.invariant.1, c.loop-lacking-test.false, c.loop-lacking.auto.lacking, c.loop-lacking.invariant.0) in
    rw last
    (side-put c.self.inside.sides _ _ _ _ c.self.inside.count c.loop-lacking.lacking c.args.rank c.self.view_is (omega (arith, c.self.told, c.self.invariant))
    c.loop-lacking.invariant.3
    (omega (arith, c.loop-lacking-test.false))
    (omega (arith, last, c.max-self-inside.ensures, c.loop-lacking.invariant.1))
    c.side_of.ensures)
