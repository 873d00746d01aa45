-- `verdict::lineage::some_held` meets its contract. The invariant: no lock is held at the REGIONs passed. Assumes nothing.
use mathlib.Core.Path.{sym, ◌∙◌, ap}
use native.Mathlib.Omega.{arith}
use borrow.Author.Count.{below_more}
use Rattle.bundle.specs.declared.index.Fork.{Fork}
use Rattle.bundle.proofs.Tests.{false-is-true}
use Rattle.verdict.proofs.LinkLaws.{none-held-all}
use Rattle.verdict.proofs.lineage.some_held.Goals as goal

pub returns-then-state-ne0 : goal.returns-then-state-ne0
returns-then-state-ne0 c = λ e. false-is-true (sym e)

pub loop-i-preserved : goal.loop-i-preserved
loop-i-preserved c =
    below_more _ _ c.loop-i.invariant (ap (λ (f : Fork). f.state.locks) (sym c.at-fork.ensures) ∙ omega (arith, c.if-state-ne0.false))

pub returns : goal.returns
returns c = none-held-all _ _ _ c.loop-i.auto.i-end c.loop-i-test.false c.loop-i.invariant
