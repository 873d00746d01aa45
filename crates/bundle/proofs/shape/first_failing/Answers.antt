-- `bundle::shape::first_failing` meets its contract. Assumes nothing.
use borrow.Author.Rules.{rules}
use borrow.Author.Count.{below_more}
use native.Mathlib.Omega.{arith}
use Rattle.bundle.specs.Shape.{FoundFirst}
use Rattle.bundle.proofs.shape.first_failing.Goals as goal

pub loop-row-init : goal.loop-row-init
loop-row-init g c = λ j h. absurd (omega arith)

pub returns-then-fails : goal.returns-then-fails
unfolding FoundFirst
returns-then-fails g c = (c.loop-row-test.true, search rules, c.loop-row.invariant)

pub loop-row-preserved : goal.loop-row-preserved
loop-row-preserved g c = below_more _ _ c.loop-row.invariant (search rules)

pub returns : goal.returns
unfolding FoundFirst
returns g c = λ i h. c.loop-row.invariant i (omega arith)
