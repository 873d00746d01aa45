-- `bundle::shape::lacks_member` meets its contract. Assumes nothing.
use mathlib.Core.Path.{sym, ◌∙◌}
use native.Mathlib.Omega.{arith}
use borrow.Author.Count.{below_more}
use Rattle.bundle.proofs.MetTables.{lacks-one, lacks-none}
use Rattle.bundle.proofs.shape.lacks_member.Goals as goal

pub loop-member-init : goal.loop-member-init
loop-member-init c = λ m h. absurd (omega arith)

pub returns-then-not-met : goal.returns-then-not-met
returns-then-not-met c = lacks-one _ _ _ _ c.loop-member-test.true (sym c.met.ensures ∙ c.if-not-met.true)

pub loop-member-preserved : goal.loop-member-preserved
loop-member-preserved c = below_more _ _ c.loop-member.invariant (sym c.met.ensures ∙ c.if-not-met.false)

pub returns : goal.returns
returns c = lacks-none _ _ _ (λ m h. c.loop-member.invariant m (omega arith))
