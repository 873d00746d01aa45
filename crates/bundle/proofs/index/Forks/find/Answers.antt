-- `bundle::index::Forks::find` meets its contract. Assumes nothing.
use native.Mathlib.Omega.{arith}
use borrow.Author.Count.{below_more}
use borrow.Author.Tests.{eq-eqb, ne_eqb}
use Rattle.bundle.proofs.Tables.{found-below, none-below}
use Rattle.bundle.proofs.index.Forks.find.Goals as goal

pub loop-i-init : goal.loop-i-init
loop-i-init c = λ l h. absurd (omega arith)

pub returns-then-fork-team : goal.returns-then-fork-team
returns-then-fork-team c = found-below _ _ _ _ c.loop-i.invariant c.loop-i-test.true (rw (← c.at-fork.ensures) (eq-eqb _ _ c.if-fork-team.true))

pub loop-i-preserved : goal.loop-i-preserved
loop-i-preserved c = below_more _ _ c.loop-i.invariant (rw (← c.at-fork.ensures) (ne_eqb _ _ c.if-fork-team.false))

pub returns : goal.returns
returns c = none-below _ _ _ (λ l h. c.loop-i.invariant l (omega arith))
