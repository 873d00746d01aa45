-- `bundle::command::stride_ok` meets its contract. Assumes nothing.
use borrow.Author.Tests.{eq-eqb, ne_eqb}
use Rattle.bundle.specs.Commands.{stride_ok}
use Rattle.bundle.proofs.command.stride_ok.Goals as goal

pub returns-then-count-eq1 : goal.returns-then-count-eq1
unfolding stride_ok
returns-then-count-eq1 c = simp (eq-eqb _ _ c.if-count-eq1.true)

pub returns-else-count-eq1 : goal.returns-else-count-eq1
unfolding stride_ok
returns-else-count-eq1 c = simp (ne_eqb _ _ c.if-count-eq1.false)
