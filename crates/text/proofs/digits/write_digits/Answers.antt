-- `text::digits::write_digits` meets its contract. Assumes nothing.
use Rattle.text.proofs.Making.{filled_none, filled_more}
use borrow.Author.Rules.{rules}
use Rattle.text.proofs.digits.write_digits.Goals as goal

pub loop-i-init : goal.loop-i-init
loop-i-init c = filled_none _ _ _

pub loop-i-preserved : goal.loop-i-preserved
loop-i-preserved c = filled_more _ (search rules) (search rules) c.loop-i.invariant c.digit.ensures
