-- `text::digits::width` meets its contract. The measure is the number. Assumes nothing.
use Rattle.text.proofs.Widths.{long-below, long-more}
use borrow.Author.Rules.{rules}
use Rattle.text.proofs.digits.+width.Goals as goal

pub returns-then-number-lt10 : goal.returns-then-number-lt10
returns-then-number-lt10 t c = long-below _ c.if-number-lt10.true

pub returns : goal.returns
returns t c = long-more _ _ (search rules) c.if-number-lt10.false c.width.ensures
