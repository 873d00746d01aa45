-- `text::digits::digit` meets its contract. Assumes nothing.
use borrow.Author.Tests.{lt-ltb, le-ltb}
use Rattle.text.specs.Digits.{digit_byte}
use Rattle.text.proofs.digits.digit.Goals as goal

pub returns-then-number-lt10 : goal.returns-then-number-lt10
unfolding digit_byte
returns-then-number-lt10 c = rw (lt-ltb _ 10 c.if-number-lt10.true)

pub returns : goal.returns
unfolding digit_byte
returns c = rw (le-ltb _ 10 c.if-number-lt10.false)
