-- `text::digits::five_digits` meets its contract. Assumes nothing.
use native.Mathlib.Nat.{div-one}
use Rattle.text.specs.Digits.{digits}
use Rattle.text.proofs.digits.five_digits.Goals as goal

pub returns : goal.returns
unfolding digits
returns c = rw (c.digit.ensures, c.digit-2.ensures, c.digit-3.ensures, c.digit-4.ensures, c.digit-5.ensures, div-one c.args.number)
