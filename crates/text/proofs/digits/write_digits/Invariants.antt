-- `text::digits::write_digits` meets its contract. The invariant: the digits from place i on are written. Assumes nothing.
use Rattle.text.proofs.Making.{Filled}
use Rattle.text.proofs.digits.write_digits.Given as goal

abbrev pub invariant-loop-i : goal.invariant-loop-i
invariant-loop-i l = Filled l.room l.base l.number l.i l.rest
