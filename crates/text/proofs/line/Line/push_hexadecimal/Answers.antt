-- `text::line::Line::push_hexadecimal` meets its contract. Assumes nothing.
use mathlib.Core.Path.{ap}
use native.Mathlib.Omega.{arith}
use lib.ListN.{length, length-append}
use Rattle.text.specs.Digits.{hexadecimal}
use Rattle.text.proofs.Widths.{length_digits}
use Rattle.text.proofs.line.Line.push_hexadecimal.Goals as goal

pub returns-clause-long : goal.returns-clause-long
returns-clause-long g c =
    omega (arith, ap length c.push_digits.ensures, length-append c.args.self.now (hexadecimal c.args.number), length_digits 16 8 c.args.number)
