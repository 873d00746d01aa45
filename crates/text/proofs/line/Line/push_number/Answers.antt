-- `text::line::Line::push_number` meets its contract. Assumes nothing.
use mathlib.Core.Path.{ap}
use native.Mathlib.Omega.{arith}
use lib.ListN.{length, length-append}
use borrow.Author.Rules.{rules}
use Rattle.text.specs.Digits.{decimal}
use Rattle.text.proofs.LineLengths.{long}
use Rattle.text.proofs.line.Line.push_number.Goals as goal

pub push_decimal-requires : goal.push_decimal-requires
push_decimal-requires g c = omega (arith, c.requires, (long c.args.number (search rules)).most)

pub returns-clause-long : goal.returns-clause-long
returns-clause-long g c =
    omega (arith, ap length c.push_decimal.ensures.text, length-append c.args.self.now (decimal c.args.number), (long c.args.number (search rules)).most)
