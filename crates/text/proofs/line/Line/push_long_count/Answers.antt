-- `text::line::Line::push_long_count` meets its contract: a number of 64 bits has at most 20 digits. Assumes nothing.
use mathlib.Core.Path.{ap}
use native.Mathlib.Omega.{arith}
use lib.ListN.{length, length-append}
use borrow.Author.Rules.{rules}
use Rattle.text.proofs.LineLengths.{longest-fits}
use Rattle.text.proofs.line.Line.push_long_count.Goals as goal

pub push_decimal-requires : goal.push_decimal-requires
push_decimal-requires g c =
    (search rules, longest-fits _ _ _ (search rules) (omega (arith, c.requires, ap length c.push_word.ensures, length-append c.args.self.now c.args.word.now)))
