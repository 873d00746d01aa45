-- `text::line::Line::push_decimal` meets its contract: a number of 64 bits has at most 20 digits. Assumes nothing.
use mathlib.Core.Path.{ap, ◌∙◌}
use mathlib.Core.List.{◌++◌}
use Prim.Native.Nat.{ℕ}
use native.Mathlib.Omega.{arith}
use lib.ListN.{length, length-append}
use borrow.Author.Rules.{rules}
use Rattle.text.specs.Digits.{digits, width_of}
use Rattle.text.proofs.Widths.{length_digits}
use Rattle.text.proofs.line.Line.push_decimal.Goals as goal

pub push_digits-requires : goal.push_digits-requires
push_digits-requires g c =
    (search rules, (omega arith, omega arith, omega (arith, c.requires, c.width.ensures.exact, length_digits 10 (width_of 10 c.args.number) c.args.number)))

pub returns-clause-text : goal.returns-clause-text
returns-clause-text g c = c.push_digits.ensures ∙ ap (λ (w : ℕ). c.args.self.now ++ digits 10 w c.args.number) c.width.ensures.exact

pub returns-clause-long : goal.returns-clause-long
returns-clause-long g c =
    omega (
      arith,
      ap length c.push_digits.ensures,
      length-append c.args.self.now (digits 10 c.width.result c.args.number),
      length_digits 10 c.width.result c.args.number,
      c.width.ensures.small,
    )
