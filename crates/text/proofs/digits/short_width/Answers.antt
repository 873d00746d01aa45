-- `text::digits::short_width` meets its contract. Assumes nothing.
use lib.Dec.{leb}
use native.Mathlib.Omega.{arith}
use Rattle.text.proofs.Widths.{at_most_one, short-width}
use borrow.Author.Rules.{rules}
use Rattle.text.proofs.digits.short_width.Goals as goal

pub overflow_add-result : goal.overflow_add-result
overflow_add-result c = omega (arith, at_most_one (leb 10 c.args.number))

pub overflow_add-result-2 : goal.overflow_add-result-2
overflow_add-result-2 c = omega (arith, at_most_one (leb 10 c.args.number), at_most_one (leb 100 c.args.number))

pub overflow_add-result-3 : goal.overflow_add-result-3
overflow_add-result-3 c = omega (arith, at_most_one (leb 10 c.args.number), at_most_one (leb 100 c.args.number), at_most_one (leb 1000 c.args.number))

pub overflow_add-result-4 : goal.overflow_add-result-4
overflow_add-result-4 c = omega (arith, at_most_one (leb 10 c.args.number), at_most_one (leb 100 c.args.number), at_most_one (leb 1000 c.args.number), at_most_one (leb 10000 c.args.number))

pub returns : goal.returns
returns c = short-width _ (search rules)
