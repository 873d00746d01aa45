-- `rewrite::convert::size_in` meets its contract. Assumes nothing.
use mathlib.Core.Bool.{true, false}
use borrow.Author.Rules.{rules}
use Rattle.bundle.specs.Commands.{low_first, form_of, code_of, widths_of, operand_bytes, bytes_of}
use Rattle.rewrite.specs.Converting.{regrouped}
use Rattle.rewrite.proofs.Regrouping.{size-of-access}
use Rattle.rewrite.proofs.convert.size_in.Goals as goal

pub returns-in-Member : goal.returns-in-Member
unfolding low_first form_of code_of widths_of operand_bytes bytes_of regrouped
returns-in-Member c = search rules

pub returns-in-Acquire : goal.returns-in-Acquire
unfolding low_first form_of code_of widths_of operand_bytes bytes_of regrouped
returns-in-Acquire c = search rules

pub returns-then-wide : goal.returns-then-wide
returns-then-wide c = size-of-access true c.if-wide.true c.in-Access.is

pub returns-else-wide : goal.returns-else-wide
returns-else-wide c = size-of-access false c.if-wide.false c.in-Access.is

pub returns-in-End : goal.returns-in-End
unfolding low_first form_of code_of widths_of operand_bytes bytes_of regrouped
returns-in-End c = search rules
