-- `bundle::command::in_range` meets its contract: the operands' widths hold by their types. Assumes nothing.
use mathlib.Core.Path.{sym, ap, ap₂, ◌∙◌}
use mathlib.Core.Bool.{Bool, ◌&&◌}
use borrow.Author.Rules.{rules}
use Rattle.bundle.specs.Commands.{form_of, code_of, widths_of, operands_ok, in_range}
use Rattle.bundle.specs.declared.command.Command.TheVariants as Com
use Rattle.bundle.proofs.Operands.{fit_none, fit-one}
use Rattle.bundle.proofs.Forms.{access-in-range}
use Rattle.bundle.proofs.Ranges.{ranges-decide}
use Rattle.bundle.proofs.command.in_range.Goals as goal

pub returns-in-Member : goal.returns-in-Member
unfolding form_of code_of widths_of operands_ok
returns-in-Member c = ranges-decide (Com.Member _ _) (fit-one (search rules) (fit-one (search rules) fit_none)) ∙ ap in_range (sym c.in-Member.is)

pub returns-in-End : goal.returns-in-End
unfolding form_of code_of widths_of operands_ok
returns-in-End c = ranges-decide Com.End fit_none ∙ ap in_range (sym c.in-End.is)

pub returns-in-Region : goal.returns-in-Region
unfolding form_of code_of widths_of operands_ok
returns-in-Region c = ranges-decide (Com.Region _ _) (fit-one (search rules) (fit-one (search rules) fit_none)) ∙ ap in_range (sym c.in-Region.is)

pub returns-in-Barrier : goal.returns-in-Barrier
unfolding form_of code_of widths_of operands_ok
returns-in-Barrier c = ranges-decide Com.Barrier fit_none ∙ ap in_range (sym c.in-Barrier.is)

pub returns-in-Acquire : goal.returns-in-Acquire
unfolding form_of code_of widths_of operands_ok
returns-in-Acquire c = ranges-decide (Com.Acquire _) (fit-one (search rules) fit_none) ∙ ap in_range (sym c.in-Acquire.is)

pub returns-in-Release : goal.returns-in-Release
unfolding form_of code_of widths_of operands_ok
returns-in-Release c = ranges-decide (Com.Release _) (fit-one (search rules) fit_none) ∙ ap in_range (sym c.in-Release.is)

pub returns-in-Access : goal.returns-in-Access
returns-in-Access c =
    ap₂ (λ (s r : Bool). s && r) c.site_ok.ensures c.range_ok.ensures
    ∙ access-in-range _ (search rules) (fit-one (search rules) (fit-one (search rules) (fit-one (search rules) (fit-one (search rules) fit_none))))
    ∙ ap in_range (sym c.in-Access.is)

pub returns-in-Cut : goal.returns-in-Cut
unfolding form_of code_of widths_of operands_ok
returns-in-Cut c = ranges-decide Com.Cut fit_none ∙ ap in_range (sym c.in-Cut.is)
