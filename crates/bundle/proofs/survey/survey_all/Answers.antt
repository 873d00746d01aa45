-- `bundle::survey::survey_all` meets its contract. The invariant: what the rest of the bundle adds is the whole. The measure: the bytes
-- left. Assumes nothing.
use mathlib.Core.Path.{◌≡◌, sym}
use borrow.Author.Rules.{rules}
use Rattle.std.specs.declared.result.Result.TheVariants.{Err}
use Rattle.bundle.proofs.Passing.{surveying-start, notable, went_on, stopped, fewer-left, surveyed-finish}
use Rattle.bundle.proofs.survey.survey_all.Goals as goal

pub loop-pass-init : goal.loop-pass-init
loop-pass-init c = surveying-start _ _ _ _ c.begin-pass.ensures c.requires.0 c.requires.1 c.requires.2

pub note-pass-requires : goal.note-pass-requires
note-pass-requires c = notable c.loop-pass-test.true c.loop-pass.invariant _ (sym c.in_ok-step.ensures)

pub loop-pass-smaller : goal.loop-pass-smaller
loop-pass-smaller c = fewer-left _ _ _ c.loop-pass-test.true (went_on c.loop-pass-test.true c.loop-pass.invariant _ (sym c.in_ok-step.ensures) _ _ _ c.note-pass.ensures).0

pub loop-pass-preserved : goal.loop-pass-preserved
loop-pass-preserved c = (went_on c.loop-pass-test.true c.loop-pass.invariant _ (sym c.in_ok-step.ensures) _ _ _ c.note-pass.ensures).1

pub returns-in_err-step : goal.returns-in_err-step
returns-in_err-step c =
    let passed : c.from_residual.result ≡ Err c.in_err-step.field-0.0 = search rules in
    rw passed (stopped _ _ c.loop-pass-test.true c.loop-pass.invariant (sym c.in_err-step.ensures))

pub returns : goal.returns
returns c = surveyed-finish _ _ _ _ c.loop-pass-test.false c.loop-pass.invariant c.finish.ensures
