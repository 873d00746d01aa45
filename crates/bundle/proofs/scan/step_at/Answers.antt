-- `bundle::scan::step_at` meets its contract. Assumes nothing.
use mathlib.Core.Path.{◌≡◌, ◌∙◌}
use borrow.Author.Rules.{rules}
use Rattle.bundle.specs.Answer.{answer_of, refuses, number_of}
use Rattle.bundle.proofs.Stepping.{step-refused, step-taken}
use Rattle.bundle.proofs.scan.step_at.Goals as goal

pub returns-in_err-taken : goal.returns-in_err-taken
returns-in_err-taken c =
    let r = c.in_err-taken.field-0.0 in
    let passed : answer_of c.from_residual.result ≡ refuses (number_of r.cause) r.place = search rules in
    passed ∙ step-refused _ _ _ c.in_err-taken.ensures

pub returns : goal.returns
returns c = step-taken _ _ _ c.in_ok-taken.ensures c.test.ensures
