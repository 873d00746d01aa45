-- `bundle::check::find_ends` meets its contract. Assumes nothing.
use mathlib.Core.Path.{◌≡◌, ◌∙◌}
use borrow.Author.Rules.{rules}
use Rattle.bundle.specs.Answer.{answer_of, refuses, number_of}
use Rattle.bundle.proofs.CheckCases.{find-rows, find-refused}
use Rattle.bundle.proofs.check.find_ends.Goals as goal

pub returns-in_err-counts : goal.returns-in_err-counts
returns-in_err-counts c =
    let r = c.in_err-counts.field-0.0 in
    let passed : answer_of c.from_residual.result ≡ refuses (number_of r.cause) r.place = search rules in
    passed ∙ find-refused _ _ _ _ _ c.in_err-counts.ensures

pub returns : goal.returns
returns c = c.ends_in.ensures ∙ find-rows _ _ _ _ _ _ _ c.in_ok-counts.ensures
