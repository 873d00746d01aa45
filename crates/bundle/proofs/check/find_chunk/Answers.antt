-- `bundle::check::find_chunk` meets its contract. Assumes nothing.
use mathlib.Core.Path.{◌≡◌, ◌∙◌}
use native.Mathlib.Omega.{arith}
use borrow.Author.Rules.{rules}
use Rattle.bundle.specs.Answer.{refuses, number_of}
use Rattle.bundle.specs.Find.{part_answer}
use Rattle.bundle.proofs.CheckCases.{found_part, refused-part, ends-within}
use Rattle.bundle.proofs.check.find_chunk.Goals as goal

pub slice_bounds-result-count : goal.slice_bounds-result-count
slice_bounds-result-count c = (ends-within _ _ _ _ (λ i h. omega (arith, c.type_inv.bytes i)) c.in_ok-ends.ensures).0

pub slice_bounds-result-start : goal.slice_bounds-result-start
slice_bounds-result-start c = (ends-within _ _ _ _ (λ i h. omega (arith, c.type_inv.bytes i)) c.in_ok-ends.ensures).0

pub slice_bounds-result-end : goal.slice_bounds-result-end
slice_bounds-result-end c = (ends-within _ _ _ _ (λ i h. omega (arith, c.type_inv.bytes i)) c.in_ok-ends.ensures).1

pub returns-in_err-ends : goal.returns-in_err-ends
returns-in_err-ends c =
    let r = c.in_err-ends.field-0.0 in
    let passed : part_answer c.from_residual.result ≡ refuses (number_of r.cause) r.place = search rules in
    passed ∙ refused-part _ _ _ _ _ c.in_err-ends.ensures

pub returns : goal.returns
returns c = found_part _ _ _ _ c.in_ok-ends.ensures
