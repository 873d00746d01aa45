-- `bundle::check::index_bundle` meets its contract. Assumes nothing.
use mathlib.Core.Path.{◌≡◌}
use borrow.Author.Rules.{rules}
use Rattle.std.specs.declared.result.Result.TheVariants.{Err}
use Rattle.bundle.proofs.CheckCases.{check-long, check-refused, check-rows, indexed}
use Rattle.bundle.proofs.check.index_bundle.Goals as goal

pub returns-then-bytes-gt-MOST_BYTES : goal.returns-then-bytes-gt-MOST_BYTES
returns-then-bytes-gt-MOST_BYTES c = check-long _ c.if-bytes-gt-MOST_BYTES.true

pub returns-in_err-counts : goal.returns-in_err-counts
returns-in_err-counts c =
    let passed : c.from_residual.result ≡ Err c.in_err-counts.field-0.0 = search rules in
    rw passed (check-refused _ _ _ c.if-bytes-gt-MOST_BYTES.false c.in_err-counts.ensures)

pub shape-requires : goal.shape-requires
shape-requires c = c.in_ok-counts.ensures.few

pub returns-in_err-shape : goal.returns-in_err-shape
returns-in_err-shape c =
    let passed : c.from_residual-in_err-shape.result ≡ Err c.in_err-shape.field-0.0 = search rules in
    rw passed (check-rows _ _ _ _ _ c.if-bytes-gt-MOST_BYTES.false c.in_ok-counts.ensures c.in_err-shape.ensures)

pub returns : goal.returns
returns c = indexed _ _ _ _ _ c.if-bytes-gt-MOST_BYTES.false c.in_ok-counts.ensures c.in_ok-shape.ensures
