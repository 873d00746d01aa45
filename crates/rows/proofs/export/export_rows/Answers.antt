-- `rows::export::export_rows` meets its contract. Assumes nothing.
use mathlib.Core.Path.{◌≡◌}
use borrow.Author.Rules.{rules}
use Rattle.std.specs.declared.result.Result.TheVariants.{Err}
use Rattle.rows.proofs.Answers.{export-refused, export-short, export-put}
use Rattle.rows.proofs.export.export_rows.Goals as goal

pub returns-in_err-count : goal.returns-in_err-count
returns-in_err-count c =
    let passed : c.from_residual.result ≡ Err c.in_err-count.field-0.0 = search rules in
    rw passed (export-refused _ _ c.in_err-count.ensures)

pub returns-then-rows-count : goal.returns-then-rows-count
returns-then-rows-count c = export-short c.in_ok-count.ensures _ c.if-rows-count.true

pub returns : goal.returns
returns c = export-put c.in_ok-count.ensures _ c.if-rows-count.false c.put_rows.ensures
