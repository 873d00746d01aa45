-- `interval_rows::csv::push_rows` meets its contract. The invariant: the rows so far are added. Assumes nothing.
use Prim.Native.Nat.{ℕ}
use mathlib.Core.Path.{◌∙◌, ap}
use mathlib.Core.List.{List, ◌++◌}
use native.Mathlib.Omega.{arith}
use Rattle.bundle.specs.Index.{table}
use Rattle.rows.specs.Slots.{row_in}
use Rattle.rows.specs.declared.row.Row.{Row}
use Rattle.interval_rows.specs.Lines.{heading_line, row_line, csv_text}
use Rattle.interval_rows.proofs.Texts.{csv-none, csv-more}
use Rattle.interval_rows.proofs.csv.push_rows.Goals as goal

pub loop-i-init : goal.loop-i-init
unfolding heading_line
loop-i-init c =
    let text = rw c.requires.0 at c.push_word.ensures in
    (text ∙ csv-none (row_in c.args.words.now), rw text (omega arith))

pub loop-i-preserved : goal.loop-i-preserved
loop-i-preserved c =
    let rows = c.loop-i.invariant.0 in (
      c.push_row.ensures.line
          ∙ ap (λ (t : List ℕ). t ++ row_line c.row_at.result) rows
          ∙ ap (λ (r : Row). csv_text (table (row_in c.args.words.now) c.loop-i.i) ++ row_line r) c.row_at.ensures
          ∙ csv-more (row_in c.args.words.now) c.loop-i.i,
      omega (arith, c.push_row.ensures.long, c.loop-i.invariant.1),
    )
