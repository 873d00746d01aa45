-- `interval_rows::csv::push_row` meets its contract. Assumes nothing.
use mathlib.Core.List.{append_assoc}
use Rattle.interval_rows.specs.Lines.{row_line}
use Rattle.interval_rows.proofs.csv.push_row.Goals as goal

pub returns-clause-line : goal.returns-clause-line
unfolding row_line
returns-clause-line c =
    rw (c.push_end.ensures, c.push_count-7.ensures.text, c.push_count-6.ensures.text, c.push_count-5.ensures.text, c.push_count-4.ensures.text, c.push_count-3.ensures.text, c.push_count-2.ensures.text, c.push_count.ensures.text, c.push_number.ensures.text)
    (simp append_assoc)
