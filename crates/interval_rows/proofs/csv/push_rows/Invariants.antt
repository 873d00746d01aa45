-- `interval_rows::csv::push_rows` meets its contract. The invariant: the rows so far are added. Assumes nothing.
use Prim.Native.Nat.{◌+◌, ◌*◌, ◌≤◌}
use mathlib.Core.Path.{◌≡◌}
use lib.ListN.{length}
use Rattle.bundle.specs.Index.{table}
use Rattle.rows.specs.Slots.{row_in}
use Rattle.interval_rows.specs.Lines.{csv_text}
use Rattle.interval_rows.proofs.csv.push_rows.Given as goal

abbrev pub invariant-loop-i : goal.invariant-loop-i
invariant-loop-i l = (l.text ≡ csv_text (table (row_in l.words) l.i)) × (length l.text ≤ 47 + 88 * l.i)
