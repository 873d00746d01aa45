-- `rows::export::put_rows` meets its contract. The invariant: the records so far are put over the list. Assumes nothing.
use mathlib.Core.Path.{◌≡◌}
use lib.ListN.{take}
use Rattle.bundle.specs.Index.{table}
use Rattle.rows.specs.Slots.{row_in}
use Rattle.rows.proofs.export.put_rows.Given as goal

abbrev pub invariant-loop-i : goal.invariant-loop-i
invariant-loop-i l = take l.i l.rows ≡ table (row_in l.words) l.i
