-- `rows::plan::order_rows` meets its contract. Assumes nothing.
use mathlib.Core.Path.{refl, sym}
use lib.Seq.{length-take-le}
use Rattle.rows.proofs.Layouts.{front-sorted}
use native.Mathlib.Omega.{arith}
use Rattle.rows.proofs.plan.order_rows.Goals as goal

pub slice_bounds-sort-end-2 : goal.slice_bounds-sort-end-2
slice_bounds-sort-end-2 c = sym (length-take-le _ _ (omega (arith, c.requires.0, c.requires.1)))

pub returns : goal.returns
returns c = front-sorted _ _ _ c.requires.0 c.requires.1 (omega arith) c.sort.ensures refl
