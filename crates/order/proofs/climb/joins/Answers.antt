-- `order::climb::joins` meets its contract: the counts of a row are small. Assumes nothing.
use native.Mathlib.Omega.{arith}
use Rattle.order.proofs.Climbs.{row-few}
use Rattle.order.proofs.climb.joins.Goals as goal

pub overflow_add-open : goal.overflow_add-open
overflow_add-open c =
    let few = row-few _ c.args.i c.at-fork.ensures in
    record { fits = omega (arith, few.0, few.1) }
