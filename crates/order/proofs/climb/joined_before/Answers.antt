-- `order::climb::joined_before` meets its contract: the count over the rows passed. Assumes nothing.
use native.Mathlib.Omega.{arith}
use Rattle.order.proofs.SegmentRows.{joined-none, joined-more, joined-fits}
use Rattle.order.proofs.climb.joined_before.Goals as goal

pub loop-i-init : goal.loop-i-init
loop-i-init c = joined-none _ _ _ _

pub overflow_add-joined : goal.overflow_add-joined
overflow_add-joined c =
    let fits = joined-fits _ _ _ _ _ c.loop-i.invariant c.joins.ensures c.from-joined.ensures in
    record { fits = omega arith }

pub loop-i-preserved : goal.loop-i-preserved
loop-i-preserved c = joined-more _ _ _ _ _ c.loop-i.invariant c.joins.ensures c.from-joined.ensures
