-- `bundle::shape::climb` meets its contract. Assumes nothing.
use Rattle.bundle.proofs.Slots.{climbs-none, climbs-ends, climbs-goes}
use mathlib.Core.Path.{◌∙◌}
use Rattle.bundle.proofs.shape.+climb.Goals as goal

pub returns-then-levels-eq0 : goal.returns-then-levels-eq0
returns-then-levels-eq0 t c = climbs-none _ _ _ _ c.if-levels-eq0.true

pub returns-then-order-slot : goal.returns-then-order-slot
returns-then-order-slot t c = climbs-ends _ _ _ _ c.if-levels-eq0.false _ c.slot_of-slot.ensures c.if-order-slot.true

pub returns : goal.returns
returns t c = c.climb.ensures ∙ climbs-goes _ _ _ _ c.if-levels-eq0.false _ c.slot_of-slot.ensures c.if-order-slot.false _ c.at.ensures
