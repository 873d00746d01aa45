-- `order::range::meet_in_order` meets its contract. Assumes nothing.
use Rattle.order.proofs.PairBytes.{base-met, pair-met}
use Rattle.order.proofs.range.meet_in_order.Goals as goal

pub returns-then-distance-lower : goal.returns-then-distance-lower
returns-then-distance-lower c = base-met _ _ c.requires c.if-distance-lower.true

pub returns : goal.returns
returns c = pair-met _ _ c.requires c.if-distance-lower.false c.first_pair-pair.result c.first_pair-pair.ensures c.meeting_of_pair.ensures
