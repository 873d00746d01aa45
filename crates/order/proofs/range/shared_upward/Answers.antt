-- `order::range::shared_upward` meets its contract. Assumes nothing.
use Rattle.order.proofs.PairBytes.{valid-order, byte_fits, met-overlap, unmet-overlap}
use Rattle.order.proofs.range.shared_upward.Goals as goal

pub meet_in_order-requires : goal.meet_in_order-requires
meet_in_order-requires c = valid-order _ _ (c.requires.0, c.requires.1) c.requires.2

pub returns-in_err-meeting : goal.returns-in_err-meeting
returns-in_err-meeting c = rw c.from_residual.ensures (unmet-overlap _ _ c.in_err-meeting.ensures)

pub overflow_cast-result : goal.overflow_cast-result
overflow_cast-result c = record { fits = byte_fits _ _ c.in_ok-meeting.meeting c.in_ok-meeting.ensures c.requires.0 }

pub returns : goal.returns
returns c = met-overlap _ _ c.in_ok-meeting.meeting c.in_ok-meeting.ensures
