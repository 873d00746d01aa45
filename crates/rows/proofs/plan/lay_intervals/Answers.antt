-- `rows::plan::lay_intervals` meets its contract. Assumes nothing.
use Rattle.rows.proofs.Layouts.{rows-held}
use Rattle.rows.proofs.plan.lay_intervals.Goals as goal

pub returns : goal.returns
returns c = rows-held _ _ _ c.requires.0.accepted c.list_intervals-count.ensures c.order_rows.ensures
