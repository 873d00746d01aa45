-- `rows::plan::lay_accepted` meets its contract. Assumes nothing.
use mathlib.Core.Path.{sym}
use Rattle.bundle.proofs.TeamOrder.{front-is}
use Rattle.rows.proofs.plan.lay_accepted.Goals as goal

pub slice_bounds-lay_intervals-end : goal.slice_bounds-lay_intervals-end
slice_bounds-lay_intervals-end c = front-is 512 _ c.requires.1

pub lay_intervals-requires : goal.lay_intervals-requires
lay_intervals-requires c = (c.requires.0, sym (front-is 512 _ c.requires.1), c.requires.1)
