-- `bundle::shape::Tables::uneven` meets its contract. Assumes nothing.
use Rattle.bundle.specs.Shape.{uneven_by}
use Rattle.bundle.proofs.shape.Tables.uneven.Goals as goal

pub returns-then-row : goal.returns-then-row
unfolding uneven_by
returns-then-row c = rw (← c.at-row.ensures, c.if-row.true, c.lead_of-lead.ensures)

pub returns : goal.returns
unfolding uneven_by
returns c = rw (← c.at-row.ensures, c.if-row.false, c.lead_of-lead.ensures)
