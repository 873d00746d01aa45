-- `bundle::shape::Tables::unlike_lowest` meets its contract. Assumes nothing.
use Rattle.bundle.specs.Shape.{unlike_by}
use Rattle.bundle.proofs.shape.Tables.unlike_lowest.Goals as goal

pub returns : goal.returns
unfolding unlike_by
returns c = rw (c.lead_of-lead.ensures, c.at-row.ensures)
