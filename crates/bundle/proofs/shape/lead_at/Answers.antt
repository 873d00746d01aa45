-- `bundle::shape::lead_at` meets its contract. Assumes nothing.
use lib.ListN.{get_or-eq_default}
use mathlib.Core.Path.{sym}
use Rattle.bundle.proofs.shape.lead_at.Goals as goal

pub returns : goal.returns
returns c = sym (get_or-eq_default c.args.leads.now 0 c.if-at-leads.false)
