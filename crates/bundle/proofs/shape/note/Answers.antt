-- `bundle::shape::note` meets its contract. Assumes nothing.
use Rattle.bundle.specs.Shape.{noted_lead}
use Rattle.bundle.proofs.shape.note.Goals as goal

pub returns-then-row-leads : goal.returns-then-row-leads
unfolding noted_lead
returns-then-row-leads c = (c.mark.ensures, rw (← c.lead_word-word.ensures, c.if-row-leads.true))

pub returns-else-row-leads : goal.returns-else-row-leads
unfolding noted_lead
returns-else-row-leads c = (c.mark.ensures, rw (← c.lead_word-word.ensures, c.if-row-leads.false))
