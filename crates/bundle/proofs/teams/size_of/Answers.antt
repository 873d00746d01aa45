-- `bundle::teams::size_of` meets its contract. Assumes nothing.
use Rattle.bundle.proofs.Slots.{size-root, size_none, size-some}
use Rattle.bundle.proofs.teams.size_of.Goals as goal

pub returns-then-team-eq0 : goal.returns-then-team-eq0
returns-then-team-eq0 c = size-root _ _ _ c.if-team-eq0.true

pub returns-then-forks-slot : goal.returns-then-forks-slot
returns-then-forks-slot c = size_none _ _ _ _ c.requires c.if-team-eq0.false c.if-forks-slot.true

pub returns : goal.returns
returns c = size-some _ _ _ _ c.requires c.if-team-eq0.false c.if-forks-slot.false _ c.at.ensures
