-- `rows::pass::Teams::fork_of` meets its contract. Assumes nothing.
use Rattle.rows.proofs.TeamRows.{none-forks, some_forks}
use Rattle.rows.proofs.pass.Teams.fork_of.Goals as goal

pub returns-then-self-slot : goal.returns-then-self-slot
returns-then-self-slot c = none-forks _ _ _ c.args.self.by_team _ c.slot_of-slot.ensures c.if-self-slot.true

pub returns : goal.returns
returns c = some_forks _ _ _ c.args.self.by_team _ c.slot_of-slot.ensures c.if-self-slot.false c.at.ensures
