-- `rows::pass::Teams::level_of` meets its contract. The measure: the climbs that are left. Assumes nothing.
use Rattle.rows.proofs.TeamRows.{level-none, level-ends, level-goes}
use Rattle.rows.proofs.pass.Teams.+level_of.Goals as goal

pub returns-then-most-eq0 : goal.returns-then-most-eq0
returns-then-most-eq0 t c = level-none _ _ _ c.if-most-eq0.true

pub returns-in-Some : goal.returns-in-Some
returns-in-Some t c = level-goes _ _ _ c.if-most-eq0.false c.in-Some.ensures c.level_of.ensures

pub returns-in-None : goal.returns-in-None
returns-in-None t c = level-ends _ _ _ c.in-None.ensures
