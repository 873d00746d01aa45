-- `rows::pass::Teams::level_of` meets its contract. The measure: the climbs that are left. Assumes nothing.
use Rattle.rows.proofs.pass.Teams.+level_of.Given as goal

abbrev pub decreases-level_of : goal.decreases-level_of
decreases-level_of l = l.most
