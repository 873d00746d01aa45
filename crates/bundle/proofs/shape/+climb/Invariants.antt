-- `bundle::shape::climb` meets its contract. Assumes nothing.
use Rattle.bundle.proofs.shape.+climb.Given as goal

abbrev pub decreases-climb : goal.decreases-climb
decreases-climb l = l.levels
