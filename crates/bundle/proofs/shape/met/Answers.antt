-- `bundle::shape::met` meets its contract. Assumes nothing.
use Rattle.bundle.proofs.MetTables.{met-past}
use Rattle.bundle.specs.Shape.{met_at}
use mathlib.Core.Path.{refl}
use Rattle.bundle.proofs.shape.met.Goals as goal

pub returns-then-masks-at : goal.returns-then-masks-at
returns-then-masks-at c = met-past _ _ _ c.if-masks-at.true

pub returns : goal.returns
unfolding met_at
returns c = refl
