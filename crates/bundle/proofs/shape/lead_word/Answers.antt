-- `bundle::shape::lead_word` meets its contract. Assumes nothing.
use mathlib.Core.Path.{refl}
use Rattle.bundle.specs.Shape.{lead_word}
use Rattle.bundle.proofs.shape.lead_word.Goals as goal

pub returns : goal.returns
unfolding lead_word
returns c = refl
