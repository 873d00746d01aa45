-- `text::digits::scale` meets its contract. Assumes nothing.
use Rattle.text.proofs.Widths.{scaled}
use Rattle.text.proofs.digits.scale.Goals as goal

pub returns : goal.returns
returns c = scaled _ c.requires.0 c.requires.1
