-- `telling::arguments::same_word` meets its contract. Assumes nothing.
use mathlib.Core.Path.{◌∙◌}
use Rattle.telling.proofs.SameWords.{same_bytes}
use Rattle.telling.proofs.arguments.same_word.Goals as goal

pub returns : goal.returns
returns c = c.eq.ensures ∙ same_bytes _ _
