-- `text::sides::side_of` meets its contract. Assumes nothing.
use mathlib.Core.Path.{refl, ◌∙◌}
use borrow.Author.Rules.{rules}
use Rattle.text.proofs.SideTable.{side-made}
use Rattle.text.proofs.sides.side_of.Goals as goal

pub returns : goal.returns
returns c =
    side-made c.text-text.result.now _ refl (search rules) c.copy_from_slice.ensures.after ∙ search rules
