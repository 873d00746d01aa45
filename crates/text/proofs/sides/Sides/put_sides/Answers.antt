-- `text::sides::Sides::put_sides` meets its contract. Assumes nothing.
use mathlib.Core.Path.{sym}
use mathlib.Core.List.{append_assoc}
use Rattle.text.specs.Sides.{sides_line}
use Rattle.text.proofs.Printing.{printed-as}
use Rattle.text.proofs.sides.Sides.put_sides.Goals as goal

pub returns : goal.returns
unfolding sides_line
returns c =
    printed-as _ _
    (sym (rw (c.text.ensures, c.push_end.ensures, c.push_to-2.ensures.text, c.push_to.ensures.text, c.push_hexadecimal.ensures.text, c.push_word.ensures, c.new-line.ensures) (simp append_assoc)))
    c.put_line.ensures
