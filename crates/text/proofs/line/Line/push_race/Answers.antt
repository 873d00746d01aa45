-- `text::line::Line::push_race` meets its contract. Assumes nothing.
use mathlib.Core.List.{append_assoc}
use Rattle.text.specs.Lines.{race_line}
use Rattle.text.specs.Inner.{access_text}
use Rattle.text.proofs.line.Line.push_race.Goals as goal

pub returns-clause-text : goal.returns-clause-text
unfolding race_line access_text
returns-clause-text g c = rw (c.push_end.ensures, c.push_access-2.ensures.text, c.push_access.ensures.text, c.push_hexadecimal.ensures.text, c.push_word.ensures) (simp append_assoc)
