-- `text::line::Line::push_access` meets its contract. Assumes nothing.
use mathlib.Core.List.{append_assoc}
use Rattle.text.specs.Lines.{name_text}
use Rattle.text.specs.Inner.{access_text}
use Rattle.text.proofs.line.Line.push_access.Goals as goal

pub returns-clause-text : goal.returns-clause-text
unfolding access_text name_text
returns-clause-text g c = rw (c.push_site.ensures.text, c.push_part-3.ensures.text, c.push_part-2.ensures.text, c.push_part.ensures.text) (simp append_assoc)
