-- `text::line::Line::push_refused` meets its contract. Assumes nothing.
use mathlib.Core.List.{append_assoc}
use Rattle.text.specs.Lines.{refused_line}
use Rattle.text.proofs.line.Line.push_refused.Goals as goal

pub returns-clause-text : goal.returns-clause-text
unfolding refused_line
returns-clause-text g c = rw (c.push_end.ensures, c.push_long_count.ensures.text, c.push_count.ensures.text) (simp append_assoc)
