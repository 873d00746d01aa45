-- `text::line::Line::push_counts` meets its contract. Assumes nothing.
use mathlib.Core.List.{append_assoc}
use Rattle.text.specs.Lines.{counts_line}
use Rattle.text.proofs.line.Line.push_counts.Goals as goal

pub returns-clause-text : goal.returns-clause-text
unfolding counts_line
returns-clause-text g c = rw (c.push_end.ensures, c.push_count-3.ensures.text, c.push_count-2.ensures.text, c.push_count.ensures.text) (simp append_assoc)
