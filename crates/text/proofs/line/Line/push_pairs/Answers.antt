-- `text::line::Line::push_pairs` meets its contract. Assumes nothing.
use mathlib.Core.List.{append_assoc}
use Rattle.text.specs.Lines.{pairs_line}
use Rattle.text.proofs.line.Line.push_pairs.Goals as goal

pub returns-clause-text : goal.returns-clause-text
unfolding pairs_line
returns-clause-text g c = rw (c.push_end.ensures, c.push_count.ensures.text) (simp append_assoc)
