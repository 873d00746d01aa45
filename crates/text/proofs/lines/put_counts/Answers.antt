-- `text::lines::put_counts` meets its contract. Assumes nothing.
use Rattle.text.proofs.LineEnds.{line-some, counts-ends}
use Rattle.text.proofs.lines.put_counts.Goals as goal

pub put_line-requires : goal.put_line-requires
put_line-requires c = rw (c.text.ensures, c.push_counts.ensures.text, c.new-line.ensures) (line-some (counts-ends _ _ _))
