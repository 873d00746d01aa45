-- `text::lines::put_refused` meets its contract. Assumes nothing.
use Rattle.text.proofs.LineEnds.{line-some, refused-ends}
use Rattle.text.proofs.lines.put_refused.Goals as goal

pub put_line-requires : goal.put_line-requires
put_line-requires c = rw (c.text.ensures, c.push_refused.ensures.text, c.new-line.ensures) (line-some (refused-ends _ _))
