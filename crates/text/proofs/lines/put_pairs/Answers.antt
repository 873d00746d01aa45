-- `text::lines::put_pairs` meets its contract. Assumes nothing.
use Rattle.text.proofs.LineEnds.{line-some, pairs-ends}
use Rattle.text.proofs.lines.put_pairs.Goals as goal

pub put_line-requires : goal.put_line-requires
put_line-requires c = rw (c.text.ensures, c.push_pairs.ensures.text, c.new-line.ensures) (line-some (pairs-ends _))
