-- `text::lines::put_race` meets its contract. Assumes nothing.
use Rattle.text.proofs.LineEnds.{line-some, race-ends}
use Rattle.text.proofs.lines.put_race.Goals as goal

pub put_line-requires : goal.put_line-requires
put_line-requires c = rw (c.text.ensures, c.push_race.ensures.text, c.new-line.ensures) (line-some (race-ends _))
