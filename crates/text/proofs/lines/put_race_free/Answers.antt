-- `text::lines::put_race_free` meets its contract. Assumes nothing.
use Rattle.text.specs.Lines.{race_free_line}
use Rattle.text.proofs.lines.put_race_free.Goals as goal

pub returns : goal.returns
unfolding race_free_line
returns c = c.put_line.ensures
