-- `tray::line::put_judged` meets its contract. Assumes nothing.
use Rattle.text.proofs.LineEnds.{line-some}
use Rattle.tray.proofs.LineLaws.{verdict-ends}
use Rattle.tray.proofs.line.put_judged.Goals as goal

pub put_line-requires : goal.put_line-requires
put_line-requires c = rw (c.text.ensures, c.judged_line-line.ensures) (line-some (verdict-ends _ _))
