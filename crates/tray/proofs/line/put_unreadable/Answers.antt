-- `tray::line::put_unreadable` meets its contract. Assumes nothing.
use Rattle.tray.specs.Texts.{unreadable_line}
use Rattle.tray.proofs.line.put_unreadable.Goals as goal

pub returns : goal.returns
unfolding unreadable_line
returns c = c.put_line.ensures
