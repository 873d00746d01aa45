-- `tray::line::put_build` meets its contract. Assumes nothing.
use mathlib.Core.Path.{ap}
use Rattle.tray.specs.Texts.{build_line}
use Rattle.text.proofs.Printing.{printed-as}
use Rattle.tray.proofs.line.put_build.Goals as goal

pub returns-in-Missing : goal.returns-in-Missing
unfolding build_line
returns-in-Missing c = printed-as _ _ (ap build_line c.in-Missing.is) c.put_line.ensures

pub returns-in-RaceFree : goal.returns-in-RaceFree
unfolding build_line
returns-in-RaceFree c = printed-as _ _ (ap build_line c.in-RaceFree.is) c.put_line-in-RaceFree.ensures

pub returns-in-Refused : goal.returns-in-Refused
unfolding build_line
returns-in-Refused c = printed-as _ _ (ap build_line c.in-Refused.is) c.put_line-in-Refused.ensures

pub returns-in-Race : goal.returns-in-Race
unfolding build_line
returns-in-Race c = printed-as _ _ (ap build_line c.in-Race.is) c.put_line-in-Race.ensures
