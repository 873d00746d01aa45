-- The measure: the lines left.
use Rattle.std.proofs.Common.{◌-◌}
use Rattle.racelist.proofs.print.print_lines.Given as goal

abbrev pub decreases-loop-from : goal.decreases-loop-from
decreases-loop-from g l = l.lines - l.from
