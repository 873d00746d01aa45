-- `judge_build::file::print_line` meets its contract. Assumes nothing.
use mathlib.Core.Path.{sym}
use lib.Seq.{length-take-le}
use Rattle.judge_build.proofs.Fitting.{put-size}
use Rattle.judge_build.proofs.file.print_line.Goals as goal

pub slice_bounds-write_all-end : goal.slice_bounds-write_all-end
slice_bounds-write_all-end g c = sym (length-take-le _ _ (put-size _ c.in-Ok.is c.requires))
