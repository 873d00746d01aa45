-- `racelist::print::print_page` meets its contract. Assumes nothing.
use mathlib.Core.Path.{sym}
use lib.Seq.{length-take-le}
use Rattle.pages.proofs.WholeText.{filled-fits}
use Rattle.racelist.proofs.print.print_page.Goals as goal

pub slice_bounds-write_all-end : goal.slice_bounds-write_all-end
slice_bounds-write_all-end g c = filled-fits _ _ _ _ _ c.fill_page-filled.ensures

pub slice_bounds-write_all-end-2 : goal.slice_bounds-write_all-end-2
slice_bounds-write_all-end-2 g c = sym (length-take-le _ _ (filled-fits _ _ _ _ _ c.fill_page-filled.ensures))
