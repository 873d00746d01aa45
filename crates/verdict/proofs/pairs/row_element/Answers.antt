-- `verdict::pairs::row_element` meets its contract. Assumes nothing.

use Rattle.verdict.proofs.pairs.row_element.Goals as goal

pub returns : goal.returns
returns c = rw (c.element_at.ensures, c.range_of.ensures)
