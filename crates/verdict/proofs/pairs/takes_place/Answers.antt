-- `verdict::pairs::takes_place` meets its contract. Assumes nothing.

use Rattle.verdict.proofs.pairs.takes_place.Goals as goal

pub returns : goal.returns
returns c = rw (c.before_least.ensures, c.above.ensures)
