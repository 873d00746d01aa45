-- `verdict::pairs::name_below` meets its contract. Assumes nothing.
use Rattle.verdict.proofs.PackedNames.{name-order}
use Rattle.verdict.proofs.pairs.name_below.Goals as goal

pub returns : goal.returns
returns c = name-order c.pack.ensures c.pack-2.ensures
