-- `verdict::pairs::side_of` meets its contract. Assumes nothing.
use borrow.Author.Rules.{rules}
use Rattle.verdict.proofs.PackedNames.{side-packed}
use Rattle.verdict.proofs.pairs.side_of.Goals as goal

pub returns : goal.returns
returns c = side-packed c.pack.ensures (search rules)
