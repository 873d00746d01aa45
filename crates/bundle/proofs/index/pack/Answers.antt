-- `bundle::index::pack` meets its contract. Assumes nothing.
use Rattle.bundle.proofs.Tables.{packed}
use borrow.Author.Rules.{rules}
use Rattle.bundle.proofs.index.pack.Goals as goal

pub returns : goal.returns
returns c = packed _ (search rules) (search rules) (search rules) (search rules)
