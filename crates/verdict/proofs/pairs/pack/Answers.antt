-- `verdict::pairs::pack` meets its contract. Assumes nothing.
use borrow.Author.Rules.{rules}
use Rattle.verdict.proofs.pairs.pack.Goals as goal

pub returns : goal.returns
returns c = record { is = search rules; fits = record { team = search rules; member = search rules; number = search rules } }
