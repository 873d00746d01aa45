-- `rows::row::name_word` meets its contract. Assumes nothing.
use Rattle.rows.specs.Slots.{name_word}
use borrow.Author.Rules.{rules}
use Rattle.rows.proofs.row.name_word.Goals as goal

pub returns : goal.returns
unfolding name_word
returns c = search rules
