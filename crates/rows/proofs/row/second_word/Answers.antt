-- `rows::row::second_word` meets its contract. Assumes nothing.
use Rattle.rows.specs.Slots.{second_parts}
use borrow.Author.Rules.{rules}
use Rattle.rows.proofs.row.second_word.Goals as goal

pub returns : goal.returns
unfolding second_parts
returns c = search rules
