-- `rows::row::first_word` meets its contract. Assumes nothing.
use Rattle.rows.specs.Slots.{first_parts}
use borrow.Author.Rules.{rules}
use Rattle.rows.proofs.row.first_word.Goals as goal

pub returns : goal.returns
unfolding first_parts
returns c = search rules
