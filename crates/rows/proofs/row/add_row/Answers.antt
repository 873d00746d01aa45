-- `rows::row::add_row` meets its contract. Assumes nothing.
use native.Mathlib.Omega.{arith}
use lib.ListN.{length-set}
use Rattle.rows.proofs.SlotLaws.{row-added}
use Rattle.rows.proofs.row.add_row.Goals as goal

pub bounds-words-at-2 : goal.bounds-words-at-2
bounds-words-at-2 c = simp length-set (omega (arith, c.requires.0, c.requires.1))

pub bounds-words-at-3 : goal.bounds-words-at-3
bounds-words-at-3 c = simp length-set (omega (arith, c.requires.0, c.requires.1))

pub returns : goal.returns
returns c = row-added _ _ _ _ _ c.requires.0 c.requires.1 _ _ c.name_word-name.ensures c.first_word.ensures c.second_word.ensures
