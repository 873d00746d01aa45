-- `rows::row::row_at` meets its contract. Assumes nothing.
use Rattle.rows.specs.Slots.{slot_at, row_in}
use Rattle.rows.proofs.row.row_at.Goals as goal

pub returns : goal.returns
unfolding row_in slot_at
returns c = rw (c.held_in.ensures, c.unpack-other.ensures, c.word_at-3.ensures, c.unpack-one.ensures, c.word_at-2.ensures, c.word_at.ensures)
