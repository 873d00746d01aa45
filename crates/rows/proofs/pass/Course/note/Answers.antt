-- `rows::pass::Course::note` meets its contract. Assumes nothing.
use Rattle.rows.proofs.NoteCases.{ends, noted-member, noted-region, noted-moved, noted-closed}
use Rattle.rows.proofs.pass.Course.note.Goals as goal

pub close-requires : goal.close-requires
close-requires c = (c.requires.closable (ends c.in-Barrier.is), c.requires.long)

pub returns-in-Member : goal.returns-in-Member
returns-in-Member c = noted-member _ _ _ _ _ _ c.in-Member.is c.row_of.ensures c.enter.ensures

pub returns-in-Region : goal.returns-in-Region
returns-in-Region c = noted-region _ _ _ _ _ _ c.in-Region.is c.join.ensures

pub returns-in-Barrier : goal.returns-in-Barrier
returns-in-Barrier c = noted-closed _ _ _ _ _ _ c.in-Barrier.is c.close.ensures.0 c.close.ensures.1

pub returns-in-Acquire : goal.returns-in-Acquire
returns-in-Acquire c = noted-moved _ _ _ _ _ _ c.in-Acquire.is c.move_on.ensures
