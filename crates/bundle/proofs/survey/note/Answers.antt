-- `bundle::survey::note` meets its contract. Assumes nothing.
use mathlib.Core.Path.{refl}
use mathlib.Core.Logic.{⊎_elim}
use Rattle.bundle.specs.Chunks.{is_end}
use Rattle.bundle.specs.Survey.{pass_after, new_chunks, new_forks}
use Rattle.bundle.proofs.Delimiters.{closes}
use Rattle.bundle.proofs.Passing.{noted-none, noted-chunk, noted-fork}
use Rattle.bundle.proofs.survey.note.Goals as goal

pub opened-requires : goal.opened-requires
opened-requires c = c.requires.near

pub closed_row-requires : goal.closed_row-requires
closed_row-requires c = c.requires.near

pub add_chunk-requires : goal.add_chunk-requires
add_chunk-requires c = (c.requires.chunk_room, c.closed_row.ensures.1)

pub fork_row-requires : goal.fork_row-requires
fork_row-requires c = c.requires.near

pub add_fork-requires : goal.add_fork-requires
add_fork-requires c = (c.requires.fork_room, c.fork_row.ensures.1)

pub closed_row-requires-in-Cut : goal.closed_row-requires-in-Cut
closed_row-requires-in-Cut c = c.requires.near

pub add_chunk-requires-in-Cut : goal.add_chunk-requires-in-Cut
add_chunk-requires-in-Cut c = (c.requires.chunk_room, c.closed_row-in-Cut.ensures.1)

pub returns-in-Member : goal.returns-in-Member
unfolding pass_after new_chunks new_forks
returns-in-Member c = rw c.in-Member.is (noted-none _ _ _ _ _ _ _ (rw (c.move_on-after.ensures, c.opened.ensures)) refl refl refl refl)

pub shape_of-chunks-in-End : goal.shape_of-chunks-in-End
shape_of-chunks-in-End c = c.chunks-1.given

pub returns-in-End : goal.returns-in-End
unfolding closes is_end
returns-in-End c = rw c.in-End.is (noted-chunk _ _ _ _ _ _ _ _ _ refl (rw c.move_on-after.ensures) c.closed_row.ensures.0 c.add_chunk.ensures)

pub shape_of-forks : goal.shape_of-forks
shape_of-forks c = c.forks-1.given

pub returns-in-Region : goal.returns-in-Region
returns-in-Region c = rw c.in-Region.is (noted-fork _ _ _ _ _ _ _ _ _ _ (rw c.move_on-after.ensures) c.fork_row.ensures.0 c.add_fork.ensures)

pub returns-in-Barrier : goal.returns-in-Barrier
unfolding pass_after new_chunks new_forks
returns-in-Barrier c =
    ⊎_elim
    (λ e. rw e (noted-none _ _ _ _ _ _ _ c.move_on-after.ensures refl refl refl refl))
    (⊎_elim
    (λ w. rw w.1 (noted-none _ _ _ _ _ _ _ c.move_on-after.ensures refl refl refl refl))
    (⊎_elim
    (λ w. rw w.1 (noted-none _ _ _ _ _ _ _ c.move_on-after.ensures refl refl refl refl))
    (λ w. rw w.1 (noted-none _ _ _ _ _ _ _ c.move_on-after.ensures refl refl refl refl))))
    c.in-Barrier.is

pub shape_of-chunks-in-Cut : goal.shape_of-chunks-in-Cut
shape_of-chunks-in-Cut c = c.chunks-in-Cut-1.given

pub returns-in-Cut : goal.returns-in-Cut
unfolding closes is_end
returns-in-Cut c = rw c.in-Cut.is (noted-chunk _ _ _ _ _ _ _ _ _ refl (rw c.move_on-after.ensures) c.closed_row-in-Cut.ensures.0 c.add_chunk-in-Cut.ensures)
