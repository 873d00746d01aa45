-- `exports::commands::command_from` meets its contract: an operand over its width is out of range. Assumes nothing.
use Rattle.exports.specs.CommandWords.{command_by}
use Rattle.exports.proofs.Widths.{member-wide, region-wide, acquire-wide, release-wide, is-too-wide}
use Rattle.exports.proofs.commands.command_from.Goals as goal

pub returns-in_err-try_from-in-1 : goal.returns-in_err-try_from-in-1
unfolding command_by
returns-in_err-try_from-in-1 c =
    is-too-wide _ _ c.from_residual.ensures.1
    (rw c.in-1.is (member-wide _ _ (λ team member. c.in_err-try_from-in-1.ensures team)))

pub returns-in_err-try_from-in-1-2 : goal.returns-in_err-try_from-in-1-2
unfolding command_by
returns-in_err-try_from-in-1-2 c =
    is-too-wide _ _ c.from_residual-in_err-try_from-in-1-2.ensures.1
    (rw c.in-1.is (member-wide _ _ (λ team member. c.in_err-try_from-in-1-2.ensures member)))

pub returns-in_err-try_from-in-16 : goal.returns-in_err-try_from-in-16
unfolding command_by
returns-in_err-try_from-in-16 c =
    is-too-wide _ _ c.from_residual-in_err-try_from-in-16.ensures.1
    (rw c.in-16.is (region-wide _ _ (λ team size. c.in_err-try_from-in-16.ensures team)))

pub returns-in_err-try_from-in-16-2 : goal.returns-in_err-try_from-in-16-2
unfolding command_by
returns-in_err-try_from-in-16-2 c =
    is-too-wide _ _ c.from_residual-in_err-try_from-in-16-2.ensures.1
    (rw c.in-16.is (region-wide _ _ (λ team size. c.in_err-try_from-in-16-2.ensures size)))

pub returns-in_err-try_from-in-32 : goal.returns-in_err-try_from-in-32
unfolding command_by
returns-in_err-try_from-in-32 c =
    is-too-wide _ _ c.from_residual-in_err-try_from-in-32.ensures.1
    (rw c.in-32.is (acquire-wide _ (λ lock. c.in_err-try_from-in-32.ensures lock)))

pub returns-in_err-try_from-in-33 : goal.returns-in_err-try_from-in-33
unfolding command_by
returns-in_err-try_from-in-33 c =
    is-too-wide _ _ c.from_residual-in_err-try_from-in-33.ensures.1
    (rw c.in-33.is (release-wide _ (λ lock. c.in_err-try_from-in-33.ensures lock)))
