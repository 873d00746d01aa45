-- `exports::commands::access_from` meets its contract: an operand over its width is out of range. Assumes nothing.
use Rattle.exports.proofs.Widths.{access-wide, is-too-wide}
use Rattle.exports.proofs.commands.access_from.Goals as goal

pub returns-in_err-try_from : goal.returns-in_err-try_from
returns-in_err-try_from c =
    is-too-wide _ _ c.from_residual.ensures.1 (access-wide _ (λ stride count size. c.in_err-try_from.ensures stride))

pub returns-in_err-try_from-2 : goal.returns-in_err-try_from-2
returns-in_err-try_from-2 c =
    is-too-wide _ _ c.from_residual-in_err-try_from-2.ensures.1 (access-wide _ (λ stride count size. c.in_err-try_from-2.ensures count))

pub returns-in_err-try_from-3 : goal.returns-in_err-try_from-3
returns-in_err-try_from-3 c =
    is-too-wide _ _ c.from_residual-in_err-try_from-3.ensures.1 (access-wide _ (λ stride count size. c.in_err-try_from-3.ensures size))
