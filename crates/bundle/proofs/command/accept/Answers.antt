-- `bundle::command::accept` meets its contract. Assumes nothing.
use mathlib.Core.Path.{sym, ◌∙◌}
use Rattle.bundle.proofs.Arms.{accept-beyond, accept-within}
use Rattle.bundle.proofs.command.accept.Goals as goal

pub returns-then-not-in_range : goal.returns-then-not-in_range
returns-then-not-in_range c = rw c.in_ok-taken.was (accept-beyond _ _ (sym c.in_range.ensures ∙ c.if-not-in_range.true))

pub returns : goal.returns
returns c = rw c.in_ok-taken.was (accept-within _ _ (sym c.in_range.ensures ∙ c.if-not-in_range.false))
