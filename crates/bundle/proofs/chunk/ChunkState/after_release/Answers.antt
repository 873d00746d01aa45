-- `bundle::chunk::ChunkState::after_release` meets its contract. Assumes nothing.
use mathlib.Core.Path.{sym, ◌∙◌}
use Rattle.bundle.specs.Chunks.{after_release}
use Rattle.bundle.specs.Locks.{released}
use Rattle.bundle.proofs.LockBits.{one_shifted, none_above, released-there}
use borrow.Author.Rules.{rules}
use Rattle.bundle.proofs.chunk.ChunkState.after_release.Goals as goal

pub returns-then-lock-ge64 : goal.returns-then-lock-ge64
returns-then-lock-ge64 c = rw (← none_above c.args.lock c.args.self.locks (search rules) c.if-lock-ge64.true)

pub overflow_sub-result : goal.overflow_sub-result
overflow_sub-result c = rw (one_shifted _ c.if-lock-ge64.false) (released-there _ _ (sym c.holds_lock.ensures ∙ c.if-holds_lock.true))

pub returns-then-holds_lock : goal.returns-then-holds_lock
unfolding after_release released
returns-then-holds_lock c = rw (sym c.holds_lock.ensures ∙ c.if-holds_lock.true, one_shifted _ c.if-lock-ge64.false)

pub returns : goal.returns
returns c = rw (sym c.holds_lock.ensures ∙ c.if-holds_lock.false)
