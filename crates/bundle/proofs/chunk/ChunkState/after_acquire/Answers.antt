-- `bundle::chunk::ChunkState::after_acquire` meets its contract. Assumes nothing.
use mathlib.Core.Path.{sym, ◌∙◌}
use borrow.Author.Tests.{lt-ltb, le-ltb}
use Rattle.bundle.specs.Chunks.{after_acquire}
use Rattle.bundle.specs.Locks.{acquired}
use Rattle.bundle.proofs.LockBits.{one_shifted, acquired-fits}
use borrow.Author.Rules.{rules}
use Rattle.bundle.proofs.chunk.ChunkState.after_acquire.Goals as goal

pub returns-then-lock-ge64 : goal.returns-then-lock-ge64
returns-then-lock-ge64 c = rw (le-ltb _ _ c.if-lock-ge64.true)

pub returns-then-holds_lock : goal.returns-then-holds_lock
returns-then-holds_lock c = rw (lt-ltb _ _ c.if-lock-ge64.false, sym c.holds_lock.ensures ∙ c.if-holds_lock.true)

pub overflow_add-result : goal.overflow_add-result
overflow_add-result c = record { fits = rw (one_shifted _ c.if-lock-ge64.false) (acquired-fits _ _ c.if-lock-ge64.false (search rules) (sym c.holds_lock.ensures ∙ c.if-holds_lock.false)) }

pub returns : goal.returns
unfolding after_acquire acquired
returns c = rw (lt-ltb _ _ c.if-lock-ge64.false, sym c.holds_lock.ensures ∙ c.if-holds_lock.false, one_shifted _ c.if-lock-ge64.false)
