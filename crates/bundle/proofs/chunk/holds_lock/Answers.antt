-- `bundle::chunk::holds_lock` meets its contract. Assumes nothing.
use mathlib.Core.Path.{refl}
use Rattle.bundle.specs.Locks.{holds}
use Rattle.bundle.proofs.LockBits.{none_above}
use borrow.Author.Rules.{rules}
use Rattle.bundle.proofs.chunk.holds_lock.Goals as goal

pub returns-then-lock-ge64 : goal.returns-then-lock-ge64
returns-then-lock-ge64 c = none_above _ _ (search rules) c.if-lock-ge64.true

pub returns : goal.returns
unfolding holds
returns c = refl
