-- `bundle::shape::mark` meets its contract. Assumes nothing.
use native.Mathlib.Omega.{arith}
use Prim.Native.Nat.{◌%◌}
use Rattle.bundle.proofs.LockBits.{one_shifted}
use Rattle.bundle.specs.Shape.{marked_at}
use Rattle.bundle.proofs.shape.mark.Goals as goal

pub returns : goal.returns
unfolding marked_at
returns c = rw (one_shifted (c.args.member % 64) (omega arith))
