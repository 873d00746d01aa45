-- `bundle::command::access_byte` meets its contract. Assumes nothing.
use native.Mathlib.Omega.{arith}
use Rattle.bundle.proofs.Forms.{kind-byte-low}
use Rattle.bundle.proofs.command.access_byte.Goals as goal

pub overflow_add-result : goal.overflow_add-result
overflow_add-result c = omega (arith, c.from-byte.ensures, kind-byte-low c.args.kind)
