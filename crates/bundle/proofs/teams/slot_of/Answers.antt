-- `bundle::teams::slot_of` meets its contract. Assumes nothing.
use native.Mathlib.Omega.{arith}
use Rattle.bundle.proofs.Slots.{key_fits}
use Rattle.bundle.proofs.teams.slot_of.Goals as goal

pub overflow_cast-result : goal.overflow_cast-result
overflow_cast-result c = omega (arith, c.first_with_key.ensures, key_fits c.args.order.now c.args.team c.requires)
