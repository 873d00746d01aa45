-- `rows::row::held_in` meets its contract. Assumes nothing.
use Rattle.order.proofs.Climbs.{span_fits}
use native.Mathlib.Omega.{arith}
use Rattle.rows.specs.Slots.{held_in, row_made}
use borrow.Author.Rules.{rules}
use Rattle.rows.proofs.row.held_in.Goals as goal

pub overflow_mul-result : goal.overflow_mul-result
overflow_mul-result c = record { fits = omega (arith, span_fits c.args.one.third c.args.other.fifth (search rules) (search rules)) }

pub overflow_add-result : goal.overflow_add-result
overflow_add-result c = record { fits = omega (arith, span_fits c.args.one.third c.args.other.fifth (search rules) (search rules)) }

pub returns : goal.returns
unfolding held_in row_made
returns c = search rules
