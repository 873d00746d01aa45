-- `bundle::command::last_ok` meets its contract: the product of two 16-bit numbers fits, and so do the sums. Assumes nothing.
use native.Mathlib.Omega.{arith}
use borrow.Author.Rules.{rules}
use Rattle.bundle.specs.Commands.{last_byte}
use Rattle.bundle.proofs.Ranges.{steps-fit}
use Rattle.bundle.proofs.command.last_ok.Goals as goal

pub overflow_mul-result : goal.overflow_mul-result
overflow_mul-result c =
    let r = c.args.range in
    record { fits = omega (arith, steps-fit r.count r.stride (search rules) (search rules)) }

pub overflow_add-result : goal.overflow_add-result
overflow_add-result c =
    let r = c.args.range in
    record { fits = omega (arith, steps-fit r.count r.stride (search rules) (search rules)) }

pub overflow_add-result-2 : goal.overflow_add-result-2
overflow_add-result-2 c =
    let r = c.args.range in
    record { fits = omega (arith, steps-fit r.count r.stride (search rules) (search rules)) }

pub returns : goal.returns
unfolding last_byte
returns c = search rules
