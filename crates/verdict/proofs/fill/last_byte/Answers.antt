-- `verdict::fill::last_byte` meets its contract. Assumes nothing.
use native.Mathlib.Omega.{arith}
use mathlib.Core.Path.{refl}
use Rattle.bundle.specs.Commands.{last_byte}
use Rattle.verdict.proofs.NotedCases.{counted-some, sized-some, start-below, last-below}
use Rattle.verdict.proofs.fill.last_byte.Goals as goal

pub overflow_sub-steps : goal.overflow_sub-steps
overflow_sub-steps c = counted-some _ c.requires

pub overflow_sub-size : goal.overflow_sub-size
overflow_sub-size c = sized-some _ c.requires

pub overflow_add-result : goal.overflow_add-result
overflow_add-result c = omega (arith, start-below c.args.range c.requires)

pub overflow_add-result-2 : goal.overflow_add-result-2
overflow_add-result-2 c = omega (arith, last-below c.args.range c.requires)

pub returns : goal.returns
unfolding last_byte
returns c = refl
