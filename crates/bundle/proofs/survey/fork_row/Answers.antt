-- `bundle::survey::fork_row` meets its contract. Assumes nothing.
use mathlib.Core.Path.{refl}
use native.Mathlib.Omega.{arith}
use borrow.Author.Rules.{rules}
use Rattle.bundle.specs.Survey.{fork_here}
use Rattle.bundle.proofs.survey.fork_row.Goals as goal

pub returns : goal.returns
unfolding fork_here
returns c = (refl, record { place = search rules; barriers = omega (arith, c.requires.bounded.segments, c.requires.bounded.opened); regions = omega (arith, c.requires.bounded.segments, c.requires.bounded.opened) })
