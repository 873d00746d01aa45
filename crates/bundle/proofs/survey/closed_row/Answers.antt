-- `bundle::survey::closed_row` meets its contract. Assumes nothing.
use mathlib.Core.Path.{refl}
use native.Mathlib.Omega.{arith}
use Rattle.bundle.specs.Survey.{closed_row}
use borrow.Author.Rules.{rules}
use Rattle.bundle.proofs.survey.closed_row.Goals as goal

pub returns : goal.returns
unfolding closed_row
returns c = (refl, record { place = search rules; past_some = search rules; past = search rules; barriers = omega (arith, c.requires.bounded.segments, c.requires.bounded.opened); segments = search rules; accesses = search rules })
