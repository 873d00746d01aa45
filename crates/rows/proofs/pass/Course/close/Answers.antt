-- `rows::pass::Course::close` meets its contract. Assumes nothing.
use mathlib.Core.Path.{refl}
use Rattle.rows.specs.Passing.{span_here, closed_at}
use Rattle.rows.proofs.SlotLaws.{grown-one}
use Rattle.rows.proofs.pass.Course.close.Goals as goal

pub add_row-requires : goal.add_row-requires
unfolding span_here
add_row-requires c = (c.requires.1, c.requires.0.few, rw c.span_to.ensures c.requires.0.size)

pub returns : goal.returns
unfolding closed_at
returns c = (refl, grown-one (rw (← c.span_to.ensures) c.add_row.ensures))
