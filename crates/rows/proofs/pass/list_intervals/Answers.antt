-- `rows::pass::list_intervals` meets its contract. The invariant: what the words hold, with what the rest of the commands adds, is the whole.
-- The measure: the bytes left. Assumes nothing.
use mathlib.Core.Path.{◌≡◌, sym}
use native.Mathlib.Omega.{arith}
use borrow.Author.Rules.{rules}
use Rattle.rows.specs.Passing.{beginning}
use Rattle.rows.proofs.Running.{running-start, running-notable, running-less, running-turn, running-end}
use Rattle.rows.proofs.pass.list_intervals.Goals as goal

pub loop-next-init : goal.loop-next-init
unfolding beginning
loop-next-init c =
    let begun : c.default-course.result ≡ beginning = search rules in
    rw begun (running-start _ _ _ c.requires)

pub note-course-requires : goal.note-course-requires
note-course-requires c = running-notable c.loop-next.invariant (λ i h. omega (arith, c.type_inv.bytes i)) (sym c.in-Ok.ensures)

pub loop-next-smaller : goal.loop-next-smaller
loop-next-smaller c = running-less c.loop-next.invariant (λ i h. omega (arith, c.type_inv.bytes i)) (sym c.in-Ok.ensures) c.note-course.ensures

pub loop-next-preserved : goal.loop-next-preserved
loop-next-preserved c = running-turn c.loop-next.invariant (λ i h. omega (arith, c.type_inv.bytes i)) (sym c.in-Ok.ensures) c.note-course.ensures

pub returns : goal.returns
returns c = running-end c.loop-next.invariant (sym c.in_default.ensures)
