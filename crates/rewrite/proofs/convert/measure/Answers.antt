-- `rewrite::convert::measure` meets its contract. The invariant: what is measured, with the rest of the commands, is the whole. The measure: the
-- bytes left. Assumes nothing.
use mathlib.Core.Path.{sym}
use Rattle.rewrite.proofs.ReadOn.{fewer-bytes}
use Rattle.rewrite.proofs.ConvertPass.{measured-start, few-so-far, measured-turn, measured-end}
use Rattle.rewrite.proofs.convert.measure.Goals as goal

pub loop-next-init : goal.loop-next-init
loop-next-init c = measured-start _ _ c.requires

pub with-measured-requires : goal.with-measured-requires
with-measured-requires c = few-so-far c.loop-next.invariant (sym c.in-Ok.ensures)

pub loop-next-smaller : goal.loop-next-smaller
loop-next-smaller c = fewer-bytes _ _ (sym c.in-Ok.ensures)

pub loop-next-preserved : goal.loop-next-preserved
loop-next-preserved c = measured-turn c.loop-next.invariant (sym c.in-Ok.ensures) c.with-measured.ensures

pub returns : goal.returns
returns c = measured-end c.loop-next.invariant (sym c.in_default.ensures)
