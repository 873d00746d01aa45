-- `rewrite::convert::put_all` meets its contract. The invariant: what is written, with the rest of the commands, is the whole. The measure: the
-- bytes left. Assumes nothing.
use mathlib.Core.Path.{sym}
use Rattle.rewrite.proofs.ReadOn.{fewer-bytes}
use Rattle.rewrite.proofs.ConvertPass.{put-start, puttable, put-turn}
use Rattle.rewrite.proofs.convert.put_all.Goals as goal

pub loop-next-init : goal.loop-next-init
loop-next-init c = put-start _ _ _ c.requires.0 c.requires.1

pub put_regrouped-position-requires : goal.put_regrouped-position-requires
put_regrouped-position-requires c = puttable c.loop-next.invariant (sym c.in-Ok.ensures)

pub loop-next-smaller : goal.loop-next-smaller
loop-next-smaller c = fewer-bytes _ _ (sym c.in-Ok.ensures)

pub loop-next-preserved : goal.loop-next-preserved
loop-next-preserved c = put-turn c.loop-next.invariant (sym c.in-Ok.ensures) c.put_regrouped-position.ensures.0 c.put_regrouped-position.ensures.1
