-- `rows::export::put_rows` meets its contract. Assumes nothing.
use mathlib.Core.Path.{sym}
use native.Mathlib.Omega.{arith}
use Rattle.bundle.proofs.Tables.{table_none}
use Rattle.rows.proofs.Filling.{put-more, put-all}
use Rattle.rows.proofs.export.put_rows.Goals as goal

pub loop-i-init : goal.loop-i-init
loop-i-init c = sym (table_none _)

pub loop-i-preserved : goal.loop-i-preserved
loop-i-preserved c = put-more _ _ _ c.loop-i.invariant _ (omega (arith, c.loop-i-test.true, c.loop-i.auto.rows)) c.row_at.ensures

pub returns : goal.returns
returns c = put-all _ _ _ c.loop-i.invariant _ c.loop-i.auto.rows c.loop-i.auto.i-end c.loop-i-test.false
