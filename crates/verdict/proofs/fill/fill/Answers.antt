-- `verdict::fill::fill` meets its contract. The invariant: what the tables hold, with what the rest of the bundle adds, is the whole. The
-- measure: the bytes left. Assumes nothing.
use mathlib.Core.Path.{sym}
use Rattle.bundle.proofs.Passing.{fewer-left}
use Rattle.verdict.proofs.TablePass.{turn, turned, filling-start, filled-end, not-refused}
use Rattle.verdict.proofs.fill.fill.Goals as goal

pub loop-cursor-init : goal.loop-cursor-init
loop-cursor-init c = filling-start c.requires.0 c.requires.1 c.begin-cursor.ensures

pub returns-in_default : goal.returns-in_default
returns-in_default c = not-refused _ _ c.loop-cursor.invariant c.loop-cursor-test.true (sym c.in_default.ensures)

pub note-cursor-requires : goal.note-cursor-requires
note-cursor-requires c = (turn c.requires.0 _ _ c.loop-cursor.invariant (sym c.in-Ok.ensures)).notable

pub loop-cursor-smaller : goal.loop-cursor-smaller
loop-cursor-smaller c = fewer-left _ _ _ c.loop-cursor-test.true (turned c.requires.0 _ _ c.loop-cursor.invariant (sym c.in-Ok.ensures) c.note-cursor.ensures).0

pub loop-cursor-preserved : goal.loop-cursor-preserved
loop-cursor-preserved c = (turned c.requires.0 _ _ c.loop-cursor.invariant (sym c.in-Ok.ensures) c.note-cursor.ensures).1

pub returns : goal.returns
returns c = filled-end c.loop-cursor-test.false c.loop-cursor.invariant
