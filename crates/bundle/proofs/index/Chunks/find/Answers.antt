-- `bundle::index::Chunks::find` meets its contract. Assumes nothing.
use mathlib.Core.Path.{sym, ◌∙◌}
use native.Mathlib.Omega.{arith}
use borrow.Author.Count.{below_more}
use Rattle.bundle.proofs.Tables.{found-below, none-below}
use Rattle.bundle.proofs.index.Chunks.find.Goals as goal

pub loop-i-init : goal.loop-i-init
loop-i-init c = λ l h. absurd (omega arith)

pub returns-then-is_row : goal.returns-then-is_row
returns-then-is_row c = found-below _ _ _ _ c.loop-i.invariant c.loop-i-test.true (sym c.is_row.ensures ∙ c.if-is_row.true)

pub loop-i-preserved : goal.loop-i-preserved
loop-i-preserved c = below_more _ _ c.loop-i.invariant (sym c.is_row.ensures ∙ c.if-is_row.false)

pub returns : goal.returns
returns c = none-below _ _ _ (λ l h. c.loop-i.invariant l (omega arith))
