-- `rewrite::rewrite::number_chunks` meets its contract. The invariant: the words of the chunks passed are written. Assumes nothing.
use mathlib.Core.Path.{sym}
use native.Mathlib.Omega.{arith}
use Rattle.bundle.proofs.Tables.{table_none}
use Rattle.bundle.proofs.TeamOrder.{written-more, written_all}
use Rattle.rewrite.specs.Words.{chunk_word}
use Rattle.rewrite.proofs.rewrite.number_chunks.Goals as goal

pub loop-i-init : goal.loop-i-init
loop-i-init c = sym (table_none _)

pub loop-i-preserved : goal.loop-i-preserved
loop-i-preserved c =
    written-more _ _ _ c.loop-i.invariant _ (omega (arith, c.loop-i-test.true, c.loop-i.auto.order)) (unfold chunk_word in (rw (c.word_of.ensures, c.at.ensures)))

pub returns : goal.returns
returns c = written_all _ _ _ c.loop-i.invariant _ c.loop-i.auto.order c.loop-i.auto.i-end (omega (arith, c.loop-i-test.false, c.loop-i.auto.order))
