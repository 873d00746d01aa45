-- `rewrite::rewrite::number_chunks` meets its contract. The invariant: the words of the chunks passed are written. Assumes nothing.
use mathlib.Core.Path.{◌≡◌}
use lib.ListN.{take}
use Rattle.bundle.specs.Index.{table}
use Rattle.rewrite.specs.Words.{chunk_word}
use Rattle.rewrite.proofs.rewrite.number_chunks.Given as goal

abbrev pub invariant-loop-i : goal.invariant-loop-i
invariant-loop-i l = take l.i l.order ≡ table (chunk_word l.chunks.words.now) l.i
