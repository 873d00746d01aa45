-- `rewrite::rewrite::copy_chunks` meets its contract. The invariant: the chunks of the words passed are copied. Assumes nothing.
use Rattle.rewrite.proofs.Pieces.{CopiedTo}
use Rattle.rewrite.proofs.rewrite.copy_chunks.Given as goal

abbrev pub invariant-loop-word : goal.invariant-loop-word
invariant-loop-word l = CopiedTo l.bytes l.chunks.words.now l.order l.initial.buffer l.word-index l.position l.buffer
