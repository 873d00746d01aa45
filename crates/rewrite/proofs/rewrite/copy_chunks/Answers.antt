-- `rewrite::rewrite::copy_chunks` meets its contract. The invariant: the chunks of the words passed are copied. Assumes nothing.
use Rattle.rewrite.proofs.Pieces.{copied_none, row_fits, piece-fits, copied_more, copied_all}
use borrow.Author.Rules.{rules}
use Rattle.rewrite.proofs.rewrite.copy_chunks.Goals as goal

pub loop-word-init : goal.loop-word-init
loop-word-init c = copied_none _ _ _ _

pub copy_chunk-position-requires : goal.copy_chunk-position-requires
copy_chunk-position-requires c = (
  row_fits _ _ _ _ c.requires c.loop-word.invariant c.loop-word-test.true c.at.ensures,
  piece-fits _ _ _ _ c.requires c.loop-word.invariant c.loop-word-test.true c.at.ensures,
)

pub loop-word-preserved : goal.loop-word-preserved
loop-word-preserved c = copied_more _ _ _ _ c.requires c.loop-word.invariant c.loop-word-test.true c.at.ensures c.copy_chunk-position.ensures.0 (search rules) c.copy_chunk-position.ensures.1

pub returns : goal.returns
returns c = copied_all _ _ _ _ c.requires c.loop-word.invariant c.loop-word-test.false
