-- `verdict::edges::Segments::edge_word` meets its contract. The invariant: the bits below k are the tests of their columns. Assumes nothing.
use borrow.Author.Rules.{rules}
use Rattle.verdict.proofs.WordBits.{bits-more}
use Rattle.verdict.proofs.edges.Segments.edge_word.Goals as goal

pub loop-k-preserved : goal.loop-k-preserved
loop-k-preserved c = bits-more c.edge.result c.loop-k.invariant (search rules) c.edge.ensures
