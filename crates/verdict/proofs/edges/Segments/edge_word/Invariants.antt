-- `verdict::edges::Segments::edge_word` meets its contract. The invariant: the bits below k are the tests of their columns. Assumes nothing.
use Rattle.verdict.specs.Edges.{edge_column}
use Rattle.verdict.proofs.WordBits.{BitsTo}
use Rattle.verdict.proofs.edges.Segments.edge_word.Given as goal

abbrev pub invariant-loop-k : goal.invariant-loop-k
invariant-loop-k l = BitsTo (edge_column l.self.opens l.self.nodes l.low l.high l.next) l.first l.word l.k
