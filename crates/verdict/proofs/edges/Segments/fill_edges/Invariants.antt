-- `verdict::edges::Segments::fill_edges` meets its contract. The invariant: the rows passed have the tests of their columns. Assumes nothing.
use Rattle.verdict.specs.Edges.{table_edge}
use Rattle.verdict.proofs.EdgeWords.{FilledTo}
use Rattle.verdict.proofs.edges.Segments.fill_edges.Given as goal

abbrev pub invariant-loop-i : goal.invariant-loop-i
invariant-loop-i l = FilledTo (table_edge l.self.ends l.self.opens l.self.nodes) l.n l.matrix l.i
