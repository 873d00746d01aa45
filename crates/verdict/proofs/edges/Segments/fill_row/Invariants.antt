-- `verdict::edges::Segments::fill_row` meets its contract. The invariant: the words passed have the tests of their columns, the others are as they were. Assumes nothing.
use Rattle.verdict.specs.Edges.{edge_column}
use Rattle.verdict.proofs.EdgeWords.{CellsTo}
use Rattle.verdict.proofs.edges.Segments.fill_row.Given as goal

abbrev pub invariant-loop-word : goal.invariant-loop-word
invariant-loop-word l = CellsTo (edge_column l.self.opens l.self.nodes l.low l.high l.next) l.i l.initial.matrix l.matrix l.word
