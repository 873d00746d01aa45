-- `verdict::pairs::Tables::keep_apart` meets its contract. The invariant: the bits passed say which clash with all locks that count. Assumes nothing.
use Rattle.verdict.proofs.ClashWords.{KeptTo}
use Rattle.verdict.proofs.pairs.Tables.keep_apart.Given as goal

abbrev pub invariant-loop-k : goal.invariant-loop-k
invariant-loop-k l =
    KeptTo l.self.matrix.now l.self.rows.now l.lineages.forks.words.now l.lineages.forks.count l.one.row l.word l.first l.kept l.left l.k
