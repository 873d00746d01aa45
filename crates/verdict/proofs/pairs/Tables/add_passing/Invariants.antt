-- `verdict::pairs::Tables::add_passing` meets its contract. The invariant: the accesses passed are compared, and the bits of the others are left. Assumes nothing.
use Rattle.verdict.specs.Linking.{forks_in}
use Rattle.verdict.proofs.PairBlocks.{BlockTo}
use Rattle.verdict.proofs.pairs.Tables.add_passing.Given as goal

abbrev pub invariant-loop-j : goal.invariant-loop-j
invariant-loop-j l =
    BlockTo l.self.matrix.now (forks_in l.self.forks.words.now l.self.forks.count) l.self.rows.now l.key l.one.row l.first l.word l.initial.sum l.sum l.left l.j
