-- `listing::pairs::push_passing` meets its contract. The invariant: the accesses passed are compared, and the bits of the others are left. Assumes nothing.
use Rattle.verdict.specs.Linking.{forks_in}
use Rattle.listing.proofs.BlockLaws.{PassTo}
use Rattle.listing.proofs.pairs.push_passing.Given as goal

abbrev pub invariant-loop-j : goal.invariant-loop-j
invariant-loop-j l =
    PassTo l.tables.matrix.now (forks_in l.tables.forks.words.now l.tables.forks.count) l.tables.rows.now l.one.at l.first l.word l.initial.numbers l.before l.numbers l.count l.left l.j
