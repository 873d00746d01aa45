-- `listing::pairs::push_rows` meets its contract. The invariant: the accesses passed are compared with those behind them. Assumes nothing.
use Rattle.verdict.specs.Linking.{forks_in}
use Rattle.listing.specs.Pushing.{Pushes, all_numbers}
use Rattle.listing.proofs.pairs.push_rows.Given as goal

abbrev pub invariant-loop-i : goal.invariant-loop-i
invariant-loop-i l =
    Pushes (all_numbers l.tables.matrix.now (forks_in l.tables.forks.words.now l.tables.forks.count) l.tables.rows.now l.n l.i) l.initial.numbers 0 l.numbers l.count
