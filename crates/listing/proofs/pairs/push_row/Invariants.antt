-- `listing::pairs::push_row` meets its contract. The invariant: the accesses of the blocks passed are compared. Assumes nothing.
use Prim.Native.Nat.{◌*◌, min}
use Rattle.verdict.specs.Linking.{forks_in}
use Rattle.listing.specs.Pushing.{Pushes, row_numbers}
use Rattle.listing.proofs.pairs.push_row.Given as goal

abbrev pub invariant-loop-block : goal.invariant-loop-block
invariant-loop-block l =
    Pushes (row_numbers l.tables.matrix.now (forks_in l.tables.forks.words.now l.tables.forks.count) l.tables.rows.now l.i (min (32 * l.block) l.n)) l.initial.numbers l.before l.numbers l.count
