-- `verdict::pairs::Tables::add_row` meets its contract. The invariant: the accesses of the blocks passed are compared. Assumes nothing.
use mathlib.Core.Path.{◌≡◌}
use Prim.Native.Nat.{◌*◌, min}
use Rattle.verdict.specs.Linking.{forks_in}
use Rattle.verdict.specs.Tallying.{tally_in, tally_row}
use Rattle.verdict.proofs.pairs.Tables.add_row.Given as goal

abbrev pub invariant-loop-block : goal.invariant-loop-block
invariant-loop-block l =
    tally_in l.self.rows.now l.sum
    ≡ tally_row l.self.matrix.now (forks_in l.self.forks.words.now l.self.forks.count) l.self.rows.now l.key l.one.row (tally_in l.self.rows.now l.initial.sum)
    (min (32 * l.block) l.i)
