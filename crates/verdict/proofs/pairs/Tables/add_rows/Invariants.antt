-- `verdict::pairs::Tables::add_rows` meets its contract. The invariant: the accesses passed are compared with those before them. Assumes nothing.
use mathlib.Core.Path.{◌≡◌}
use Rattle.verdict.specs.Linking.{forks_in}
use Rattle.verdict.specs.Tallying.{tally_in, tally_all}
use Rattle.verdict.proofs.pairs.Tables.add_rows.Given as goal

abbrev pub invariant-loop-i : goal.invariant-loop-i
invariant-loop-i l =
    tally_in l.self.rows.now l.sum ≡ tally_all l.self.matrix.now (forks_in l.self.forks.words.now l.self.forks.count) l.self.rows.now l.key l.i
