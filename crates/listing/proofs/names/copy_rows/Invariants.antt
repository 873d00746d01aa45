-- `listing::names::copy_rows` meets its contract. The invariant: the rows passed are copied. Assumes nothing.
use Rattle.listing.specs.Ranking.{Copied}
use Rattle.listing.proofs.names.copy_rows.Given as goal

abbrev pub invariant-loop-i : goal.invariant-loop-i
invariant-loop-i l = Copied l.rows l.words l.i l.initial.ordered l.ordered
