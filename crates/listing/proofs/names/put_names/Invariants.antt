-- `listing::names::put_names` meets its contract. The invariant: the words of the accesses passed stand in front, the others are as they were. Assumes nothing.
use mathlib.Core.Path.{◌≡◌}
use Prim.Native.Nat.{◌*◌}
use mathlib.Core.List.{◌++◌}
use lib.ListN.{drop}
use Rattle.bundle.specs.Index.{table}
use Rattle.listing.specs.Ranking.{word_of}
use Rattle.listing.proofs.names.put_names.Given as goal

abbrev pub invariant-loop-i : goal.invariant-loop-i
invariant-loop-i l = l.names ≡ table (word_of l.rows) (2 * l.i) ++ drop (2 * l.i) l.initial.names
