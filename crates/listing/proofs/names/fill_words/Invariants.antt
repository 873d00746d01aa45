-- `listing::names::fill_words` meets its contract. The invariant: the words of the accesses passed stand in front, the others are as they were. Assumes nothing.
use mathlib.Core.Path.{◌≡◌}
use mathlib.Core.List.{◌++◌}
use lib.ListN.{drop}
use Rattle.bundle.specs.Index.{table}
use Rattle.listing.specs.Ranking.{name_word}
use Rattle.listing.proofs.names.fill_words.Given as goal

abbrev pub invariant-loop-i : goal.invariant-loop-i
invariant-loop-i l = l.words ≡ table (name_word l.rows) l.i ++ drop l.i l.initial.words
