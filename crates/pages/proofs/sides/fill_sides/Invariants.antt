-- `pages::sides::fill_sides` meets its contract. The invariant: the texts of the ranks passed. Assumes nothing.
use mathlib.Core.Path.{◌≡◌}
use lib.ListN.{length}
use Rattle.pages.specs.Inner.{AreTexts}
use Rattle.pages.proofs.sides.fill_sides.Given as goal

abbrev pub invariant-loop-rank : goal.invariant-loop-rank
invariant-loop-rank l = (length l.sides ≡ l.rank) × AreTexts l.names l.sides
