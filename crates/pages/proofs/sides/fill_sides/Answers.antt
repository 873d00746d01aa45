-- `pages::sides::fill_sides` meets its contract. Assumes nothing.
use mathlib.Core.Path.{ap}
use native.Mathlib.Omega.{arith}
use lib.ListN.{length}
use borrow.Author.Rules.{rules}
use Rattle.pages.proofs.Texts.{one-longer, texts-more}
use Rattle.pages.proofs.sides.fill_sides.Goals as goal

pub loop-rank-init : goal.loop-rank-init
loop-rank-init c = let none = ap length c.clear.ensures in (none, λ i h. absurd (omega (arith, none)))

pub loop-rank-preserved : goal.loop-rank-preserved
loop-rank-preserved c = (
  one-longer _ _ _ c.loop-rank.invariant.0 c.push.ensures,
  texts-more _ _ _ _ _ (search rules) c.loop-rank.invariant.0 c.loop-rank.invariant.1 c.race_in-race.ensures c.push.ensures,
)
