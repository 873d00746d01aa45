-- `bundle::shape::Tables::too_deep` meets its contract. Assumes nothing.
use mathlib.Core.Path.{sym}
use borrow.Author.Tests.{lt-ltb, le-ltb}
use Rattle.bundle.specs.Shape.{deep_by}
use Rattle.bundle.proofs.shape.Tables.too_deep.Goals as goal

pub returns-then-team-lt4 : goal.returns-then-team-lt4
unfolding deep_by
returns-then-team-lt4 c = simp (sym c.at-team.ensures, lt-ltb _ _ c.if-team-lt4.true)

pub returns : goal.returns
unfolding deep_by
returns c = simp (c.climb.ensures, sym c.at-team.ensures, le-ltb _ _ c.if-team-lt4.false)
