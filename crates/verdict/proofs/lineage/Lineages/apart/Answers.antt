-- `verdict::lineage::Lineages::apart` meets its contract. The invariant: what the two sides count in common stays. The measure: the sum of the two team numbers. Assumes nothing.
use mathlib.Core.Path.{refl, ◌∙◌}
use native.Mathlib.Omega.{arith}
use Rattle.verdict.proofs.LinkLaws.{climb-falls, sides-meet, larger-forked, other-climbs, one-climbs}
use Rattle.verdict.proofs.lineage.Lineages.apart.Goals as goal

pub loop-first-init : goal.loop-first-init
loop-first-init c = (c.requires, refl)

pub climb-second-requires : goal.climb-second-requires
climb-second-requires c =
    let s = c.loop-first.invariant.0 in
    (s.climbs, s.other_side, larger-forked _ _ _ s.climbs c.loop-first.first c.loop-first.second s.other_side c.if-first-second.true)

pub loop-first-smaller-then-first-second : goal.loop-first-smaller-then-first-second
loop-first-smaller-then-first-second c =
    let s = c.loop-first.invariant.0 in
    let forked = larger-forked _ _ _ s.climbs c.loop-first.first c.loop-first.second s.other_side c.if-first-second.true in
    omega (arith, climb-falls _ _ _ s.climbs c.loop-first.second s.other_side forked c.climb-second.ensures)

pub loop-first-preserved-then-first-second : goal.loop-first-preserved-then-first-second
loop-first-preserved-then-first-second c =
    let s = c.loop-first.invariant.0 in (
      record { climbs = s.climbs; side = s.side; other_side = c.climb-second.ensures.fits },
      other-climbs _ _ _ s.climbs c.loop-first.first c.loop-first.second s.other_side c.if-first-second.true c.climb-second.ensures ∙ c.loop-first.invariant.1,
    )

pub climb-first-requires : goal.climb-first-requires
climb-first-requires c =
    let s = c.loop-first.invariant.0 in
    (s.climbs, s.side, larger-forked _ _ _ s.climbs c.loop-first.second c.loop-first.first s.side (omega (arith, c.loop-first-test.true, c.if-first-second.false)))

pub loop-first-smaller : goal.loop-first-smaller
loop-first-smaller c =
    let s = c.loop-first.invariant.0 in
    let forked = larger-forked _ _ _ s.climbs c.loop-first.second c.loop-first.first s.side (omega (arith, c.loop-first-test.true, c.if-first-second.false)) in
    omega (arith, climb-falls _ _ _ s.climbs c.loop-first.first s.side forked c.climb-first.ensures)

pub loop-first-preserved : goal.loop-first-preserved
loop-first-preserved c =
    let s = c.loop-first.invariant.0 in (
      record { climbs = s.climbs; side = c.climb-first.ensures.fits; other_side = s.other_side },
      one-climbs _ _ _ s.climbs c.loop-first.first c.loop-first.second s.side (omega (arith, c.loop-first-test.true, c.if-first-second.false)) c.climb-first.ensures ∙ c.loop-first.invariant.1,
    )

pub returns : goal.returns
returns c =
    sides-meet _ _ _ c.loop-first.invariant.0.climbs c.loop-first.first c.loop-first.second c.loop-first-test.false c.common.ensures c.loop-first.invariant.1
