-- `bundle::shape::first_stray` meets its contract. Assumes nothing.
use mathlib.Core.Path.{◌≡◌, sym, ◌∙◌}
use native.Mathlib.Omega.{arith}
use borrow.Author.Rules.{rules}
use borrow.Author.Count.{below_more}
use Rattle.bundle.proofs.ShapeTests.{slot_is, slot-room, stray-is, stray-noted}
use Rattle.bundle.specs.Shape.{FoundFirst}
use Rattle.bundle.proofs.shape.first_stray.Goals as goal

pub loop-i-init : goal.loop-i-init
loop-i-init c = (λ j h. absurd (omega arith), c.requires.met)

pub slot_of-slot-requires : goal.slot_of-slot-requires
slot_of-slot-requires c = c.requires.by_team.few

pub is_stray-requires : goal.is_stray-requires
is_stray-requires c = slot_is _ _ _ _ c.requires.by_team _ c.loop-i.invariant.1 c.at-row.ensures c.slot_of-slot.ensures

pub returns-then-is_stray : goal.returns-then-is_stray
unfolding FoundFirst
returns-then-is_stray c =
    let stray = stray-is _ _ _ _ c.requires.by_team _ c.loop-i.invariant.1 c.at-row.ensures c.slot_of-slot.ensures c.is_stray.ensures in
    record {
      first = (c.loop-i-test.true, sym c.if-is_stray.true ∙ stray, λ j h. sym (c.loop-i.invariant.0 j h));
      met = c.loop-i.invariant.1;
    }

pub note-requires : goal.note-requires
note-requires c = slot-room _ _ _ _ c.requires.by_team _ c.loop-i.invariant.1 c.at-row.ensures c.slot_of-slot.ensures

pub loop-i-preserved : goal.loop-i-preserved
loop-i-preserved c =
    let by = c.requires.by_team in
    let row = c.at-row.ensures in
    let slot = c.slot_of-slot.ensures in
    let tested = c.is_stray.ensures in
    let passes = c.if-is_stray.false in (
      below_more _ _ c.loop-i.invariant.0 (sym (stray-is _ _ _ _ by _ c.loop-i.invariant.1 row slot tested) ∙ passes),
      stray-noted _ _ _ _ by _ c.loop-i.invariant.1 row slot tested passes c.note.ensures.0 c.note.ensures.1,
    )

pub returns : goal.returns
unfolding FoundFirst
returns c =
    let e : c.loop-i.i ≡ c.args.chunks.count = search rules in
    record {
      first = λ j h. sym (c.loop-i.invariant.0 j (omega arith));
      met = rw e at c.loop-i.invariant.1;
    }
