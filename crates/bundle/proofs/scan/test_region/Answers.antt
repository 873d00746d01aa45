-- `bundle::scan::test_region` meets its contract. Assumes nothing.
use mathlib.Core.Path.{refl, sym, ◌∙◌}
use Rattle.bundle.specs.Scan.{is_member, misplaced, of_other_group, above_own_team, misuses_lock, opens_segment, adds_access}
use Rattle.bundle.proofs.Stepping.{tested, beyond-team, many-segments, after_region}
use Rattle.bundle.proofs.scan.test_region.Goals as goal

pub returns : goal.returns
unfolding misplaced is_member of_other_group above_own_team misuses_lock opens_segment adds_access
returns c =
    c.decide.ensures
    ∙ tested _ _ _
    refl
    refl
    (beyond-team _ _ _ c.in_range.ensures)
    refl
    (c.full.ensures ∙ sym (many-segments _ _ c.requires refl refl))
    (λ _ _. after_region c.requires _ _ c.after_join.ensures c.count.ensures)
