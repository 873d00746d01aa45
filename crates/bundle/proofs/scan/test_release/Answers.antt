-- `bundle::scan::test_release` meets its contract. Assumes nothing.
use mathlib.Core.Path.{refl, sym, ap, ◌∙◌}
use Rattle.bundle.specs.Scan.{is_member, misplaced, of_other_group, above_own_team, misuses_lock, opens_segment, adds_access}
use Rattle.bundle.proofs.Stepping.{tested, beyond-range, many-none, after-release}
use mathlib.Core.Bool.{not}
use Rattle.bundle.proofs.scan.test_release.Goals as goal

pub returns : goal.returns
unfolding misplaced is_member of_other_group above_own_team misuses_lock opens_segment adds_access
returns c =
    c.decide.ensures
    ∙ tested _ _ _
    refl
    refl
    (beyond-range _ c.in_range.ensures)
    (ap not c.holds_lock.ensures)
    (sym (many-none _ _ c.requires refl refl))
    (λ ranged held. after-release _ _ held c.after_release.ensures c.count.ensures)
