-- `bundle::scan::test_of_group` meets its contract. Assumes nothing.
use mathlib.Core.Path.{refl, sym, ◌∙◌}
use Rattle.bundle.specs.Scan.{is_member, misplaced, above_own_team, misuses_lock, opens_segment, adds_access}
use Rattle.bundle.proofs.Stepping.{tested, other-group, beyond-range, many-accesses, after-access}
use Rattle.bundle.proofs.scan.test_of_group.Goals as goal

pub returns : goal.returns
unfolding misplaced is_member above_own_team misuses_lock opens_segment adds_access
returns c =
    c.decide.ensures
    ∙ tested _ _ _
    refl
    (other-group _ _ c.requires.1 c.follows_other.ensures)
    (beyond-range _ c.in_range.ensures)
    refl
    (sym (many-accesses _ _ c.requires.0 refl refl))
    (λ _ _. after-access _ _ c.requires.1 c.count.ensures)
