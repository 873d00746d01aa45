-- `bundle::scan::test_acquire` meets its contract. Assumes nothing.
use mathlib.Core.Path.{refl, sym, ◌∙◌}
use Rattle.bundle.specs.Scan.{is_member, misplaced, of_other_group, above_own_team, misuses_lock, opens_segment, adds_access}
use Rattle.bundle.proofs.Stepping.{tested, beyond-range, many-none, after-acquire}
use Rattle.bundle.proofs.scan.test_acquire.Goals as goal

pub returns : goal.returns
unfolding misplaced is_member of_other_group above_own_team misuses_lock opens_segment adds_access
returns c =
    c.decide.ensures
    ∙ tested _ _ _
    refl
    refl
    (beyond-range _ c.in_range.ensures)
    c.holds_lock.ensures
    (sym (many-none _ _ c.requires refl refl))
    (λ ranged unheld. after-acquire _ _ ranged unheld c.after_acquire.ensures c.count.ensures)
