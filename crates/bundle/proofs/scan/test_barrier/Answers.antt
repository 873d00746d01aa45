-- `bundle::scan::test_barrier` meets its contract. Assumes nothing.
use mathlib.Core.Path.{refl, sym, ◌∙◌}
use Rattle.bundle.specs.Commands.{form_of, code_of, widths_of, operands_ok, fit_widths, in_range}
use Rattle.bundle.specs.Scan.{is_member, misplaced, of_other_group, above_own_team, misuses_lock, opens_segment, adds_access}
use Rattle.bundle.proofs.Stepping.{tested, many-segments, after-barrier}
use Rattle.bundle.proofs.scan.test_barrier.Goals as goal

pub returns : goal.returns
unfolding form_of code_of widths_of operands_ok fit_widths in_range misplaced is_member of_other_group above_own_team misuses_lock opens_segment adds_access
returns c =
    c.decide.ensures
    ∙ tested _ _ _
    refl
    refl
    refl
    refl
    (c.full.ensures ∙ sym (many-segments _ _ c.requires refl refl))
    (λ _ _. after-barrier c.requires c.after_barrier.ensures c.count.ensures)
