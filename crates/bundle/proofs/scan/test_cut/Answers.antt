-- `bundle::scan::test_cut` meets its contract. Assumes nothing.
use mathlib.Core.Path.{refl, sym, ◌∙◌}
use native.Mathlib.Nat.{add-zero}
use Rattle.bundle.specs.Commands.{form_of, code_of, widths_of, operands_ok, fit_widths, in_range}
use Rattle.bundle.specs.Scan.{is_member, misplaced, of_other_group, above_own_team, misuses_lock, opens_segment, adds_access, scanned}
use Rattle.bundle.proofs.Stepping.{tested, many-none}
use Rattle.bundle.proofs.scan.test_cut.Goals as goal

pub returns : goal.returns
unfolding form_of code_of widths_of operands_ok fit_widths in_range misplaced is_member of_other_group above_own_team misuses_lock opens_segment adds_access scanned
returns c =
    c.decide.ensures
    ∙ tested _ _ _
    refl
    refl
    refl
    refl
    (sym (many-none _ _ c.requires refl refl))
    (λ _ _. simp add-zero c.close_chunk.ensures)
