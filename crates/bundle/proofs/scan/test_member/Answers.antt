-- `bundle::scan::test_member` meets its contract. Assumes nothing.
use mathlib.Core.Path.{refl, sym, ◌∙◌}
use native.Mathlib.Nat.{add-zero}
use Rattle.bundle.specs.Scan.{is_member, misplaced, of_other_group, above_own_team, misuses_lock, opens_segment, adds_access, scanned}
use Rattle.bundle.proofs.Stepping.{tested, beyond-range, many-segments}
use Rattle.bundle.proofs.scan.test_member.Goals as goal

pub returns : goal.returns
unfolding misplaced is_member of_other_group above_own_team misuses_lock opens_segment adds_access scanned
returns c =
    c.decide.ensures
    ∙ tested _ _ _
    refl
    refl
    (beyond-range _ c.in_range.ensures)
    refl
    (c.full.ensures ∙ sym (many-segments _ _ c.requires refl refl))
    (λ _ _. simp add-zero c.open_chunk.ensures)
