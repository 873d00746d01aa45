-- What the pass notes for each command.
use Prim.Native.Nat.{ℕ}
use mathlib.Core.Path.{◌≡◌, ◌∙◌, ap}
use mathlib.Core.Logic.{◌⊎◌, inl, inr}
use mathlib.Core.Bool.{true}
use mathlib.Core.List.{List, [], ◌∷◌}
use Rattle.bundle.specs.declared.command.Access.{Access}
use Rattle.bundle.specs.declared.command.Command.{Command}
use Rattle.bundle.specs.declared.command.Command.TheVariants as Com
use Rattle.bundle.specs.declared.index.Fork.{Fork}
use Rattle.rows.specs.Rows.{ends_interval}
use Rattle.rows.specs.Slots.{slot_made, Grown}
use Rattle.rows.specs.Passing.{team_row_of, entered, joined_on, moved_on, closed_at, course_after, span_here, slots_here, Noted}
use Rattle.rows.specs.declared.row.TeamRow.{TeamRow}
use Rattle.rows.specs.declared.pass.Course.{Course}
use Rattle.rows.proofs.SlotLaws.{grown-none}

-- BARRIER, END and CUT end an interval
abbrev Ending : Command → Type 0
Ending d = (d ≡ Com.Barrier) ⊎ ((d ≡ Com.End) ⊎ (d ≡ Com.Cut))

pub ends : {d : Command} → Ending d → ends_interval d ≡ true
unfolding ends_interval
ends (inl e) = rw e
ends (inr (inl e)) = rw e
ends (inr (inr e)) = rw e

-- and these add nothing to it but their bytes
abbrev Passing : Command → Type 0
Passing d = ((l : ℕ) × (d ≡ Com.Acquire l)) ⊎ (((l : ℕ) × (d ≡ Com.Release l)) ⊎ ((a : Access) × (d ≡ Com.Access a)))

module _ (fs : List Fork) (c : Course) (d : Command) (next : ℕ) (after : Course) (words : List ℕ) where
  -- a command that adds no record
  pub noted-member : {t m : ℕ} {team : TeamRow} → d ≡ Com.Member t m → team ≡ team_row_of fs t → after ≡ entered c team m next → Noted fs c d next after words words
  unfolding course_after slots_here ends_interval
  noted-member {t} {m} w q e = rw w (record { course = e ∙ ap (λ (r : TeamRow). entered c r m next) q; grown = grown-none words c.count })

  pub noted-region : {t z : ℕ} → d ≡ Com.Region t z → after ≡ joined_on c next → Noted fs c d next after words words
  unfolding course_after slots_here ends_interval
  noted-region w e = rw w (record { course = e; grown = grown-none words c.count })

  pub noted-moved : Passing d → after ≡ moved_on c next → Noted fs c d next after words words
  unfolding course_after slots_here ends_interval
  noted-moved (inl w) e = rw w.1 (record { course = e; grown = grown-none words c.count })
  noted-moved (inr (inl w)) e = rw w.1 (record { course = e; grown = grown-none words c.count })
  noted-moved (inr (inr w)) e = rw w.1 (record { course = e; grown = grown-none words c.count })

  -- a command that adds one
  pub noted-closed :
      {words' : List ℕ}
      → Ending d
      → after ≡ closed_at c next
      → Grown words words' c.count (slot_made c.team (span_here c next) c.count ∷ [])
      → Noted fs c d next after words words'
  unfolding course_after slots_here ends_interval
  noted-closed (inl w) e g = rw w (record { course = e; grown = g })
  noted-closed (inr (inl w)) e g = rw w (record { course = e; grown = g })
  noted-closed (inr (inr w)) e g = rw w (record { course = e; grown = g })
