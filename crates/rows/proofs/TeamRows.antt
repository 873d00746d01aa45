-- A team by its slot: the team that forks it, its size and its level.
use Prim.Native.Nat.{ℕ, zero, suc, ◌+◌, ◌-◌, ◌≤◌, ◌<◌}
use mathlib.Core.Path.{◌≡◌, refl, sym, ◌∙◌, ap}
use mathlib.Core.List.{List}
use mathlib.Core.Option.{Option, none, some}
use native.Mathlib.Omega.{arith}
use native.Mathlib.Numerals.{add-one}
use Rattle.sorting.specs.Searching.{first_with_key}
use Rattle.bundle.specs.Lists.{from_option}
use Rattle.bundle.specs.Check.{fork_of, size_of, depth_from}
use Rattle.bundle.specs.Index.{fork_row_at, table}
use Rattle.bundle.specs.Shape.{slot_of, ByTeam}
use Rattle.bundle.specs.declared.index.Fork.{Fork}
use Rattle.order.proofs.Climbs.{fork-none, fork-some}
use Rattle.rows.specs.Passing.{parent_of, team_row_of}

module _ (forks : List ℕ) (n : ℕ) (order : List ℕ) (by : ByTeam order (table (fork_row_at forks) n)) (t : ℕ) {slot : ℕ} (e : slot ≡ first_with_key order t) where
  pub at_slot : slot ≡ slot_of (table (fork_row_at forks) n) t
  at_slot = e ∙ by.slot t

  pub none-forks : n ≤ slot → none ≡ fork_of (table (fork_row_at forks) n) t
  none-forks h = sym (fork-none (fork_row_at forks) n t slot (unfold slot_of in at_slot) h)

  pub some_forks : slot < n → {f : Fork} → f ≡ fork_row_at forks slot → some f ≡ fork_of (table (fork_row_at forks) n) t
  some_forks h q = sym (fork-some (fork_row_at forks) n t slot (unfold slot_of in at_slot) h q)

pub parent-is : (fs : List Fork) (t : ℕ) {o : Option Fork} → o ≡ fork_of fs t → from_option 0 (λ (f : Fork). f.parent) o ≡ parent_of fs t
unfolding parent_of
parent-is fs t e = rw e

-- one climb
one-climb : (fs : List Fork) (fuel t : ℕ) {f : Fork} → fork_of fs t ≡ some f → depth_from (suc fuel) fs t ≡ suc (depth_from fuel fs f.parent)
unfolding depth_from
one-climb fs fuel t e = rw e

no-climb : (fs : List Fork) (fuel t : ℕ) → fork_of fs t ≡ none → 0 ≡ depth_from fuel fs t
unfolding depth_from
no-climb fs zero t e = refl
no-climb fs (suc fuel) t e = rw e

-- the level, so many climbs at most
module _ (fs : List Fork) (t most : ℕ) where
  abbrev Level : ℕ → Type 0
  Level r = (r ≡ depth_from most fs t) × (r ≤ most)

  pub level-none : most ≡ 0 → Level 0
  unfolding depth_from
  level-none h = rw h (refl, omega arith)

  pub level-ends : none ≡ fork_of fs t → Level 0
  level-ends h = (no-climb fs most t (sym h), omega arith)

  pub level-goes :
      (most ≡ 0 → ⊥)
      → {f : Fork} {r : ℕ}
      → some f ≡ fork_of fs t
      → (r ≡ depth_from (most - 1) fs f.parent) × (r ≤ most - 1)
      → Level (r + 1)
  level-goes positive {f} {r} known w =
      let less : suc (most - 1) ≡ most = omega (arith, positive) in (
        add-one r ∙ ap suc w.0 ∙ sym (one-climb fs (most - 1) t (sym known)) ∙ ap (λ (m : ℕ). depth_from m fs t) less,
        omega (arith, positive, w.1),
      )

-- all of it
pub team-made :
    (fs : List Fork) (t : ℕ) {parent size level : ℕ}
    → parent ≡ parent_of fs t
    → size ≡ size_of fs t
    → level ≡ depth_from 5 fs t
    → record { team = t; parent = parent; size = size; level = level } ≡ team_row_of fs t
unfolding team_row_of
team-made fs t p s l = rw (p, s, l)
