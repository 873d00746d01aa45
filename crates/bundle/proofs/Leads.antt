-- The lowest-numbered complete member of a team as a number: the greatest of its complete chunks.
use Prim.Native.Nat.{ℕ, ◌%◌, ◌≤◌, ◌<◌}
use mathlib.Core.Path.{◌≡◌, refl}
use mathlib.Core.Logic.{◌⊎◌, inl, inr, ⊎_elim}
use mathlib.Core.Bool.{true, false, ◌&&◌}
use mathlib.Core.List.{List, [], ◌∷◌, ◌++◌, Memᴰ}
use native.Mathlib.Omega.{arith}
use lib.Dec.{eqb, ltb}
use borrow.Author.Tests.{eqb-true, eq-eqb, ne_eqb, ltb-false}
use Rattle.bundle.specs.Shape.{complete_row, lead_word, Lead}
use Rattle.bundle.specs.declared.index.ChunkRow.{ChunkRow}
use Rattle.bundle.proofs.Tests.{both, and_left, and_right, is_false, not-both, decide}

pub complete-row : {t : ℕ} (r : ChunkRow) → r.team ≡ t → r.complete ≡ true → complete_row t r ≡ true
unfolding complete_row
complete-row {t} r e h = both (eq-eqb r.team t e) h

pub row-complete : {t : ℕ} (r : ChunkRow) → complete_row t r ≡ true → (r.team ≡ t) × (r.complete ≡ true)
unfolding complete_row
row-complete {t} r h = (eqb-true r.team t (and_left (eqb r.team t) r.complete h), and_right (eqb r.team t) r.complete h)

pub other-team : {t : ℕ} (r : ChunkRow) → (r.team ≡ t → ⊥) → complete_row t r ≡ false
unfolding complete_row
other-team {t} r ne = rw (ne_eqb r.team t ne)

not-complete : (t : ℕ) (r : ChunkRow) → r.complete ≡ false → complete_row t r ≡ false
not-complete t r h = go (decide (complete_row t r))
  where
    go : (complete_row t r ≡ true) ⊎ (complete_row t r ≡ false) → complete_row t r ≡ false
    go (inl e) = not-both (row-complete r e).1 h
    go (inr e) = e

-- of two members the one of the lower number has the greater number, and the barriers are read off it
pub lower-greater : (r q : ChunkRow) → r.member < q.member → q.member < 256 → lead_word q < lead_word r
unfolding lead_word
lower-greater r q h l = omega arith

pub lead-barriers : (r : ChunkRow) → r.barriers < 65536 → lead_word r % 65536 ≡ r.barriers
unfolding lead_word
lead-barriers r h = omega arith

pub lead-positive : (r : ChunkRow) → r.member < 256 → 1 ≤ lead_word r
unfolding lead_word
lead-positive r h = omega arith

-- of no chunks, and of one more
pub lead-none : (t : ℕ) → Lead [] t 0
lead-none t = record { greatest = λ r m. absurd (mathlib.Core.List.Memᴰ.not-nil m); reached = inl refl }

module _ {rs : List ChunkRow} {t w : ℕ} (r : ChunkRow) (l : Lead rs t w) where
  each :
      {v : ℕ}
      → w ≤ v
      → (complete_row t r ≡ true → lead_word r ≤ v)
      → (q : ChunkRow)
      → Memᴰ q (rs ++ (r ∷ []))
      → complete_row t q ≡ true
      → lead_word q ≤ v
  each {v} up new q m h =
      ⊎_elim
      (λ (k : Memᴰ q rs). let a = l.greatest q k h in omega arith)
      (λ (k : Memᴰ q (r ∷ [])). let e : q ≡ r = mathlib.Core.List.Memᴰ.eq_of_singleton k in rw e (new (rw e at h)))
      (mathlib.Core.List.Memᴰ.append_cases rs m)

  abbrev Reached : ℕ → Type 0
  Reached v = (v ≡ 0) ⊎ ((q : ChunkRow) × Memᴰ q (rs ++ (r ∷ [])) × (complete_row t q ≡ true) × (lead_word q ≡ v))

  again : Reached w
  again = go l.reached
    where
      go : (w ≡ 0) ⊎ ((q : ChunkRow) × Memᴰ q rs × (complete_row t q ≡ true) × (lead_word q ≡ w)) → Reached w
      go (inl e) = inl e
      go (inr d) = inr (d.0, mathlib.Core.List.Memᴰ.append_left (r ∷ []) d.1, d.2, d.3)

  pub lead-skip : complete_row t r ≡ false → Lead (rs ++ (r ∷ [])) t w
  lead-skip h = record { greatest = each (omega arith) (λ e. not-both e h); reached = again }

  pub lead-new : complete_row t r ≡ true → w < lead_word r → Lead (rs ++ (r ∷ [])) t (lead_word r)
  lead-new h g =
      record {
        greatest = each (omega arith) (λ e. omega arith);
        reached = inr (r, mathlib.Core.List.Memᴰ.append_right rs (mathlib.Core.List.Memᴰ.head refl), h, refl);
      }

  pub lead-kept : (r.complete && ltb w (lead_word r)) ≡ false → Lead (rs ++ (r ∷ [])) t w
  lead-kept h = go (decide r.complete)
    where
      go : (r.complete ≡ true) ⊎ (r.complete ≡ false) → Lead (rs ++ (r ∷ [])) t w
      go (inl e) =
          let low : ltb w (lead_word r) ≡ false = is_false (ltb w (lead_word r)) (λ z. not-both (both e z) h) in
          record { greatest = each (omega arith) (λ k. ltb-false w (lead_word r) low); reached = again }
      go (inr e) = lead-skip (not-complete t r e)
