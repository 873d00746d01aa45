-- The row of an access in eight words: what is stored is read back, and the rows before it stay.
use Prim.Native.Nat.{ℕ, zero, suc, ◌+◌, ◌*◌, ◌/◌, ◌%◌, ◌≤◌, ◌<◌}
use mathlib.Core.Path.{◌≡◌, refl, ◌∙◌, ap}
use mathlib.Core.List.{List, [], ◌∷◌}
use native.Mathlib.Nat.{mod-lt}
use native.Mathlib.Omega.{arith}
use lib.ListN.{length, get_or, set, length-set}
use lib.Seq.{get_or-set_same, get_or-set_other}
use Rattle.bundle.specs.Index.{Added}
use Rattle.verdict.specs.Working.{access_row_at, RowIn, Slim}
use Rattle.verdict.specs.declared.rows.AccessRow.{AccessRow}

-- words stored in one column after another, at the same distance from the column's front
abbrev pub stored : List ℕ → ℕ → ℕ → List ℕ → List ℕ
stored words at k [] = words
stored words at k (v ∷ vs) = stored (set words (at + 1024 * k) v) at (suc k) vs

stored-length : (words : List ℕ) (at k : ℕ) (vs : List ℕ) → length (stored words at k vs) ≡ length words
stored-length words at k [] = refl
stored-length words at k (v ∷ vs) = stored-length (set words (at + 1024 * k) v) at (suc k) vs ∙ length-set words (at + 1024 * k) v

stored_other :
    (words : List ℕ) (at k : ℕ) (vs : List ℕ) (j : ℕ)
    → ((l : ℕ) → k ≤ l → j ≡ at + 1024 * l → ⊥)
    → get_or (stored words at k vs) j 0 ≡ get_or words j 0
stored_other words at k [] j ne = refl
stored_other words at k (v ∷ vs) j ne =
    stored_other (set words (at + 1024 * k) v) at (suc k) vs j (λ l h. ne l (omega arith))
    ∙ get_or-set_other words (at + 1024 * k) j v 0 (λ q. ne k (omega arith) (omega arith))

stored_at :
    (words : List ℕ) (at k : ℕ) (vs : List ℕ) (j : ℕ)
    → at < 1024
    → 1024 * (k + length vs) ≤ length words
    → j < length vs
    → get_or (stored words at k vs) (at + 1024 * (k + j)) 0 ≡ get_or vs j 0
stored_at words at k [] j a l h = absurd (omega arith)
stored_at words at k (v ∷ vs) zero a l h =
    let here : at + 1024 * (k + 0) ≡ at + 1024 * k = omega arith in
    ap (λ (i : ℕ). get_or (stored words at k (v ∷ vs)) i 0) here
    ∙ stored_other (set words (at + 1024 * k) v) at (suc k) vs (at + 1024 * k) (λ l h e. omega arith)
    ∙ get_or-set_same words (at + 1024 * k) v 0 (omega arith)
stored_at words at k (v ∷ vs) (suc j) a l h =
    let here : at + 1024 * (k + suc j) ≡ at + 1024 * (suc k + j) = omega arith in
    let long = length-set words (at + 1024 * k) v in
    ap (λ (i : ℕ). get_or (stored words at k (v ∷ vs)) i 0) here
    ∙ stored_at (set words (at + 1024 * k) v) at (suc k) vs j a (omega arith) (omega arith)

-- the numbers of a word
low : (a b n : ℕ) → a < 65536 → n ≡ a + 65536 * b → n % 65536 ≡ a
low a b n h e = omega arith

high : (a b n : ℕ) → a < 65536 → n ≡ a + 65536 * b → n / 65536 ≡ b
high a b n h e = omega arith

-- a kind and a size of four bits each and a member of eight, below the high half of a site
module _ (k z m s small n : ℕ) (hk : k < 16) (hz : z < 16) (hm : m < 256) (e : small ≡ k + 16 * z + 256 * m) (q : n ≡ small + 65536 * s) where
  kind-of : n % 16 ≡ k
  kind-of = omega arith

  size_of : n / 16 % 16 ≡ z
  size_of = omega arith

  member_of : n / 256 % 256 ≡ m
  member_of = omega arith

  upper_of : n / 65536 ≡ s
  upper_of = omega arith

halves : (n : ℕ) → n % 65536 + 65536 * (n / 65536) ≡ n
halves n = omega arith

whole : (n : ℕ) → n % 4294967296 + 4294967296 * (n / 4294967296) ≡ n
whole n = omega arith

-- a row that is read has a kind and a size of four bits
pub row-slim : (words : List ℕ) (i : ℕ) → Slim (access_row_at words i)
unfolding access_row_at
row-slim words i = record { kind = omega arith; size = omega arith }

-- the other numbers of a row fit its words
pub record RowFits (r : AccessRow) : Type 0 where
  pub stride : r.stride < 65536
  pub team : r.team < 65536
  pub member : r.member < 256

module _ (words : List ℕ) (i : ℕ) (row : AccessRow) (small upper range name place : ℕ) where
  abbrev behind : List ℕ
  behind =
      row.last
      ∷ (row.locks % 4294967296)
      ∷ (row.locks / 4294967296)
      ∷ upper
      ∷ range
      ∷ name
      ∷ place
      ∷ []

  abbrev pub row_stored : List ℕ
  row_stored = stored (set words i row.base) i 1 behind

  pub row-length : length row_stored ≡ length words
  row-length = stored-length (set words i row.base) i 1 behind ∙ length-set words i row.base

  row_other : (j : ℕ) → ((l : ℕ) → j ≡ i + 1024 * l → ⊥) → get_or row_stored j 0 ≡ get_or words j 0
  row_other j ne =
      stored_other (set words i row.base) i 1 behind j (λ l h. ne l)
      ∙ get_or-set_other words i j row.base 0 (λ q. ne 0 (omega arith))

  row_first : RowIn words i → get_or row_stored i 0 ≡ row.base
  row_first h =
      stored_other (set words i row.base) i 1 behind i (λ l k e. omega arith)
      ∙ get_or-set_same words i row.base 0 (omega (arith, h.below, h.whole))

  row_word : RowIn words i → (j : ℕ) → j < 7 → get_or row_stored (i + 1024 * (1 + j)) 0 ≡ get_or behind j 0
  row_word h j l =
      let long = length-set words i row.base in
      stored_at (set words i row.base) i 1 behind j h.below (omega (arith, h.whole)) l

  -- the words of the rows before it
  row_kept : RowIn words i → (j : ℕ) → j < i → (k : ℕ) → get_or row_stored (j + 1024 * k) 0 ≡ get_or words (j + 1024 * k) 0
  row_kept h j l k = row_other (j + 1024 * k) (λ m e. omega (arith, h.below))

  row-kept-first : RowIn words i → (j : ℕ) → j < i → get_or row_stored j 0 ≡ get_or words j 0
  row-kept-first h j l = row_other j (λ m e. omega (arith, h.below))

  pub row-added :
      RowIn words i × Slim row
      → RowFits row
      → small ≡ row.kind + 16 * row.size + 256 * row.member
      → upper ≡ small + 65536 * (row.site / 65536)
      → range ≡ row.stride + 65536 * row.count
      → name ≡ row.team + 65536 * row.number
      → place ≡ row.site % 65536 + 65536 * row.segment
      → Added access_row_at words row_stored i row
  row-added (h, l) f s u r n p =
      record {
        long = row-length;
        new =
            unfold access_row_at in
            (rw (
              row_first h,
              row_word h 0 (omega arith),
              row_word h 1 (omega arith),
              row_word h 2 (omega arith),
              row_word h 3 (omega arith),
              row_word h 4 (omega arith),
              row_word h 5 (omega arith),
              row_word h 6 (omega arith),
              low row.stride row.count range f.stride r,
              high row.stride row.count range f.stride r,
              low row.team row.number name f.team n,
              high row.team row.number name f.team n,
              kind-of row.kind row.size row.member (row.site / 65536) small upper l.kind l.size f.member s u,
              size_of row.kind row.size row.member (row.site / 65536) small upper l.kind l.size f.member s u,
              member_of row.kind row.size row.member (row.site / 65536) small upper l.kind l.size f.member s u,
              upper_of row.kind row.size row.member (row.site / 65536) small upper l.kind l.size f.member s u,
              low (row.site % 65536) row.segment place (mod-lt row.site (omega arith)) p,
              high (row.site % 65536) row.segment place (mod-lt row.site (omega arith)) p,
              halves row.site,
              whole row.locks,
            ));
        before =
            λ j l.
            unfold access_row_at in
            (rw (
              row-kept-first h j l,
              row_kept h j l 1,
              row_kept h j l 2,
              row_kept h j l 3,
              row_kept h j l 4,
              row_kept h j l 5,
              row_kept h j l 6,
              row_kept h j l 7,
            ));
      }
