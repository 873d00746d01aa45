-- What the export and the checker answer, by the records that are laid out in words.
use Prim.Native.Nat.{ℕ, zero, suc, ◌≤◌, ◌<◌, min}
use mathlib.Core.Path.{◌≡◌, refl, sym, ◌∙◌, ap}
use mathlib.Core.Logic.{◌⊎◌, inl, inr}
use mathlib.Core.Bool.{cond, ◌&&◌}
use native.Mathlib.Omega.{arith}
use native.Mathlib.Decide.{dec_lt}
use mathlib.Core.List.{List, [], ◌∷◌, ◌++◌}
use lib.ListN.{length, get_or, take, drop}
use lib.Seq.{length-take-le}
use lib.Dec.{eqb}
use Rattle.std.proofs.Math.Nat.{min-le_right, min-eq_left, min-eq_right}
use borrow.Author.Tests.{lt-ltb, le-ltb, eqb-true, eq-eqb}
use Rattle.bundle.specs.Answer.{gives, refuses}
use Rattle.bundle.specs.Check.{check_of}
use Rattle.bundle.specs.Index.{table_from, table}
use Rattle.bundle.proofs.Tables.{table-length}
use Rattle.bundle.proofs.Tests.{both, and_left, and_right, is_false}
use Rattle.rows.specs.Rows.{rows_of, filling_with, export_as, export_of, same_row, agreeing, compared_with, check_rows_of}
use Rattle.rows.specs.Slots.{row_in}
use Rattle.rows.specs.Planning.{RowsHeld}
use Rattle.rows.specs.declared.row.Row.{Row}

pub export-refused : (s : List ℕ) (lent : List Row) {n p : ℕ} → check_of s ≡ refuses n p → record { answer = refuses n p; rows = lent } ≡ export_of s lent
unfolding export_of export_as
export-refused s lent e = rw e

module _ {s : List ℕ} {n : ℕ} {words : List ℕ} (x : RowsHeld s n words) where
  pub rows-long : length (rows_of s) ≡ n
  rows-long = ap (λ (l : List Row). length l) (sym x.rows) ∙ table-length (row_in words) n

  pub export-short : (lent : List Row) → length lent < n → record { answer = refuses 22 0; rows = lent } ≡ export_of s lent
  unfolding export_of export_as filling_with
  export-short lent h = rw (x.accepted, rows-long, lt-ltb (length lent) n h)

  pub export-put :
      (lent : List Row) {rows : List Row}
      → n ≤ length lent
      → rows ≡ table (row_in words) (length (take n lent))
      → record { answer = gives n; rows = rows ++ drop n lent } ≡ export_of s lent
  unfolding export_of export_as filling_with
  export-put lent h e = rw (x.accepted, rows-long, le-ltb (length lent) n h, e, length-take-le n lent h, x.rows)

-- past the end of either list there is nothing to compare
agreeing-front : (k : ℕ) (rs gs : List Row) → length gs ≤ k → agreeing (take k rs) gs ≡ agreeing rs gs
unfolding agreeing
agreeing-front zero [] gs h = refl
agreeing-front zero (r ∷ rs) [] h = refl
agreeing-front zero (r ∷ rs) (g ∷ gs) h = absurd (omega arith)
agreeing-front (suc k) [] gs h = refl
agreeing-front (suc k) (r ∷ rs) [] h = refl
agreeing-front (suc k) (r ∷ rs) (g ∷ gs) h = ap (λ (n : ℕ). cond (same_row r g) (suc n) 0) (agreeing-front k rs gs (omega arith))

from_front : (f : ℕ → Row) (i k n : ℕ) → k ≤ n → table_from f i k ≡ take k (table_from f i n)
unfolding table_from
from_front f i zero n h = refl
from_front f i (suc k) zero h = absurd (omega arith)
from_front f i (suc k) (suc n) h = ap (λ (l : List Row). f i ∷ l) (from_front f (suc i) k n (omega arith))

table-front : (f : ℕ → Row) (k n : ℕ) → k ≤ n → table f k ≡ take k (table f n)
unfolding table
table-front f k n h = from_front f 0 k n h

agreeing-both : (f : ℕ → Row) (n : ℕ) (given : List Row) → agreeing (table f (min n (length given))) given ≡ agreeing (table f n) given
agreeing-both f n given = go (dec_lt (length given) n)
  where
    go : Dec (length given < n) → agreeing (table f (min n (length given))) given ≡ agreeing (table f n) given
    go (yes h) =
        let m : min n (length given) ≡ length given = min-eq_right (omega (arith, h)) in
        let same : length given ≤ length given = omega arith in
        rw (m, table-front f (length given) n (omega (arith, h))) (agreeing-front (length given) (table f n) given same)
    go (no h) = let m : min n (length given) ≡ n = min-eq_left (omega (arith, h)) in rw m

-- what counting gave, for lists that the given records are
pub same-of :
    (f : ℕ → Row) {At : ℕ → Row → Type 0} (n : ℕ) {given m same : ℕ} (rows : List Row)
    → m ≡ min n given
    → given ≡ length rows
    → ((i : ℕ) → i < given → (row d : Row) → At i row → row ≡ get_or rows i d)
    → ((rs : List Row) → m ≤ length rs → ((i : ℕ) → i < m → (row d : Row) → At i row → row ≡ get_or rs i d) → same ≡ agreeing (table f m) rs)
    → same ≡ agreeing (table f (min n (length rows))) rows
same-of f n {given} {m} {same} rows e long each counted =
    let fits : m ≤ given = rw e (min-le_right n given) in
    counted rows (omega (arith, fits, long)) (λ i h row d a. each i (omega (arith, h, fits)) row d a)
    ∙ ap (λ (k : ℕ). agreeing (table f k) rows) (e ∙ ap (min n) long)

-- what the checker tells
module _ {s : List ℕ} {n : ℕ} {words : List ℕ} (x : RowsHeld s n words) (given : List Row) {same : ℕ}
    (e : same ≡ agreeing (table (row_in words) (min n (length given))) given) where
  whole : same ≡ agreeing (rows_of s) given
  whole = e ∙ agreeing-both (row_in words) n given ∙ ap (λ (rs : List Row). agreeing rs given) x.rows

  pub told-same : same ≡ n → same ≡ length given → gives tt ≡ check_rows_of s given
  unfolding check_rows_of compared_with
  told-same h l = rw (x.accepted, ← whole, rows-long x, both (eq-eqb same n h) (eq-eqb same (length given) l))

  pub told-other : (same ≡ n → same ≡ length given → ⊥) → refuses 23 same ≡ check_rows_of s given
  unfolding check_rows_of compared_with
  told-other h =
      let of_all = eqb same n in
      let of_given = eqb same (length given) in
      rw (
        x.accepted,
        ← whole,
        rows-long x,
        is_false (of_all && of_given) (λ t. h (eqb-true same n (and_left of_all of_given t)) (eqb-true same (length given) (and_right of_all of_given t))),
      )

pub not-all : {P Q : Type 0} → (P × (Q → ⊥)) ⊎ (P → ⊥) → P → Q → ⊥
not-all (inl h) p q = h.1 q
not-all (inr h) p q = h p

pub told-refused : (s : List ℕ) (given : List Row) {n p : ℕ} → check_of s ≡ refuses n p → refuses n p ≡ check_rows_of s given
unfolding check_rows_of
told-refused s given e = rw e
