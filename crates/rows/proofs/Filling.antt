-- The records put over a lent list one after the other, and those that agree with given ones.
use Prim.Native.Nat.{ℕ, zero, suc, ◌+◌, ◌≤◌, ◌<◌}
use mathlib.Core.Path.{◌≡◌, refl, sym, ◌∙◌, ap}
use mathlib.Core.Bool.{true}
use mathlib.Core.List.{List, [], ◌∷◌}
use native.Mathlib.Omega.{arith}
use native.Mathlib.Numerals.{add-one}
use lib.ListN.{length, get_or, take, set}
use lib.Seq.{take-suc-set, take_all}
use Rattle.bundle.specs.Index.{table_from, table}
use Rattle.bundle.proofs.Tables.{table_more}
use Rattle.bundle.proofs.Tests.{is_false}
use Rattle.rows.specs.Rows.{same_row, agreeing}
use Rattle.rows.specs.declared.row.Row.{Row}
use Rattle.rows.proofs.Comparing.{same_rows, row-itself}

-- a list written record by record
module _ (f : ℕ → Row) (rows : List Row) (i : ℕ) (so_far : take i rows ≡ table f i) where
  pub put-more : (row : Row) → i < length rows → row ≡ f i → take (i + 1) (set rows i row) ≡ table f (i + 1)
  put-more row h e = rw (add-one, take-suc-set rows i row h, table_more f i, so_far, e)

  pub put-all : (n : ℕ) → length rows ≡ n → i ≤ n → n ≤ i → rows ≡ table f n
  put-all n long l h =
      let e : i ≡ n = omega arith in
      sym (take_all i rows (omega arith)) ∙ so_far ∙ ap (table f) e

-- records that agree up to an index, and there or at the end no more
same-is : (a b : Row) → a ≡ b → same_row a b ≡ true
same-is a b e = rw e (row-itself b)

agree-all-from :
    (f : ℕ → Row) (start n : ℕ) (given : List Row) (d : Row)
    → n ≤ length given
    → ((i : ℕ) → i < n → f (start + i) ≡ get_or given i d)
    → agreeing (table_from f start n) given ≡ n
unfolding table_from agreeing
agree-all-from f start zero gs d h e = refl
agree-all-from f start (suc n) [] d h e = absurd (omega arith)
agree-all-from f start (suc n) (g ∷ gs) d h e =
    let here : f start ≡ g = ap f (omega arith) ∙ e 0 (omega arith) in
    rw (same-is (f start) g here)
    (ap suc (agree-all-from f (suc start) n gs d (omega arith) (λ i l. ap f (omega arith) ∙ e (suc i) (omega arith))))

agree-to-from :
    (f : ℕ → Row) (start n i : ℕ) (given : List Row) (d : Row)
    → i < n
    → n ≤ length given
    → ((k : ℕ) → k < i → f (start + k) ≡ get_or given k d)
    → (f (start + i) ≡ get_or given i d → ⊥)
    → agreeing (table_from f start n) given ≡ i
unfolding table_from agreeing
agree-to-from f start zero i gs d l h e o = absurd (omega arith)
agree-to-from f start (suc n) i [] d l h e o = absurd (omega arith)
agree-to-from f start (suc n) zero (g ∷ gs) d l h e o =
    rw (is_false (same_row (f start) g) (λ q. o (ap f (omega arith) ∙ same_rows (f start) g q)))
agree-to-from f start (suc n) (suc i) (g ∷ gs) d l h e o =
    let here : f start ≡ g = ap f (omega arith) ∙ e 0 (omega arith) in
    rw (same-is (f start) g here)
    (ap suc
    (agree-to-from f (suc start) n i gs d (omega arith) (omega arith) (λ k m. ap f (omega arith) ∙ e (suc k) (omega arith)) (λ q. o (ap f (omega arith) ∙ q))))

module _ (f : ℕ → Row) (n : ℕ) (given : List Row) (d : Row) (room : n ≤ length given) where
  pub agree-all : ((i : ℕ) → i < n → f i ≡ get_or given i d) → n ≡ agreeing (table f n) given
  unfolding table
  agree-all e = sym (agree-all-from f 0 n given d room (λ i l. ap f (omega arith) ∙ e i l))

  pub agree-to : (i : ℕ) → i < n → ((k : ℕ) → k < i → f k ≡ get_or given k d) → (f i ≡ get_or given i d → ⊥) → i ≡ agreeing (table f n) given
  unfolding table
  agree-to i l e o = sym (agree-to-from f 0 n i given d l room (λ k m. ap f (omega arith) ∙ e k m) (λ q. o (ap f (omega arith) ∙ q)))
