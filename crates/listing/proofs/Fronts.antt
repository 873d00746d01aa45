-- Words written over the front of lent memory, one after another.
use Prim.Native.Nat.{ℕ, suc, ◌+◌, ◌*◌, ◌≤◌, ◌<◌}
use mathlib.Core.Path.{◌≡◌, sym, ◌∙◌, ap, ap₂}
use mathlib.Core.List.{List, [], ◌∷◌, ◌++◌}
use native.Mathlib.Omega.{arith}
use native.Mathlib.Numerals.{add-one}
use lib.ListN.{length, set, drop, length-append, length-drop}
use lib.Seq.{set_at, drop-cons, append_snoc}
use Rattle.bundle.specs.Index.{table}
use Rattle.bundle.proofs.Tables.{table_more, table-length, table_none}

-- one more word behind the front
pub front-more :
    (xs words : List ℕ) (n v : ℕ)
    → length xs ≡ n
    → n < length words
    → set (xs ++ drop n words) n v ≡ xs ++ (v ∷ []) ++ drop (suc n) words
front-more xs words n v e h =
    ap (λ (l : List ℕ). set (xs ++ l) n v) (drop-cons words n 0 h)
    ∙ set_at xs _ (drop (suc n) words) v n e
    ∙ sym (append_snoc xs v (drop (suc n) words))

-- a table written over the front
module _ (f : ℕ → ℕ) where
  pub table-none-yet : (words : List ℕ) → words ≡ table f 0 ++ drop 0 words
  table-none-yet words = sym (ap (λ (l : List ℕ). l ++ words) (table_none f))

  pub table-more-yet :
      (words now : List ℕ) (i v : ℕ)
      → i < length words
      → now ≡ table f i ++ drop i words
      → v ≡ f i
      → set now i v ≡ table f (i + 1) ++ drop (i + 1) words
  table-more-yet words now i v h e q =
      rw (add-one i)
      (ap₂ (λ (l : List ℕ) (x : ℕ). set l i x) e q
      ∙ front-more (table f i) words i (f i) (table-length f i) h
      ∙ ap (λ (l : List ℕ). l ++ drop (suc i) words) (sym (table_more f i)))

  -- two words more
  pub table-two-more :
      (words now : List ℕ) (i v w : ℕ)
      → 2 * i + 1 < length words
      → now ≡ table f (2 * i) ++ drop (2 * i) words
      → v ≡ f (2 * i)
      → w ≡ f (2 * i + 1)
      → set (set now (2 * i) v) (2 * i + 1) w ≡ table f (2 * (i + 1)) ++ drop (2 * (i + 1)) words
  table-two-more words now i v w h e p q =
      let twice : 2 * i + 1 + 1 ≡ 2 * (i + 1) = omega arith in
      table-more-yet words (set now (2 * i) v) (2 * i + 1) w h (table-more-yet words now (2 * i) v (omega arith) e p) q
      ∙ ap (λ (k : ℕ). table f k ++ drop k words) twice

  pub table-over-length : (words : List ℕ) (n : ℕ) → n ≤ length words → length (table f n ++ drop n words) ≡ length words
  table-over-length words n h = omega (arith, length-append (table f n) (drop n words), table-length f n, length-drop n words)
