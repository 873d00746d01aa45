-- The accesses in the order of their names.
use Prim.Native.Nat.{ℕ, zero, suc, ◌+◌, ◌/◌, ◌%◌, ◌≤◌, ◌<◌}
use mathlib.Core.Path.{◌≡◌, refl, ◌∙◌, ap, ap₂, subst}
use mathlib.Core.Bool.{Bool, true, false, cond}
use mathlib.Core.List.{List, [], ◌∷◌, ◌++◌}
use native.Mathlib.Omega.{arith}
use native.Mathlib.Decide.{dec_lt}
use lib.ListN.{length, get_or, take, drop, length-append, length-drop}
use lib.Seq.{length-take-le, take_at, drop_at}
use borrow.Author.Tests.{le-leb}
use Rattle.sorting.specs.Order.{sorted, sorting}
use Rattle.sorting.proofs.Insertion.{sorted-length}
use Rattle.bundle.specs.Index.{Added, table}
use Rattle.bundle.proofs.Tables.{table-length}
use Rattle.verdict.specs.Working.{access_row_at}
use Rattle.verdict.specs.declared.rows.AccessRow.{AccessRow}
use Rattle.listing.specs.Ranking.{name_word, order_of, Copied}
use Rattle.listing.proofs.Fronts.{table-over-length}

pub get_d-left : (xs ys : List ℕ) (i : ℕ) → i < length xs → get_or (xs ++ ys) i 0 ≡ get_or xs i 0
get_d-left [] ys i h = absurd (omega arith)
get_d-left (x ∷ xs) ys zero h = refl
get_d-left (x ∷ xs) ys (suc i) h = get_d-left xs ys i (omega arith)

-- rows copied one after another
module _ (rows words before : List ℕ) where
  pub copied_none : Copied rows words 0 before before
  copied_none = record { long = refl; each = λ i h. absurd (omega arith) }

  pub copied_more :
      {i : ℕ} {ordered after : List ℕ} {row : AccessRow}
      → Copied rows words i before ordered
      → Added access_row_at ordered after i row
      → row ≡ access_row_at rows (get_or words i 0 % 1024)
      → Copied rows words (i + 1) before after
  copied_more {i} {ordered} {after} c a e = record { long = a.long ∙ c.long; each = λ j h. go j h (dec_lt j i) }
    where
      go : (j : ℕ) → j < i + 1 → Dec (j < i) → access_row_at after j ≡ access_row_at rows (get_or words j 0 % 1024)
      go j h (yes l) = a.before j l ∙ c.each j l
      go j h (no l) = let q : i ≡ j = omega arith in subst (λ (k : ℕ). access_row_at after k ≡ access_row_at rows (get_or words k 0 % 1024)) q (a.new ∙ e)

  pub copied_all : {i n : ℕ} {after : List ℕ} → Copied rows words i before after → n ≤ i → Copied rows words n before after
  copied_all c h = record { long = c.long; each = λ j l. c.each j (omega arith) }

-- what sorting with enough room gives
pub sorting-part : (xs : List ℕ) (room : ℕ) {done : Bool} {part : List ℕ} → (done, part) ≡ sorting xs room → length xs / 2 ≤ room → part ≡ sorted xs
unfolding sorting
sorting-part xs room {done} {part} e h =
    let is : ◌≡◌ {A = Bool × List ℕ} (done, part) (true, sorted xs) = e ∙ ap (λ (t : Bool). cond {A = Bool × List ℕ} t (true, sorted xs) (false, xs)) (le-leb (length xs / 2) room h) in
    ap (λ (x : Bool × List ℕ). x.1) is

-- the words sorted over the front
pub order-length : (rows : List ℕ) (n : ℕ) → length (order_of rows n) ≡ n
unfolding order_of
order-length rows n = sorted-length (table (name_word rows) n) ∙ table-length (name_word rows) n

module _ (rows words : List ℕ) (n : ℕ) {filled : List ℕ} (e : filled ≡ table (name_word rows) n ++ drop n words) where
  pub words-in : n ≤ length words → n ≤ length filled
  words-in h = omega (arith, ap length e, table-over-length (name_word rows) words n h)

  words-front : take n filled ≡ table (name_word rows) n
  words-front = ap (take n) e ∙ take_at (table (name_word rows) n) (drop n words) n (table-length (name_word rows) n)

  words-behind : drop n filled ≡ drop n words
  words-behind = ap (drop n) e ∙ drop_at (table (name_word rows) n) (drop n words) n (table-length (name_word rows) n)

  pub words-ordered :
      n ≤ length words
      → n ≤ 1024
      → {done : Bool} {part : List ℕ}
      → (done, part) ≡ sorting (take n filled) 512
      → part ++ drop n filled ≡ order_of rows n ++ drop n words
  unfolding order_of
  words-ordered h few {done} {part} s =
      let long : length (take n filled) ≡ n = length-take-le n filled (words-in h) in
      ap₂ (λ (a b : List ℕ). a ++ b) (sorting-part (take n filled) 512 s (omega arith) ∙ ap sorted words-front) words-behind

module _ (rows words : List ℕ) (n : ℕ) {after : List ℕ} (e : after ≡ order_of rows n ++ drop n words) where
  pub words_long : n ≤ length words → length after ≡ length words
  words_long h = ap length e ∙ omega (arith, length-append (order_of rows n) (drop n words), order-length rows n, length-drop n words)

  pub copied-front : {before ordered : List ℕ} → Copied rows after n before ordered → Copied rows (order_of rows n) n before ordered
  copied-front {before} {ordered} c =
      record {
        long = c.long;
        each = λ i h. c.each i h ∙ ap (λ (w : ℕ). access_row_at rows (w % 1024)) (ap (λ (l : List ℕ). get_or l i 0) e ∙ get_d_front i h);
      }
    where
      get_d_front : (i : ℕ) → i < n → get_or (order_of rows n ++ drop n words) i 0 ≡ get_or (order_of rows n) i 0
      get_d_front i h = get_d-left (order_of rows n) (drop n words) i (omega (arith, order-length rows n))
