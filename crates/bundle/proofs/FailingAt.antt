-- The first element of a table that fails a test, by its index, decides.
use Prim.Native.Nat.{ℕ, zero, suc, ◌+◌, ◌≤◌, ◌<◌}
use mathlib.Core.Path.{◌≡◌, refl, sym, ◌∙◌, ap}
use mathlib.Core.Bool.{Bool, true, false, cond, ◌||◌}
use mathlib.Core.List.{List, [], ◌∷◌, ◌++◌}
use native.Mathlib.Omega.{arith}
use native.Mathlib.Nat.{add-zero, zero-add}
use native.Mathlib.Decide.{ℕ_discrete, dec_lt}
use lib.Dec.{ltb}
use borrow.Author.Tests.{lt-ltb, le-ltb}
use Rattle.std.specs.declared.option.Option.{Option}
use Rattle.std.specs.declared.option.Option.TheVariants.{Some, None}
use Rattle.bundle.specs.Answer.{Answer, refuses}
use Rattle.bundle.specs.Lists.{any}
use Rattle.bundle.specs.Check.{failing, refused_at}
use Rattle.bundle.specs.Index.{table_from, table, index_of}
use Rattle.bundle.specs.Shape.{passed, fails_at, FoundFirst, index_or, FirstFailing}
use Rattle.bundle.proofs.Tests.{or-one, or-other}
use Rattle.bundle.proofs.Tables.{table_none, table_more}

module _ {A : Type 0} (place : A → ℕ) (fails : List A → A → Bool) (f : ℕ → A) where
  from-none :
      (i k : ℕ)
      → ((j : ℕ) → i ≤ j → j < i + k → fails_at fails f j ≡ false)
      → failing place fails (passed f i) (table_from f i k) ≡ []
  unfolding failing table_from passed
  from-none i zero h = refl
  from-none i (suc k) h = rw (h i (omega arith) (omega arith)) (from-none (suc i) k (λ j l u. h j (omega arith) (omega arith)))

  from_one :
      (number i k j : ℕ) (next : Answer (Unit {0}))
      → ((l : ℕ) → i ≤ l → l < i + j → fails_at fails f l ≡ false)
      → j < k
      → fails_at fails f (i + j) ≡ true
      → refused_at number (failing place fails (passed f i) (table_from f i k)) next ≡ refuses number (place (f (i + j)))
  unfolding failing table_from passed refused_at
  from_one number i zero j next h l e = absurd (omega arith)
  from_one number i (suc k) zero next h l e =
      let q : i + 0 ≡ i = add-zero i in
      let here : fails_at fails f i ≡ true = rw q at e in
      rw (here, q)
  from_one number i (suc k) (suc j) next h l e =
      let q : suc i + j ≡ i + suc j = omega arith in
      rw (h i (omega arith) (omega arith))
      (from_one number (suc i) k j next (λ m a b. h m (omega arith) (omega arith)) (omega arith) (rw q e)
      ∙ ap (λ (m : ℕ). refuses number (place (f m))) q)

  module _ (number : ℕ) {n r : ℕ} (next : Answer (Unit {0})) (first : FirstFailing (fails_at fails f) n r) where
    pub all_pass : n ≤ r → refused_at number (failing place fails [] (table f n)) next ≡ next
    unfolding table refused_at passed
    all_pass h = rw (from-none 0 n (λ j l u. first.before j (omega arith)))

    pub one-fails : r < n → refused_at number (failing place fails [] (table f n)) next ≡ refuses number (place (f r))
    unfolding table passed
    one-fails h =
        let q : 0 + r ≡ r = zero-add r in
        from_one number 0 n r next (λ l a b. first.before l (omega arith)) h (rw q (first.here h))
        ∙ ap (λ (m : ℕ). refuses number (place (f m))) q

-- tests that agree
pub found-first :
    {answers : ℕ → Bool → Type 0} {t : ℕ → Bool} {n : ℕ} (found : Option ℕ)
    → FoundFirst answers n found
    → ((i : ℕ) (b : Bool) → answers i b → b ≡ t i)
    → FirstFailing t n (index_or n found)
unfolding FoundFirst
found-first {answers} {t} {n} found w e = go found w
  where
    go : (o : Option ℕ) → FoundFirst answers n o → FirstFailing t n (index_or n o)
    go None w = record { within = omega arith; before = λ i h. sym (e i false (w i h)); here = λ h. absurd (omega arith) }
    go (Some r) w = record { within = omega (arith, w.0); before = λ i h. sym (e i false (w.2 i h)); here = λ h. sym (e r true w.1) }

-- and of one that is found, or none
pub found-at :
    {answers : ℕ → Bool → Type 0} {t : ℕ → Bool} {n r : ℕ} {found : Option ℕ}
    → FoundFirst answers n found
    → found ≡ Some r
    → ((i : ℕ) (b : Bool) → answers i b → b ≡ t i)
    → (r < n) × FirstFailing t n r
unfolding FoundFirst
found-at {answers} {t} {n} {r} w q e = let x = rw q at w in (x.0, found-first (Some r) x e)

pub found-none :
    {answers : ℕ → Bool → Type 0} {t : ℕ → Bool} {n : ℕ} {found : Option ℕ}
    → FoundFirst answers n found
    → found ≡ None
    → ((i : ℕ) (b : Bool) → answers i b → b ≡ t i)
    → FirstFailing t n n
unfolding FoundFirst
found-none {answers} {t} {n} w q e = found-first None (rw q at w) e

pub same_first : {t u : ℕ → Bool} {n r : ℕ} → ((i : ℕ) → i < n → t i ≡ u i) → FirstFailing t n r → FirstFailing u n r
same_first same first =
    record {
      within = first.within;
      before = λ i h. sym (same i (omega (arith, first.within))) ∙ first.before i h;
      here = λ h. sym (same _ h) ∙ first.here h;
    }

-- one element more at the end
module _ {A : Type 0} (p : A → Bool) where
  pub any_last : (xs : List A) (x : A) → any p (xs ++ (x ∷ [])) ≡ (p x || any p xs)
  any_last [] x = refl
  any_last (y ∷ ys) x = rw (any_last ys x) (swap (p y) (p x) (any p ys))
    where
      swap : (a b c : Bool) → (a || (b || c)) ≡ (b || (a || c))
      swap true true c = refl
      swap true false c = refl
      swap false b c = refl

-- the first element that passes, by its index
module _ {A : Type 0} (p : A → Bool) (f : ℕ → A) where
  record From (i k r : ℕ) : Type 0 where
    pub within : r ≤ k
    pub before : (l : ℕ) → i ≤ l → l < i + r → p (f l) ≡ false
    pub here : r < k → p (f (i + r)) ≡ true

  from-index : (i k : ℕ) → From i k (index_of p (table_from f i k))
  unfolding table_from index_of
  from-index i zero = record { within = omega arith; before = λ l a b. absurd (omega arith); here = λ h. absurd (omega arith) }
  from-index i (suc k) = go (p (f i)) refl (from-index (suc i) k)
    where
      rest : ℕ
      rest = index_of p (table_from f (suc i) k)

      go : (b : Bool) → p (f i) ≡ b → From (suc i) k rest → From i (suc k) (cond b 0 (suc rest))
      go true e ih =
          record { within = omega arith; before = λ l a b. absurd (omega arith); here = λ h. rw (add-zero i) e }
      go false e ih =
          record {
            within = omega (arith, ih.within);
            before = λ l a b. earlier l a b (ℕ_discrete l i);
            here = λ h. let q : i + suc rest ≡ suc i + rest = omega arith in rw q (ih.here (omega arith));
          }
        where
          earlier : (l : ℕ) → i ≤ l → l < i + suc rest → Dec (l ≡ i) → p (f l) ≡ false
          earlier l a b (yes q) = rw q e
          earlier l a b (no g) = ih.before l (omega arith) (omega arith)

  pub index-first : (n : ℕ) → FirstFailing (λ i. p (f i)) n (index_of p (table f n))
  unfolding table
  index-first n =
      let r = from-index 0 n in
      record {
        within = r.within;
        before = λ l h. r.before l (omega arith) (omega arith);
        here = λ h. rw zero-add at (r.here h);
      }

  -- whether one passes among the elements before the i-th
  none_passed : (i : ℕ) → ((j : ℕ) → j < i → p (f j) ≡ false) → any p (passed f i) ≡ false
  unfolding passed
  none_passed zero h = refl
  none_passed (suc i) h = rw (h i (omega arith)) (none_passed i (λ j l. h j (omega arith)))

  one-passed : (i j : ℕ) → j < i → p (f j) ≡ true → any p (passed f i) ≡ true
  unfolding passed
  one-passed zero j h e = absurd (omega arith)
  one-passed (suc i) j h e = go (λ l. one-passed i j l e) (ℕ_discrete j i)
    where
      go : (j < i → any p (passed f i) ≡ true) → Dec (j ≡ i) → (p (f i) || any p (passed f i)) ≡ true
      go ih (yes q) = or-one (any p (passed f i)) (rw q at e)
      go ih (no g) = or-other (p (f i)) (ih (omega arith))

  pub passed-index : (n i : ℕ) → i ≤ n → ltb (index_of p (table f n)) i ≡ any p (passed f i)
  passed-index n i h = go (dec_lt r i)
    where
      r : ℕ
      r = index_of p (table f n)

      first : FirstFailing (λ i. p (f i)) n r
      first = index-first n

      go : Dec (r < i) → ltb r i ≡ any p (passed f i)
      go (yes l) = lt-ltb r i l ∙ sym (one-passed i r l (first.here (omega arith)))
      go (no l) = le-ltb r i (omega arith) ∙ sym (none_passed i (λ j k. first.before j (omega arith)))

  pub passed-table : (i : ℕ) → any p (passed f i) ≡ any p (table f i)
  unfolding passed
  passed-table zero = rw (table_none f)
  passed-table (suc i) = rw (table_more f i, any_last p (table f i) (f i), passed-table i)
