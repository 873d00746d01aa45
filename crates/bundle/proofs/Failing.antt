-- When no element fails a test: for a test of the element alone, and for a test against the elements before.
use Prim.Native.Nat.{ℕ}
use mathlib.Core.Path.{◌≡◌, refl, sym, ◌∙◌, ap}
use mathlib.Core.Logic.{⊎_elim}
use mathlib.Core.Bool.{Bool, true, false, cond, ◌||◌}
use mathlib.Core.List.Memᴰ
use mathlib.Core.List.{List, [], ◌∷◌, map, Memᴰ, nil≢cons}
use native.Mathlib.Omega.{arith}
use Rattle.bundle.specs.Answer.{Answer, gives}
use Rattle.bundle.specs.Lists.{any}
use Rattle.bundle.specs.Check.{failing, refused_at}
use Rattle.bundle.proofs.Tests.{not-both, is_false, or-false}
use Rattle.bundle.proofs.ListLaws.{any-elim, any-intro, Distinct, distinct_nil, distinct_cons, distinct_head, distinct_tail}

-- no element fails
pub data NoneFails {A : Type 0} (fails : List A → A → Bool) : List A → List A → Type 0 where
  at_end : {before : List A} → NoneFails fails before []
  one_more : {before : List A} {x : A} {xs : List A} → fails before x ≡ false → NoneFails fails (x ∷ before) xs → NoneFails fails before (x ∷ xs)

module _ {A : Type 0} (place : A → ℕ) (fails : List A → A → Bool) where
  pub failing-none : (before xs : List A) → failing place fails before xs ≡ [] → NoneFails fails before xs
  unfolding failing
  failing-none before [] e = at_end
  failing-none before (x ∷ xs) e = go (failing-none (x ∷ before) xs) (fails before x) refl e
    where
      rest : List ℕ
      rest = failing place fails (x ∷ before) xs

      go : (rest ≡ [] → NoneFails fails (x ∷ before) xs) → (t : Bool) → fails before x ≡ t → cond t (place x ∷ rest) rest ≡ [] → NoneFails fails before (x ∷ xs)
      go ih true h q = absurd (nil≢cons (sym q))
      go ih false h q = one_more h (ih q)

  pub none-failing : {before xs : List A} → NoneFails fails before xs → failing place fails before xs ≡ []
  unfolding failing
  none-failing at_end = refl
  none-failing (one_more h n) = rw h (none-failing n)

-- a test of the element alone
module _ {A : Type 0} (t : A → Bool) where
  pub each-passes : {before xs : List A} → NoneFails (λ b x. t x) before xs → (x : A) → Memᴰ x xs → t x ≡ false
  each-passes at_end x m = absurd (Memᴰ.not-nil m)
  each-passes (one_more h n) x m = ⊎_elim (λ q. ap t q ∙ h) (each-passes n x) (Memᴰ.cases_cons m)

  pub passes-each : (before xs : List A) → ((x : A) → Memᴰ x xs → t x ≡ false) → NoneFails (λ b x. t x) before xs
  passes-each before [] h = at_end
  passes-each before (x ∷ xs) h = one_more (h x (Memᴰ.head refl)) (passes-each (x ∷ before) xs (λ y m. h y (Memᴰ.tail m)))

-- a test of the element, and whether one with the same key stands before
pub record Once {A K : Type 0} (key : A → K) (low : A → Bool) (before xs : List A) : Type 0 where
  pub all_low : (x : A) → Memᴰ x xs → low x ≡ false
  pub distinct : Distinct (map key xs)
  pub apart : (x y : A) → Memᴰ x xs → Memᴰ y before → key x ≡ key y → ⊥

module _ {A K : Type 0} (key : A → K) (low : A → Bool) (same : A → A → Bool)
    (same_key : (x y : A) → same x y ≡ true → key x ≡ key y)
    (key-same : (x y : A) → key x ≡ key y → same x y ≡ true) where
  pub once-elim : {before xs : List A} → NoneFails (λ b x. low x || any (same x) b) before xs → Once key low before xs
  once-elim at_end =
      record {
        all_low = λ x m. absurd (Memᴰ.not-nil m);
        distinct = distinct_nil;
        apart = λ x y m l q. Memᴰ.not-nil m;
      }
  once-elim (one_more {before = before} {x = x} {xs = xs} h n) =
      let f = or-false (low x) (any (same x) before) h in
      let r = once-elim n in
      record {
        all_low = λ y m. ⊎_elim (λ q. ap low q ∙ f.0) (r.all_low y) (Memᴰ.cases_cons m);
        distinct =
            distinct_cons
            (λ m. let w = Memᴰ.of_map key xs m in r.apart w.0 x w.1 (Memᴰ.head refl) w.2)
            r.distinct;
        apart =
            λ y z m l q.
            ⊎_elim
            (λ e. not-both (any-intro (same x) l (key-same x z (ap key (sym e) ∙ q))) f.1)
            (λ k. r.apart y z k (Memᴰ.tail l) q)
            (Memᴰ.cases_cons m);
      }

  pub once-intro : (before xs : List A) → Once key low before xs → NoneFails (λ b x. low x || any (same x) b) before xs
  once-intro before [] o = at_end
  once-intro before (x ∷ xs) o =
      one_more
      here
      (once-intro (x ∷ before) xs
      (record {
        all_low = λ y m. o.all_low y (Memᴰ.tail m);
        distinct = distinct_tail o.distinct;
        apart = λ y z m l q. ⊎_elim (λ e. new y m (q ∙ ap key e)) (λ k. o.apart y z (Memᴰ.tail m) k q) (Memᴰ.cases_cons l);
      }))
    where
      fresh : any (same x) before ≡ false
      fresh =
          is_false (any (same x) before)
          (λ e. let p = any-elim (same x) before e in o.apart x p.element (Memᴰ.head refl) p.present (same_key x p.element p.passes))

      here : (low x || any (same x) before) ≡ false
      here = rw (o.all_low x (Memᴰ.head refl)) fresh

      new : (y : A) → Memᴰ y xs → key y ≡ key x → ⊥
      new y m q = distinct_head o.distinct (rw (← q) (Memᴰ.map key m))

-- refusals of a number that has no place
pub refused_none : (n : ℕ) (ps : List ℕ) (next : Answer (Unit {0})) → refused_at n ps next ≡ gives tt → (ps ≡ []) × (next ≡ gives tt)
unfolding refused_at
refused_none n [] next e = (refl, e)
refused_none n (p ∷ ps) next e = let z : ◌≡◌ {A = ℕ} 0 1 = cc in absurd (omega arith)

pub none-refused : (n : ℕ) {ps : List ℕ} {next : Answer (Unit {0})} → ps ≡ [] → next ≡ gives tt → refused_at n ps next ≡ gives tt
unfolding refused_at
none-refused n e q = rw (e, q)
