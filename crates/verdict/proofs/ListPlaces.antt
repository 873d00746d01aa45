-- Elements of a list by their places.
use Prim.Native.Nat.{ℕ, zero, suc, ◌<◌}
use mathlib.Core.Path.{◌≡◌, refl, sym, ◌∙◌, ap, subst}
use mathlib.Core.Logic.{◌⊎◌, inl, inr, ⊎_elim}
use mathlib.Core.List.Memᴰ
use mathlib.Core.List.{List, [], ◌∷◌, ◌++◌, map, Memᴰ}
use mathlib.Core.Option.{some}
use native.Mathlib.Omega.{arith}
use lib.ListN.{length, get_or, get_elem?}
use Rattle.bundle.proofs.ListLaws.{Distinct, distinct_head, distinct_tail}

module _ {A : Type 0} where
  -- an element and its place
  pub at_mem : (xs : List A) (i : ℕ) {x : A} → get_elem? xs i ≡ some x → Memᴰ x xs
  at_mem [] i e = absurd (let z : ◌≡◌ {A = ℕ} 0 1 = cc in omega arith)
  at_mem (y ∷ ys) zero {x} e = let q : x ≡ y = cc in Memᴰ.head q
  at_mem (y ∷ ys) (suc i) e = Memᴰ.tail (at_mem ys i e)

  pub mem-at : {x : A} {xs : List A} → Memᴰ x xs → (i : ℕ) × (get_elem? xs i ≡ some x)
  mem-at (Memᴰ.head q) = (zero, ap some (sym q))
  mem-at (Memᴰ.tail m) = let r = mem-at m in (suc r.0, r.1)

  pub at_below : (xs : List A) (i : ℕ) {x : A} → get_elem? xs i ≡ some x → i < length xs
  at_below [] i e = absurd (let z : ◌≡◌ {A = ℕ} 0 1 = cc in omega arith)
  at_below (y ∷ ys) zero e = omega arith
  at_below (y ∷ ys) (suc i) e = let h = at_below ys i e in omega arith

  pub below_at : (xs : List A) (i : ℕ) → i < length xs → (x : A) × (get_elem? xs i ≡ some x)
  below_at [] i h = absurd (omega arith)
  below_at (y ∷ ys) zero h = (y, refl)
  below_at (y ∷ ys) (suc i) h = below_at ys i (omega arith)

  pub at-get_d : (xs : List A) (i : ℕ) (d : A) → i < length xs → get_elem? xs i ≡ some (get_or xs i d)
  at-get_d [] i d h = absurd (omega arith)
  at-get_d (y ∷ ys) zero d h = refl
  at-get_d (y ∷ ys) (suc i) d h = at-get_d ys i d (omega arith)

  -- where a key tells all elements apart, equal keys stand at one place
  pub same_place :
      {B : Type 0} (f : A → B) (xs : List A) (i j : ℕ) {x y : A}
      → Distinct (map f xs)
      → get_elem? xs i ≡ some x
      → get_elem? xs j ≡ some y
      → f x ≡ f y
      → i ≡ j
  same_place f [] i j d a b q = absurd (let z : ◌≡◌ {A = ℕ} 0 1 = cc in omega arith)
  same_place f (u ∷ us) zero zero d a b q = refl
  same_place f (u ∷ us) zero (suc j) {x} {y} d a b q =
      let p : x ≡ u = cc in
      absurd (distinct_head d (subst (λ k. Memᴰ k (map f us)) (sym q ∙ ap f p) (Memᴰ.map f (at_mem us j b))))
  same_place f (u ∷ us) (suc i) zero {x} {y} d a b q =
      let p : y ≡ u = cc in
      absurd (distinct_head d (subst (λ k. Memᴰ k (map f us)) (q ∙ ap f p) (Memᴰ.map f (at_mem us i a))))
  same_place f (u ∷ us) (suc i) (suc j) d a b q = ap suc (same_place f us i j (distinct_tail d) a b q)

module _ {A : Type 0} where
  -- the element behind the first ones, and those before it
  pub at-seam : (xs : List A) (y : A) (ys : List A) → get_elem? (xs ++ y ∷ ys) (length xs) ≡ some y
  at-seam [] y ys = refl
  at-seam (x ∷ xs) y ys = at-seam xs y ys

  pub last-or-before :
      (xs : List A) (y : A) (i : ℕ) {x : A}
      → get_elem? (xs ++ y ∷ []) i ≡ some x
      → ((i < length xs) × (get_elem? xs i ≡ some x)) ⊎ ((i ≡ length xs) × (x ≡ y))
  last-or-before [] y zero {x} e = let q : x ≡ y = cc in inr (refl, q)
  last-or-before [] y (suc i) e = absurd (let z : ◌≡◌ {A = ℕ} 0 1 = cc in omega arith)
  last-or-before (u ∷ xs) y zero e = inl (omega arith, e)
  last-or-before (u ∷ xs) y (suc i) {x} e =
      ⊎_elim
      (λ (w : (i < length xs) × (get_elem? xs i ≡ some x)). inl (omega (arith, w.0), w.1))
      (λ (w : (i ≡ length xs) × (x ≡ y)). inr (ap suc w.0, w.1))
      (last-or-before xs y i e)

  -- what holds of the elements and of one more behind them
  pub more-behind :
      (P : ℕ → A → Type 0) (xs : List A) (y : A)
      → ((i : ℕ) (x : A) → get_elem? xs i ≡ some x → P i x)
      → P (length xs) y
      → (i : ℕ) (x : A)
      → get_elem? (xs ++ y ∷ []) i ≡ some x
      → P i x
  more-behind P xs y h last i x e =
      ⊎_elim
      (λ (w : (i < length xs) × (get_elem? xs i ≡ some x)). h i x w.1)
      (λ (w : (i ≡ length xs) × (x ≡ y)). rw (w.0, w.1) last)
      (last-or-before xs y i e)
