-- Elements known by a key: in a list where no key stands twice, looking one up does not depend on the order.
use mathlib.Core.Path.{◌≡◌, refl, sym, ◌∙◌, ap}
use mathlib.Core.Logic.{⊎_elim}
use mathlib.Core.Bool.{Bool, true}
use mathlib.Core.List.Memᴰ
use mathlib.Core.List.Permᴰ
use mathlib.Core.List.{List, [], ◌∷◌, map, Memᴰ, Permᴰ}
use mathlib.Core.Option.{Option, none, some}
use Rattle.bundle.specs.Lists.{any, all, first}
use Rattle.bundle.proofs.Tests.{same_test}
use Rattle.bundle.proofs.ListLaws.{any-elim, any-intro, all-agree, first_some, first-none, perm-mem, Distinct, distinct_cons, distinct_head, distinct_tail}

module _ {A : Type 0} where
  pub perm-distinct : {xs ys : List A} → Permᴰ xs ys → Distinct xs → Distinct ys
  perm-distinct Permᴰ.nil d = d
  perm-distinct (Permᴰ.cons {a = a} {b = b} e p) d =
      distinct_cons
      (λ m. distinct_head d (Memᴰ.cast e (perm-mem (Permᴰ.symm p) m)))
      (perm-distinct p (distinct_tail d))
  perm-distinct (Permᴰ.swap {a = a} {b = b} {a' = c} {b' = f} {l = l} e₁ e₂) d =
      distinct_cons
      (λ m.
      ⊎_elim
      (λ q. distinct_head d (Memᴰ.head (e₁ ∙ sym q ∙ sym e₂)))
      (λ k. distinct_head (distinct_tail d) (Memᴰ.cast e₂ k))
      (Memᴰ.cases_cons m))
      (distinct_cons
      (λ m. distinct_head d (Memᴰ.tail (Memᴰ.cast e₁ m)))
      (distinct_tail (distinct_tail d)))
  perm-distinct (Permᴰ.trans p q) d = perm-distinct q (perm-distinct p d)

  -- whether some element passes does not depend on the order
  pub perm-any : (p : A → Bool) {xs ys : List A} → Permᴰ xs ys → any p xs ≡ any p ys
  perm-any p {xs} {ys} d = same_test (any p xs) (any p ys) (there d) (there (Permᴰ.symm d))
    where
      there : {us vs : List A} → Permᴰ us vs → any p us ≡ true → any p vs ≡ true
      there {us} q e = let w = any-elim p us e in any-intro p (perm-mem q w.present) w.passes

  -- nor does the first that passes, where at most one does
  pub perm-first :
      (p : A → Bool) {xs ys : List A}
      → Permᴰ xs ys
      → ((x y : A) → Memᴰ x xs → Memᴰ y xs → p x ≡ true → p y ≡ true → x ≡ y)
      → first p xs ≡ first p ys
  perm-first p {xs} {ys} d one = go (first p xs) (first p ys) refl refl
    where
      go : (u v : Option A) → first p xs ≡ u → first p ys ≡ v → u ≡ v
      go none none e f = refl
      go none (some y) e f =
          let w = first_some p ys f in
          absurd (first-none p e (perm-mem (Permᴰ.symm d) w.0) w.1)
      go (some x) none e f = let w = first_some p xs e in absurd (first-none p f (perm-mem d w.0) w.1)
      go (some x) (some y) e f =
          let w = first_some p xs e in
          let v = first_some p ys f in
          ap some (one x y w.0 (perm-mem (Permᴰ.symm d) v.0) w.1 v.1)

  -- tests that agree at each element
  pub all_same : (p q : A → Bool) (xs : List A) → ((x : A) → p x ≡ q x) → all p xs ≡ all q xs
  all_same p q xs h = all-agree p q xs (λ x m. h x)

pub any_same : {A : Type 0} {p q : A → Bool} (xs : List A) → ((x : A) → p x ≡ q x) → any p xs ≡ any q xs
any_same [] same = refl
any_same (x ∷ xs) same = rw (same x, any_same xs same)

-- a test over changed elements
pub any-map : {A B : Type 0} (g : A → B) (p : B → Bool) (q : A → Bool) → ((x : A) → p (g x) ≡ q x) → (xs : List A) → any p (map g xs) ≡ any q xs
any-map g p q same [] = refl
any-map g p q same (x ∷ xs) = rw (same x, any-map g p q same xs)

pub distinct-key :
    {A K : Type 0} (key : A → K) {x y : A} {xs : List A}
    → Distinct (map key xs)
    → Memᴰ x xs
    → Memᴰ y xs
    → key x ≡ key y
    → x ≡ y
distinct-key key d (Memᴰ.head e) (Memᴰ.head f) q = e ∙ sym f
distinct-key key d (Memᴰ.head e) (Memᴰ.tail m) q =
    absurd (distinct_head d (Memᴰ.cast (ap key (sym e) ∙ q) (Memᴰ.map key m)))
distinct-key key d (Memᴰ.tail l) (Memᴰ.head f) q =
    absurd (distinct_head d (Memᴰ.cast (ap key (sym f) ∙ sym q) (Memᴰ.map key l)))
distinct-key key d (Memᴰ.tail l) (Memᴰ.tail m) q = distinct-key key (distinct_tail d) l m q
