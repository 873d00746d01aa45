-- Laws of the plain functions on lists: membership, permutations, distinct elements.
use Prim.Native.Nat.{ℕ, zero, suc, ◌<◌}
use mathlib.Core.Path.{◌≡◌, refl, sym, ◌∙◌, ap}
use mathlib.Core.Logic.{◌⊎◌, inl, inr, ⊎_elim}
use mathlib.Core.Bool.{Bool, true, false, cond}
use mathlib.Core.List.Memᴰ
use mathlib.Core.List.Permᴰ
use mathlib.Core.List.{List, [], ◌∷◌, ◌++◌, map, append_assoc, Memᴰ, map-append, Permᴰ}
use mathlib.Core.Option.{none, some}
use native.Mathlib.Omega.{arith}
use lib.ListN.{length}
use lib.Dec.{eqb}
use borrow.Author.Tests.{eqb-true, eq-eqb}
use Rattle.bundle.specs.Lists.{up_to, any, all, passing, first, concat_map, among}
use Rattle.bundle.proofs.Tests.{false-is-true, both, and_left, and_right, or_cases, or-one, or-other, decide, not-both}

module _ {A : Type 0} where
  -- an element that passes
  pub record Passing (p : A → Bool) (xs : List A) : Type 0 where
    pub element : A
    pub present : Memᴰ element xs
    pub passes : p element ≡ true

  pub any-elim : (p : A → Bool) (xs : List A) → any p xs ≡ true → Passing p xs
  any-elim p [] e = false-is-true e
  any-elim p (x ∷ xs) e = go (any-elim p xs) (or_cases (p x) (any p xs) e)
    where
      go : (any p xs ≡ true → Passing p xs) → (p x ≡ true) ⊎ (any p xs ≡ true) → Passing p (x ∷ xs)
      go ih (inl h) = record { element = x; present = Memᴰ.head refl; passes = h }
      go ih (inr h) =
          record { element = (ih h).element; present = Memᴰ.tail (ih h).present; passes = (ih h).passes }

  pub any-intro : (p : A → Bool) {x : A} {xs : List A} → Memᴰ x xs → p x ≡ true → any p xs ≡ true
  any-intro p {x} (Memᴰ.head {xs = ys} q) e = or-one (any p ys) (ap p (sym q) ∙ e)
  any-intro p (Memᴰ.tail {x = y} m) e = or-other (p y) (any-intro p m e)

  pub all-elim : (p : A → Bool) {x : A} {xs : List A} → all p xs ≡ true → Memᴰ x xs → p x ≡ true
  all-elim p e (Memᴰ.head {x = y} {xs = ys} q) = ap p q ∙ and_left (p y) (all p ys) e
  all-elim p e (Memᴰ.tail {x = y} {xs = ys} m) = all-elim p (and_right (p y) (all p ys) e) m

  pub all-intro : (p : A → Bool) (xs : List A) → ((x : A) → Memᴰ x xs → p x ≡ true) → all p xs ≡ true
  all-intro p [] h = refl
  all-intro p (x ∷ xs) h = both (h x (Memᴰ.head refl)) (all-intro p xs (λ y m. h y (Memᴰ.tail m)))

  -- tests that agree at each element of a list
  pub all-agree : (p q : A → Bool) (xs : List A) → ((x : A) → Memᴰ x xs → p x ≡ q x) → all p xs ≡ all q xs
  all-agree p q [] h = refl
  all-agree p q (x ∷ xs) h = rw (h x (Memᴰ.head refl), all-agree p q xs (λ y m. h y (Memᴰ.tail m)))

  pub passing-elim : (p : A → Bool) {x : A} (xs : List A) → Memᴰ x (passing p xs) → Memᴰ x xs × (p x ≡ true)
  passing-elim p [] m = absurd (Memᴰ.not-nil m)
  passing-elim p {x} (y ∷ ys) m = go (passing-elim p ys) (p y) refl m
    where
      go :
          (Memᴰ x (passing p ys) → Memᴰ x ys × (p x ≡ true))
          → (t : Bool)
          → p y ≡ t
          → Memᴰ x (cond t (y ∷ passing p ys) (passing p ys))
          → Memᴰ x (y ∷ ys) × (p x ≡ true)
      go ih true e m' =
          ⊎_elim
          (λ q. (Memᴰ.head q, ap p q ∙ e))
          (λ l. (Memᴰ.tail (ih l).0, (ih l).1))
          (Memᴰ.cases_cons m')
      go ih false e m' = (Memᴰ.tail (ih m').0, (ih m').1)

  pub passing-intro : (p : A → Bool) {x : A} {xs : List A} → Memᴰ x xs → p x ≡ true → Memᴰ x (passing p xs)
  passing-intro p {x} (Memᴰ.head {x = y} {xs = ys} q) e = rw (ap p (sym q) ∙ e) (Memᴰ.head q)
  passing-intro p {x} (Memᴰ.tail {x = y} {xs = ys} m) e = go (passing-intro p m e) (p y)
    where
      go : Memᴰ x (passing p ys) → (t : Bool) → Memᴰ x (cond t (y ∷ passing p ys) (passing p ys))
      go l true = Memᴰ.tail l
      go l false = l

  -- the first element that passes is one that passes; where one passes there is a first
  pub first_some : (p : A → Bool) (xs : List A) {x : A} → first p xs ≡ some x → Memᴰ x xs × (p x ≡ true)
  first_some p [] e = let z : ◌≡◌ {A = ℕ} 0 1 = cc in absurd (omega arith)
  first_some p (y ∷ ys) {x} e = go (first_some p ys) (p y) refl e
    where
      go :
          (first p ys ≡ some x → Memᴰ x ys × (p x ≡ true))
          → (t : Bool)
          → p y ≡ t
          → cond t (some y) (first p ys) ≡ some x
          → Memᴰ x (y ∷ ys) × (p x ≡ true)
      go ih true h e' = let q : y ≡ x = cc in (Memᴰ.head (sym q), ap p (sym q) ∙ h)
      go ih false h e' = (Memᴰ.tail (ih e').0, (ih e').1)

  pub first_of : (p : A → Bool) (xs : List A) → any p xs ≡ true → (x : A) × (first p xs ≡ some x)
  first_of p [] e = false-is-true e
  first_of p (y ∷ ys) e = go (first_of p ys) (p y) refl
    where
      go :
          (any p ys ≡ true → (x : A) × (first p ys ≡ some x))
          → (t : Bool)
          → p y ≡ t
          → (x : A) × (cond t (some y) (first p ys) ≡ some x)
      go ih true h = (y, refl)
      go ih false h = ih (⊎_elim (λ l. not-both l h) (λ l. l) (or_cases (p y) (any p ys) e))

  pub first-none : (p : A → Bool) {x : A} {xs : List A} → first p xs ≡ none → Memᴰ x xs → p x ≡ true → ⊥
  first-none p {x} {xs} e m h = let w = first_of p xs (any-intro p m h) in never w.0 w.1
    where
      never : (y : A) → first p xs ≡ some y → ⊥
      never y q = let z : ◌≡◌ {A = ℕ} 0 1 = cc in omega arith

  -- membership and permutations
  pub perm-mem : {x : A} {xs ys : List A} → Permᴰ xs ys → Memᴰ x xs → Memᴰ x ys
  perm-mem Permᴰ.nil m = m
  perm-mem (Permᴰ.cons e d) m =
      ⊎_elim (λ q. Memᴰ.head (q ∙ e)) (λ l. Memᴰ.tail (perm-mem d l)) (Memᴰ.cases_cons m)
  perm-mem (Permᴰ.swap e₁ e₂) m =
      ⊎_elim
      (λ q. Memᴰ.tail (Memᴰ.head (q ∙ e₁)))
      (λ l.
      ⊎_elim
      (λ q. Memᴰ.head (q ∙ e₂))
      (λ l'. Memᴰ.tail (Memᴰ.tail l'))
      (Memᴰ.cases_cons l))
      (Memᴰ.cases_cons m)
  perm-mem (Permᴰ.trans d₁ d₂) m = perm-mem d₂ (perm-mem d₁ m)

  pub perm-length : {xs ys : List A} → Permᴰ xs ys → length xs ≡ length ys
  perm-length Permᴰ.nil = refl
  perm-length (Permᴰ.cons e d) = ap suc (perm-length d)
  perm-length (Permᴰ.swap e₁ e₂) = refl
  perm-length (Permᴰ.trans d₁ d₂) = perm-length d₁ ∙ perm-length d₂

  -- no element twice
  pub data Distinct : List A → Type 0 where
    distinct_nil : Distinct []
    distinct_cons : {x : A} {xs : List A} → (Memᴰ x xs → ⊥) → Distinct xs → Distinct (x ∷ xs)

  pub distinct_head : {x : A} {xs : List A} → Distinct (x ∷ xs) → Memᴰ x xs → ⊥
  distinct_head (distinct_cons h d) = h

  pub distinct_tail : {x : A} {xs : List A} → Distinct (x ∷ xs) → Distinct xs
  distinct_tail (distinct_cons h d) = d

  pub distinct_append :
      {xs ys : List A} → Distinct xs → Distinct ys → ((x : A) → Memᴰ x xs → Memᴰ x ys → ⊥) → Distinct (xs ++ ys)
  distinct_append distinct_nil e apart = e
  distinct_append (distinct_cons {x = x} {xs = xs} h d) e apart =
      distinct_cons
      (λ m. ⊎_elim h (apart x (Memᴰ.head refl)) (Memᴰ.append_cases xs m))
      (distinct_append d e (λ z m. apart z (Memᴰ.tail m)))

-- 0, 1, .. below n
pub up_to-elim : (n : ℕ) {k : ℕ} → Memᴰ k (up_to n) → k < n
up_to-elim zero m = absurd (Memᴰ.not-nil m)
up_to-elim (suc n) {k} m = ⊎_elim (λ l. below l (up_to-elim n l)) last (Memᴰ.append_cases (up_to n) m)
  where
    below : Memᴰ k (up_to n) → k < n → k < suc n
    below l h = omega arith

    last : Memᴰ k (n ∷ []) → k < suc n
    last l = let q : k ≡ n = Memᴰ.eq_of_singleton l in omega arith

pub up_to-intro : (n : ℕ) {k : ℕ} → k < n → Memᴰ k (up_to n)
up_to-intro zero h = absurd (omega arith)
up_to-intro (suc n) {k} h = go (λ l. up_to-intro n l) (decide (eqb k n))
  where
    lower : (k ≡ n → ⊥) → k < n
    lower ne = omega arith

    go : (k < n → Memᴰ k (up_to n)) → (eqb k n ≡ true) ⊎ (eqb k n ≡ false) → Memᴰ k (up_to n ++ (n ∷ []))
    go ih (inl e) = Memᴰ.append_right (up_to n) (Memᴰ.head (eqb-true k n e))
    go ih (inr e) = Memᴰ.append_left (n ∷ []) (ih (lower (λ q. not-both (eq-eqb k n q) e)))

pub among-elim : {n : ℕ} (ns : List ℕ) → among n ns ≡ true → Memᴰ n ns
among-elim {n} ns e = let p = any-elim (eqb n) ns e in Memᴰ.cast (eqb-true n p.element p.passes) p.present

pub among-intro : {n : ℕ} {ns : List ℕ} → Memᴰ n ns → among n ns ≡ true
among-intro {n} m = any-intro (eqb n) m (eq-eqb n n refl)

module _ {A B : Type 0} where
  -- where an element of the lists back to back comes from
  pub record From (f : A → List B) (xs : List A) (y : B) : Type 0 where
    pub source : A
    pub present : Memᴰ source xs
    pub gives : Memᴰ y (f source)

  pub concat_map-elim : (f : A → List B) {y : B} (xs : List A) → Memᴰ y (concat_map f xs) → From f xs y
  concat_map-elim f [] m = absurd (Memᴰ.not-nil m)
  concat_map-elim f {y} (x ∷ xs) m = go (concat_map-elim f xs) (Memᴰ.append_cases (f x) m)
    where
      go : (Memᴰ y (concat_map f xs) → From f xs y) → Memᴰ y (f x) ⊎ Memᴰ y (concat_map f xs) → From f (x ∷ xs) y
      go ih (inl l) = record { source = x; present = Memᴰ.head refl; gives = l }
      go ih (inr l) = record { source = (ih l).source; present = Memᴰ.tail (ih l).present; gives = (ih l).gives }

  pub concat_map-intro : (f : A → List B) {x : A} {xs : List A} {y : B} → Memᴰ x xs → Memᴰ y (f x) → Memᴰ y (concat_map f xs)
  concat_map-intro f {x} {y = y} (Memᴰ.head {x = z} {xs = zs} q) m =
      Memᴰ.append_left (concat_map f zs) (rw q at m)
  concat_map-intro f (Memᴰ.tail {x = z} l) m = Memᴰ.append_right (f z) (concat_map-intro f l m)

  pub perm-map : (f : A → B) {xs ys : List A} → Permᴰ xs ys → Permᴰ (map f xs) (map f ys)
  perm-map f Permᴰ.nil = Permᴰ.nil
  perm-map f (Permᴰ.cons e d) = Permᴰ.cons (ap f e) (perm-map f d)
  perm-map f (Permᴰ.swap e₁ e₂) = Permᴰ.swap (ap f e₁) (ap f e₂)
  perm-map f (Permᴰ.trans d₁ d₂) = Permᴰ.trans (perm-map f d₁) (perm-map f d₂)

  pub concat_map-append : (f : A → List B) (xs ys : List A) → concat_map f (xs ++ ys) ≡ concat_map f xs ++ concat_map f ys
  concat_map-append f [] ys = refl
  concat_map-append f (x ∷ xs) ys = ap (λ (l : List B). f x ++ l) (concat_map-append f xs ys) ∙ sym (append_assoc (f x) (concat_map f xs) (concat_map f ys))

  pub concat_map-none : (f : A → List B) (xs : List A) → ((x : A) → Memᴰ x xs → f x ≡ []) → concat_map f xs ≡ []
  concat_map-none f [] h = refl
  concat_map-none f (x ∷ xs) h =
      rw (h x (Memᴰ.head refl), concat_map-none f xs (λ y m. h y (Memᴰ.tail m)))

  -- the lists of a permutation back to back are a permutation
  pub perm-concat_map : (f : A → List B) {xs ys : List A} → Permᴰ xs ys → Permᴰ (concat_map f xs) (concat_map f ys)
  perm-concat_map f Permᴰ.nil = Permᴰ.nil
  perm-concat_map f (Permᴰ.cons {a = a} {b = b} {l₁ = l} {l₂ = k} e d) =
      rw e (Permᴰ.append_left (f b) (perm-concat_map f d))
  perm-concat_map f (Permᴰ.swap {a = a} {b = b} {a' = c} {b' = d} {l = l} e₁ e₂) =
      rw (e₁, e₂, ← append_assoc (f d) (f c) (concat_map f l), ← append_assoc (f c) (f d) (concat_map f l))
      (Permᴰ.append_right (concat_map f l) (Permᴰ.append_comm (f d) (f c)))
  perm-concat_map f (Permᴰ.trans d₁ d₂) = Permᴰ.trans (perm-concat_map f d₁) (perm-concat_map f d₂)

module _ {A B : Type 0} where
  -- what does not see that the elements are changed
  pub concat_map-along : (f : A → List B) (g : A → A) (h : B → B) → ((x : A) → f (g x) ≡ map h (f x)) → (xs : List A) → concat_map f (map g xs) ≡ map h (concat_map f xs)
  concat_map-along f g h e [] = refl
  concat_map-along f g h e (x ∷ xs) = rw (e x, concat_map-along f g h e xs) (sym (map-append h (f x) (concat_map f xs)))

  pub concat_map-map : (f : A → List B) (g : A → A) → ((x : A) → f (g x) ≡ f x) → (xs : List A) → concat_map f (map g xs) ≡ concat_map f xs
  concat_map-map f g same [] = refl
  concat_map-map f g same (x ∷ xs) = rw (same x, concat_map-map f g same xs)

-- the lists of f back to back have distinct keys, if each list has and a key tells the name of the element that its list came from
module _ {A B C D : Type 0} (name : A → C) (f : A → List B) (key : B → D)
    (each : (x : A) → Distinct (map key (f x)))
    (tells : (x y : A) (u v : B) → Memᴰ u (f x) → Memᴰ v (f y) → key u ≡ key v → name x ≡ name y) where
  pub distinct-concat_map : (xs : List A) → Distinct (map name xs) → Distinct (map key (concat_map f xs))
  distinct-concat_map [] d = distinct_nil
  distinct-concat_map (x ∷ xs) (distinct_cons h d) = rw map-append (distinct_append (each x) (distinct-concat_map xs d) apart)
    where
      apart : (k : D) → Memᴰ k (map key (f x)) → Memᴰ k (map key (concat_map f xs)) → ⊥
      apart k m l =
          let u = Memᴰ.of_map key (f x) m in
          let v = Memᴰ.of_map key (concat_map f xs) l in
          let y = concat_map-elim f xs v.1 in
          h (Memᴰ.cast (tells x y.source u.0 v.0 u.1 y.gives (u.2 ∙ sym v.2)) (Memᴰ.map name y.present))
