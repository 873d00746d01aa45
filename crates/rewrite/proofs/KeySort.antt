-- Sorting by a key: the same elements; where no key stands twice, the same list for every order of them.
use Prim.Native.Nat.{ℕ}
use mathlib.Core.Path.{◌≡◌, refl, ◌∙◌, ap, ap₂}
use mathlib.Core.Logic.{⊎_elim}
use mathlib.Core.Bool.{Bool, true, false, cond}
use mathlib.Core.List.Memᴰ
use mathlib.Core.List.Permᴰ
use mathlib.Core.List.{List, [], ◌∷◌, map, Memᴰ, Permᴰ}
use lib.Dec.{leb}
use Rattle.sorting.specs.Order.{insert, sorted}
use Rattle.sorting.proofs.Insertion.{sorted-perm}
use Rattle.bundle.proofs.Tests.{is_false, not-both}
use Rattle.bundle.proofs.ListLaws.{perm-mem, perm-map, Distinct, distinct_head, distinct_tail}
use Rattle.bundle.proofs.Keys.{perm-distinct}
use Rattle.verdict.specs.Accesses.{lex_less}
use Rattle.verdict.proofs.Lexical.{Compared, less, same, more, compare, less-trans, less-asymmetric}
use Rattle.rewrite.specs.Rewriting.{insert_by, sorted_by}
use Rattle.rewrite.specs.FixedOrder.{Ascending}

module _ {A : Type 0} (key : A → List ℕ) where
  abbrev below : A → A → Bool
  below x y = lex_less (key x) (key y)

  insert-perm : (x : A) (ys : List A) → Permᴰ (x ∷ ys) (insert_by key x ys)
  unfolding insert_by
  insert-perm x [] = Permᴰ.refl (x ∷ [])
  insert-perm x (y ∷ ys) = go (insert-perm x ys) (below x y)
    where
      go : Permᴰ (x ∷ ys) (insert_by key x ys) → (t : Bool) → Permᴰ (x ∷ y ∷ ys) (cond t (x ∷ y ∷ ys) (y ∷ insert_by key x ys))
      go d true = Permᴰ.refl (x ∷ y ∷ ys)
      go d false = Permᴰ.trans (Permᴰ.swap refl refl) (Permᴰ.cons refl d)

  pub sort-perm : (xs : List A) → Permᴰ xs (sorted_by key xs)
  unfolding sorted_by
  sort-perm [] = Permᴰ.nil
  sort-perm (x ∷ xs) = Permᴰ.trans (Permᴰ.cons refl (sort-perm xs)) (insert-perm x (sorted_by key xs))

  -- of two elements with different keys one is below the other
  not-below : (x y : A) → below x y ≡ true → below y x ≡ false
  not-below x y e = is_false (below y x) (λ f. less-asymmetric (key x) (key y) e f)

  -- two such elements are inserted in either order
  either : (x y : A) (zs : List A) → (key x ≡ key y → ⊥) → cond (below x y) (x ∷ y ∷ zs) (y ∷ x ∷ zs) ≡ cond (below y x) (y ∷ x ∷ zs) (x ∷ y ∷ zs)
  either x y zs apart = go (compare (key x) (key y))
    where
      go : Compared (key x) (key y) → cond (below x y) (x ∷ y ∷ zs) (y ∷ x ∷ zs) ≡ cond (below y x) (y ∷ x ∷ zs) (x ∷ y ∷ zs)
      go (less h) = rw (h, not-below x y h)
      go (same h) = absurd (apart h)
      go (more h) = rw (h, not-below y x h)

  -- behind an element that is below the one and not below the other
  between : (x y z : A) → below y z ≡ true → below x z ≡ false → below x y ≡ false
  between x y z h l = is_false (below x y) (λ e. not-both (less-trans (key x) (key y) (key z) e h) l)

  insert-swap : (x y : A) (zs : List A) → (key x ≡ key y → ⊥) → insert_by key x (insert_by key y zs) ≡ insert_by key y (insert_by key x zs)
  unfolding insert_by
  insert-swap x y [] apart = either x y [] apart
  insert-swap x y (z ∷ zs) apart = go (insert-swap x y zs apart) (below x z) (below y z) refl refl
    where
      go :
          insert_by key x (insert_by key y zs) ≡ insert_by key y (insert_by key x zs)
          → (s t : Bool)
          → below x z ≡ s
          → below y z ≡ t
          → insert_by key x (cond t (y ∷ z ∷ zs) (z ∷ insert_by key y zs)) ≡ insert_by key y (cond s (x ∷ z ∷ zs) (z ∷ insert_by key x zs))
      go ih true true e f = rw (e, f) (either x y (z ∷ zs) apart)
      go ih true false e f = rw (e, f, between y x z e f)
      go ih false true e f = rw (e, f, between x y z f e)
      go ih false false e f = rw (e, f) (ap (λ (l : List A). z ∷ l) ih)

  pub sort-same : {xs ys : List A} → Permᴰ xs ys → Distinct (map key xs) → sorted_by key xs ≡ sorted_by key ys
  unfolding sorted_by
  sort-same Permᴰ.nil d = refl
  sort-same (Permᴰ.cons e p) d = ap₂ (insert_by key) e (sort-same p (distinct_tail d))
  sort-same (Permᴰ.swap {a = a} {b = b} {a' = a'} {b' = b'} {l = l} e₁ e₂) d =
      insert-swap a b (sorted_by key l) (λ q. distinct_head d (Memᴰ.head q))
      ∙ ap₂ (λ (x y : A). insert_by key x (insert_by key y (sorted_by key l))) e₂ e₁
  sort-same (Permᴰ.trans p q) d = sort-same p d ∙ sort-same q (perm-distinct (perm-map key p) d)

  -- where no key stands twice, each is below all that follow it
  insert-ascends :
      (x : A) (ys : List A) → ((y : A) → Memᴰ y ys → key x ≡ key y → ⊥) → Ascending (map key ys) → Ascending (map key (insert_by key x ys))
  unfolding insert_by
  insert-ascends x [] apart a = Ascending.more (λ l m. absurd (Memᴰ.not-nil m)) Ascending.none
  insert-ascends x (y ∷ ys) apart (Ascending.more least a) =
      go (insert-ascends x ys (λ z m. apart z (Memᴰ.tail m)) a) (compare (key x) (key y))
    where
      later : below y x ≡ true → (l : List ℕ) → Memᴰ l (map key (insert_by key x ys)) → lex_less (key y) l ≡ true
      later e l m =
          ⊎_elim (λ (q : l ≡ key x). rw q e) (least l)
          (Memᴰ.cases_cons (perm-mem (Permᴰ.symm (perm-map key (insert-perm x ys))) m))

      first : below x y ≡ true → (l : List ℕ) → Memᴰ l (key y ∷ map key ys) → lex_less (key x) l ≡ true
      first e l m =
          ⊎_elim (λ (q : l ≡ key y). rw q e) (λ k. less-trans (key x) (key y) l e (least l k)) (Memᴰ.cases_cons m)

      go :
          Ascending (map key (insert_by key x ys))
          → Compared (key x) (key y)
          → Ascending (map key (cond (below x y) (x ∷ y ∷ ys) (y ∷ insert_by key x ys)))
      go ih (less h) = rw h (Ascending.more (first h) (Ascending.more least a))
      go ih (same h) = absurd (apart y (Memᴰ.head refl) h)
      go ih (more h) = rw (not-below y x h) (Ascending.more (later h) ih)

  pub sort-ascends : (xs : List A) → Distinct (map key xs) → Ascending (map key (sorted_by key xs))
  unfolding sorted_by
  sort-ascends [] d = Ascending.none
  sort-ascends (x ∷ xs) d =
      insert-ascends x (sorted_by key xs)
      (λ y m q. distinct_head d (Memᴰ.cast q (Memᴰ.map key (perm-mem (Permᴰ.symm (sort-perm xs)) m))))
      (sort-ascends xs (distinct_tail d))

-- what keeps the keys keeps the order
module _ {A B : Type 0} (key : A → List ℕ) (key' : B → List ℕ) (f : A → B) where
  abbrev Keeps : A → Type 0
  Keeps x = key' (f x) ≡ key x

  insert-map : (x : A) (ys : List A) → Keeps x → ((y : A) → Memᴰ y ys → Keeps y) → map f (insert_by key x ys) ≡ insert_by key' (f x) (map f ys)
  unfolding insert_by
  insert-map x [] e h = refl
  insert-map x (y ∷ ys) e h =
      rw (e, h y (Memᴰ.head refl))
      (go (insert-map x ys e (λ z m. h z (Memᴰ.tail m))) (lex_less (key x) (key y)))
    where
      go :
          map f (insert_by key x ys) ≡ insert_by key' (f x) (map f ys)
          → (t : Bool)
          → map f (cond t (x ∷ y ∷ ys) (y ∷ insert_by key x ys)) ≡ cond t (f x ∷ f y ∷ map f ys) (f y ∷ insert_by key' (f x) (map f ys))
      go ih true = refl
      go ih false = ap (λ (l : List B). f y ∷ l) ih

  pub sort-map : (xs : List A) → ((x : A) → Memᴰ x xs → Keeps x) → map f (sorted_by key xs) ≡ sorted_by key' (map f xs)
  unfolding sorted_by
  sort-map [] h = refl
  sort-map (x ∷ xs) h =
      insert-map x (sorted_by key xs) (h x (Memᴰ.head refl)) (λ y m. h y (Memᴰ.tail (perm-mem (Permᴰ.symm (sort-perm key xs)) m)))
      ∙ ap (insert_by key' (f x)) (sort-map xs (λ y m. h y (Memᴰ.tail m)))

-- numbers whose order is that of the keys
module _ {B : Type 0} (key : B → List ℕ) (f : ℕ → B) where
  abbrev Agrees : ℕ → ℕ → Type 0
  Agrees x y = leb x y ≡ lex_less (key (f x)) (key (f y))

  -- each number agrees with all that follow it
  pub data Agreeing : List ℕ → Type 0 where
    agreeing_nil : Agreeing []
    agreeing_cons : {x : ℕ} {xs : List ℕ} → ((y : ℕ) → Memᴰ y xs → Agrees x y) → Agreeing xs → Agreeing (x ∷ xs)

  insert-words : (x : ℕ) (ys : List ℕ) → ((y : ℕ) → Memᴰ y ys → Agrees x y) → map f (insert x ys) ≡ insert_by key (f x) (map f ys)
  unfolding insert insert_by
  insert-words x [] h = refl
  insert-words x (y ∷ ys) h =
      rw (h y (Memᴰ.head refl))
      (go (insert-words x ys (λ z m. h z (Memᴰ.tail m))) (lex_less (key (f x)) (key (f y))))
    where
      go :
          map f (insert x ys) ≡ insert_by key (f x) (map f ys)
          → (t : Bool)
          → map f (cond t (x ∷ y ∷ ys) (y ∷ insert x ys)) ≡ cond t (f x ∷ f y ∷ map f ys) (f y ∷ insert_by key (f x) (map f ys))
      go ih true = refl
      go ih false = ap (λ (l : List B). f y ∷ l) ih

  pub sort-words : {xs : List ℕ} → Agreeing xs → map f (sorted xs) ≡ sorted_by key (map f xs)
  unfolding sorted sorted_by
  sort-words agreeing_nil = refl
  sort-words (agreeing_cons {x = x} {xs = xs} h a) =
      insert-words x (sorted xs) (λ y m. h y (perm-mem (Permᴰ.symm (sorted-perm xs)) m)) ∙ ap (insert_by key (f x)) (sort-words a)
