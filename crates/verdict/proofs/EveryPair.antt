-- All pairs of a list: each element with those before it, both ways round, gives what every element with every element does.
use Prim.Native.Nat.{ℕ, zero, suc}
use mathlib.Core.Path.{◌≡◌, sym, ◌∙◌, ap, subst}
use mathlib.Core.List.Permᴰ
use mathlib.Core.List.{
  List,
  [],
  ◌∷◌,
  ◌++◌,
  append-nil,
  append_assoc,
  Permᴰ,
}
use mathlib.Core.Option.{some}
use native.Mathlib.Omega.{arith}
use lib.ListN.{take, get_elem?}
use Rattle.bundle.specs.Lists.{concat_map}
use Rattle.bundle.proofs.ListLaws.{concat_map-append}

module _ {B : Type 0} where
  perm-of : {k l : List B} → k ≡ l → Permᴰ k l
  perm-of {k} e = subst (Permᴰ k) e (Permᴰ.refl k)

  -- the second and third of four lists change places
  middle : (a b c d : List B) → Permᴰ (a ++ b ++ (c ++ d)) (a ++ c ++ (b ++ d))
  middle a b c d =
      Permᴰ.trans (perm-of (append_assoc a b (c ++ d)))
      (Permᴰ.trans
      (Permᴰ.append_left a
      (Permᴰ.trans (perm-of (sym (append_assoc b c d)))
      (Permᴰ.trans (Permᴰ.append_right d (Permᴰ.append_comm b c)) (perm-of (append_assoc c b d)))))
      (perm-of (sym (append_assoc a c (b ++ d)))))

module _ {A B : Type 0} where
  -- two lists for each element
  split : (g h : A → List B) (xs : List A) → Permᴰ (concat_map (λ x. g x ++ h x) xs) (concat_map g xs ++ concat_map h xs)
  split g h [] = Permᴰ.nil
  split g h (x ∷ xs) =
      Permᴰ.trans (Permᴰ.append_left (g x ++ h x) (split g h xs)) (middle (g x) (h x) (concat_map g xs) (concat_map h xs))

  pub concat_map-same : {g h : A → List B} → ((x : A) → g x ≡ h x) → (xs : List A) → concat_map g xs ≡ concat_map h xs
  concat_map-same e xs = λ i. concat_map (λ x. e x i) xs

module _ {A B : Type 0} (f : A → A → List B) where
  -- every element with every element
  abbrev pub every_pair : List A → List B
  every_pair xs = concat_map (λ x. concat_map (f x) xs) xs

  -- an element with others, both ways round
  abbrev pub both_ways : A → List A → List B
  both_ways x ys = concat_map (λ y. f x y ++ f y x) ys

  pub one_more :
      (xs : List A) (x : A)
      → f x x ≡ []
      → Permᴰ (every_pair xs ++ both_ways x xs) (every_pair (xs ++ (x ∷ [])))
  one_more xs x self =
      Permᴰ.trans
      (Permᴰ.append_left (every_pair xs)
      (Permᴰ.trans (split (f x) (λ y. f y x) xs) (Permᴰ.append_comm (concat_map (f x) xs) (concat_map (λ y. f y x) xs))))
      (Permᴰ.trans (perm-of (sym (append_assoc (every_pair xs) (concat_map (λ y. f y x) xs) (concat_map (f x) xs))))
      (Permᴰ.trans
      (Permᴰ.append_right (concat_map (f x) xs) (Permᴰ.symm (split (λ y. concat_map (f y) xs) (λ y. f y x) xs)))
      (perm-of (sym all))))
    where
      longer : (y : A) → concat_map (f y) (xs ++ (x ∷ [])) ≡ concat_map (f y) xs ++ f y x
      longer y = concat_map-append (f y) xs (x ∷ []) ∙ ap (λ (l : List B). concat_map (f y) xs ++ l) (append-nil (f y x))

      all : every_pair (xs ++ (x ∷ [])) ≡ concat_map (λ y. concat_map (f y) xs ++ f y x) xs ++ concat_map (f x) xs
      all =
          concat_map-append (λ y. concat_map (f y) (xs ++ (x ∷ []))) xs (x ∷ [])
          ∙ ap (λ (l : List B). concat_map (λ y. concat_map (f y) (xs ++ (x ∷ []))) xs ++ l) (append-nil (concat_map (f x) (xs ++ (x ∷ []))))
          ∙ ap (λ (l : List B). concat_map (λ y. concat_map (f y) (xs ++ (x ∷ []))) xs ++ l)
          (longer x ∙ ap (λ (l : List B). concat_map (f x) xs ++ l) self ∙ append-nil (concat_map (f x) xs))
          ∙ ap (λ (l : List B). l ++ concat_map (f x) xs) (concat_map-same longer xs)

  pub both-more : (x y : A) (ys : List A) → both_ways x (ys ++ (y ∷ [])) ≡ both_ways x ys ++ (f x y ++ f y x)
  both-more x y ys =
      concat_map-append (λ y. f x y ++ f y x) ys (y ∷ []) ∙ ap (λ (l : List B). both_ways x ys ++ l) (append-nil (f x y ++ f y x))

-- the first elements and the next
pub take_more : {A : Type 0} (xs : List A) (i : ℕ) {x : A} → get_elem? xs i ≡ some x → take (suc i) xs ≡ take i xs ++ (x ∷ [])
take_more [] i e = absurd (let z : ◌≡◌ {A = ℕ} 0 1 = cc in omega arith)
take_more (y ∷ ys) zero {x} e = let q : y ≡ x = cc in ap (λ a. a ∷ []) q
take_more (y ∷ ys) (suc i) e = ap (λ l. y ∷ l) (take_more ys i e)
