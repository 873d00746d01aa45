-- The order of keys: lists of numbers by the first number in which they differ.
use Prim.Native.Nat.{ℕ, ◌<◌}
use mathlib.Core.Path.{◌≡◌, refl, sym, ◌∙◌}
use mathlib.Core.Logic.{◌⊎◌, inl, inr, ⊎_elim}
use mathlib.Core.Bool.{true, false, ◌&&◌}
use mathlib.Core.List.{List, [], ◌∷◌}
use native.Mathlib.Omega.{arith}
use lib.Dec.{eqb, ltb}
use borrow.Author.Tests.{eqb-true, eq-eqb, ltb-true, lt-ltb, ltb-false, eqb-false}
use Rattle.bundle.proofs.Tests.{false-is-true, both, and_left, and_right, or_cases, or-one, or-other, decide}
use Rattle.verdict.specs.Accesses.{lex_less, name_key, key_of, race_key}
use Rattle.verdict.specs.declared.race.Name.{Name}
use Rattle.verdict.specs.declared.race.Race.{Race}

-- what the order says of two lists that have a first number
module _ (x y : ℕ) (xs ys : List ℕ) where
  pub less-elim : lex_less (x ∷ xs) (y ∷ ys) ≡ true → (x < y) ⊎ ((x ≡ y) × (lex_less xs ys ≡ true))
  unfolding lex_less
  less-elim e =
      ⊎_elim
      (λ h. inl (ltb-true x y h))
      (λ h. inr (eqb-true x y (and_left (eqb x y) (lex_less xs ys) h), and_right (eqb x y) (lex_less xs ys) h))
      (or_cases (ltb x y) (eqb x y && lex_less xs ys) e)

  pub less-head : x < y → lex_less (x ∷ xs) (y ∷ ys) ≡ true
  unfolding lex_less
  less-head h = or-one (eqb x y && lex_less xs ys) (lt-ltb x y h)

  pub less-tail : x ≡ y → lex_less xs ys ≡ true → lex_less (x ∷ xs) (y ∷ ys) ≡ true
  unfolding lex_less
  less-tail q h = or-other (ltb x y) (both (eq-eqb x y q) h)

pub less-irreflexive : (a : List ℕ) → lex_less a a ≡ true → ⊥
unfolding lex_less
less-irreflexive [] e = false-is-true e
less-irreflexive (x ∷ xs) e = ⊎_elim (λ (h : x < x). omega arith) (λ h. less-irreflexive xs h.1) (less-elim x x xs xs e)

pub less-trans : (a b c : List ℕ) → lex_less a b ≡ true → lex_less b c ≡ true → lex_less a c ≡ true
unfolding lex_less
less-trans [] [] c e f = f
less-trans [] (y ∷ ys) [] e f = f
less-trans [] (y ∷ ys) (z ∷ zs) e f = refl
less-trans (x ∷ xs) [] c e f = false-is-true e
less-trans (x ∷ xs) (y ∷ ys) [] e f = f
less-trans (x ∷ xs) (y ∷ ys) (z ∷ zs) e f = go (less-trans xs ys zs) (less-elim x y xs ys e) (less-elim y z ys zs f)
  where
    go :
        (lex_less xs ys ≡ true → lex_less ys zs ≡ true → lex_less xs zs ≡ true)
        → (x < y) ⊎ ((x ≡ y) × (lex_less xs ys ≡ true))
        → (y < z) ⊎ ((y ≡ z) × (lex_less ys zs ≡ true))
        → lex_less (x ∷ xs) (z ∷ zs) ≡ true
    go ih (inl p) (inl q) = less-head x z xs zs (omega arith)
    go ih (inl p) (inr q) = less-head x z xs zs (omega arith)
    go ih (inr p) (inl q) = less-head x z xs zs (omega arith)
    go ih (inr p) (inr q) = less-tail x z xs zs (p.0 ∙ q.0) (ih p.1 q.1)

pub less-asymmetric : (a b : List ℕ) → lex_less a b ≡ true → lex_less b a ≡ true → ⊥
less-asymmetric a b e f = less-irreflexive a (less-trans a b a e f)

-- two lists are one of three
pub data Compared (a b : List ℕ) : Type 0 where
  less : lex_less a b ≡ true → Compared a b
  same : a ≡ b → Compared a b
  more : lex_less b a ≡ true → Compared a b

pub compare : (a b : List ℕ) → Compared a b
unfolding lex_less
compare [] [] = same refl
compare [] (y ∷ ys) = less refl
compare (x ∷ xs) [] = more refl
compare (x ∷ xs) (y ∷ ys) = go (compare xs ys) (decide (ltb x y)) (decide (eqb x y))
  where
    above : ltb x y ≡ false → eqb x y ≡ false → y < x
    above p q = omega (arith, ltb-false x y p, eqb-false x y q)

    go :
        Compared xs ys
        → (ltb x y ≡ true) ⊎ (ltb x y ≡ false)
        → (eqb x y ≡ true) ⊎ (eqb x y ≡ false)
        → Compared (x ∷ xs) (y ∷ ys)
    go c (inl p) e = less (less-head x y xs ys (ltb-true x y p))
    go c (inr p) (inr q) = more (less-head y x ys xs (above p q))
    go (less h) (inr p) (inl q) = less (less-tail x y xs ys (eqb-true x y q) h)
    go (same h) (inr p) (inl q) = same (rw (h, eqb-true x y q))
    go (more h) (inr p) (inl q) = more (less-tail y x ys xs (sym (eqb-true x y q)) h)

-- a key tells what it is made of
pub name_key-tells : (a b : Name) → name_key a ≡ name_key b → a ≡ b
unfolding name_key
name_key-tells a b e = go (cc) (cc) (cc)
  where
    go : a.team ≡ b.team → a.member ≡ b.member → a.number ≡ b.number → a ≡ b
    go t m n = λ i. record { team = t i; member = m i; number = n i }

pub race_key-tells :
    (r q : Race) → race_key r ≡ race_key q → (r.witness ≡ q.witness) × (r.first ≡ q.first) × (r.second ≡ q.second)
unfolding race_key key_of name_key
race_key-tells r q e = (cc, name_key-tells r.first q.first (cc), name_key-tells r.second q.second (cc))
