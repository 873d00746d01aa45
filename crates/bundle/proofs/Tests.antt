-- Laws of tests: what a Bool made of others says, and how a definition is followed down its tests.
use mathlib.Core.Path.{◌≡◌, refl, sym, ◌∙◌}
use mathlib.Core.Logic.{◌⊎◌, inl, inr}
use mathlib.Core.Bool.{Bool, true, false, cond, not, ◌&&◌, ◌||◌, true≢false}

pub false-is-true : {A : Type 0} → false ≡ true → A
false-is-true e = absurd (true≢false (sym e))

pub both : {a b : Bool} → a ≡ true → b ≡ true → (a && b) ≡ true
both p q = rw (p, q)

pub and_left : (a b : Bool) → (a && b) ≡ true → a ≡ true
and_left true b e = refl
and_left false b e = e

pub and_right : (a b : Bool) → (a && b) ≡ true → b ≡ true
and_right true b e = e
and_right false b e = false-is-true e

pub and-swap : (a b : Bool) → (a && b) ≡ (b && a)
and-swap true true = refl
and-swap true false = refl
and-swap false true = refl
and-swap false false = refl

pub or_assoc : (a b c : Bool) → (a || b || c) ≡ (a || (b || c))
or_assoc true b c = refl
or_assoc false b c = refl

pub or_cases : (a b : Bool) → (a || b) ≡ true → (a ≡ true) ⊎ (b ≡ true)
or_cases true b e = inl refl
or_cases false b e = inr e

pub or-one : {a : Bool} (b : Bool) → a ≡ true → (a || b) ≡ true
or-one b p = rw p

pub or-other : (a : Bool) {b : Bool} → b ≡ true → (a || b) ≡ true
or-other true q = refl
or-other false q = q

pub or-false : (a b : Bool) → (a || b) ≡ false → (a ≡ false) × (b ≡ false)
or-false true b e = false-is-true (sym e)
or-false false b e = (refl, e)

pub is_false : (t : Bool) → (t ≡ true → ⊥) → t ≡ false
is_false true h = absurd (h refl)
is_false false h = refl

pub not-both : {A : Type 0} {t : Bool} → t ≡ true → t ≡ false → A
not-both p q = false-is-true (sym q ∙ p)

pub not_of_false : {t : Bool} → t ≡ false → not t ≡ true
not_of_false p = rw p

pub false_of_not : (t : Bool) → not t ≡ true → t ≡ false
false_of_not true e = sym e
false_of_not false e = refl

-- a test that fails is one that cannot hold
pub refuted : {t : Bool} → t ≡ true → not t ≡ true → ⊥
refuted {t} p h = not-both p (false_of_not t h)

pub fails : (t : Bool) → (t ≡ true → ⊥) → not t ≡ true
fails t h = not_of_false (is_false t h)

-- a test is true or false, with the equation
pub decide : (t : Bool) → (t ≡ true) ⊎ (t ≡ false)
decide true = inl refl
decide false = inr refl

-- two tests that hold together are equal
pub same_test : (a b : Bool) → (a ≡ true → b ≡ true) → (b ≡ true → a ≡ true) → a ≡ b
same_test true b f g = sym (f refl)
same_test false true f g = g refl
same_test false false f g = refl

-- down a test of a definition
pub cond-elim : {A : Type 0} (P : A → Type 0) (t : Bool) (a b : A) → (t ≡ true → P a) → (t ≡ false → P b) → P (cond t a b)
cond-elim P true a b f g = f refl
cond-elim P false a b f g = g refl
