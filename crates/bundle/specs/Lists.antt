-- Plain functions on lists that the definitions use.
use Rattle.std.specs.Prelude.{ℕ, zero, suc, Bool, true, false, cond, ◌&&◌, ◌||◌, List, [], ◌∷◌, ◌++◌, eqb}
use Rattle.std.proofs.Math.Option.{Option, none, some}
use Rattle.std.specs.declared.option.Option as Code
use Rattle.std.specs.declared.option.Option.TheVariants as Variants

-- 0, 1, .. below n
abbrev pub up_to : ℕ → List ℕ
up_to zero = []
up_to (suc n) = up_to n ++ (n ∷ [])

module _ {A : Type 0} where
  -- whether some element, or every element, passes the test
  abbrev pub any : (A → Bool) → List A → Bool
  any p [] = false
  any p (x ∷ xs) = p x || any p xs

  abbrev pub all : (A → Bool) → List A → Bool
  all p [] = true
  all p (x ∷ xs) = p x && all p xs

  -- the elements that pass, and the first of them
  abbrev pub passing : (A → Bool) → List A → List A
  passing p [] = []
  passing p (x ∷ xs) = cond (p x) (x ∷ passing p xs) (passing p xs)

  abbrev pub first : (A → Bool) → List A → Option A
  first p [] = none
  first p (x ∷ xs) = cond (p x) (some x) (first p xs)

  abbrev pub back_to_back : List (List A) → List A
  back_to_back [] = []
  back_to_back (xs ∷ xss) = xs ++ back_to_back xss

module _ {A B : Type 0} where
  -- the lists that f gives for each element, back to back
  abbrev pub concat_map : (A → List B) → List A → List B
  concat_map f [] = []
  concat_map f (x ∷ xs) = f x ++ concat_map f xs

  -- what stands in the option, taken further; else the other value
  abbrev pub from_option : B → (A → B) → Option A → B
  from_option b f none = b
  from_option b f (some a) = f a

-- an option of the code as one of the definitions
abbrev pub option_of : {A : Type 0} → Code.Option A → Option A
option_of Variants.None = none
option_of (Variants.Some a) = some a

-- whether a number is in the list
abbrev pub among : ℕ → List ℕ → Bool
among n = any (eqb n)
