-- Check by computation: the empty bundle (P3), and example E (examples/e.bundle) with its chunks in both orders of its members.
use Prim.Native.Nat.{ℕ}
use mathlib.Core.Path.{◌≡◌, refl}
use mathlib.Core.List.{List, [], ◌∷◌, ◌++◌, map}
use Rattle.bundle.specs.Answer.{gives, refuses}
use Rattle.bundle.specs.Check.{check_of}
use Rattle.bundle.proofs.Computing.{bundle-computes}

root : List ℕ
root = 0x01 ∷ 0x00 ∷ 0x00 ∷ 0x00 ∷ 0x10 ∷ 0x01 ∷ 0x00 ∷ 0x02 ∷ 0x02 ∷ []

member : ℕ → List ℕ
member m = 0x01 ∷ 0x01 ∷ 0x00 ∷ m ∷ 0x11 ∷ 0x02 ∷ []

pub bundles : List (List ℕ)
unfolding root member
bundles =
    []
    ∷ (root ++ member 0 ++ member 1)
    ∷ (member 1 ++ root ++ member 0)
    ∷ (root ++ member 0)
    ∷ (member 0 ++ member 1)
    ∷ []

pub check-examples : map check_of bundles ≡ refuses 10 0 ∷ gives tt ∷ gives tt ∷ refuses 10 4 ∷ refuses 9 0 ∷ []
unfolding bundle-computes bundles
check-examples = refl
