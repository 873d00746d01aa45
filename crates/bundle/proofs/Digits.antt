-- Numbers of k bytes, low byte first: what `low_first` writes `number_at` reads, and the other way round, at every width k.
-- Assumes nothing.
use mathlib.Core.Path.{◌≡◌, refl, sym, ap, ap₂, ◌∙◌}
use mathlib.Core.List.{List, [], ◌∷◌, ◌++◌}
use Prim.Native.Nat.{ℕ, zero, suc, ◌+◌, ◌*◌, ◌/◌, ◌%◌, ◌^◌, ◌≤◌, ◌<◌}
use native.Mathlib.Nat.{zero-add, add-zero, suc-add, add_assoc, mul-add, mul_assoc, mul_left_comm, mod-add-div, div-lt_iff_lt-mul, pow-suc}
use native.Mathlib.Numerals.{add-one}
use native.Mathlib.Omega.{arith}
use lib.Dec.{lit<}
use lib.ListN.{length, get_or, take, drop, get_or-append}
use lib.Seq.{get_or-append-add, drop-cons}
use Rattle.bundle.specs.Commands.{Bytes, low_first, number_at}

pub length-low_first : (k x : ℕ) → length (low_first k x) ≡ k
unfolding low_first
length-low_first zero x = refl
length-low_first (suc k) x = ap suc (length-low_first k (x / 256))

-- a number behind other bytes, and one before them
pub number_behind : (k : ℕ) (p s : List ℕ) (at : ℕ) → number_at k (p ++ s) (length p + at) ≡ number_at k s at
unfolding number_at
number_behind zero p s at = refl
number_behind (suc k) p s at =
    ap₂ (λ (x y : ℕ). x + 256 * y) (get_or-append-add p s at 0)
    (ap (number_at k (p ++ s)) (add_assoc (length p) at 1) ∙ number_behind k p s (at + 1))

pub number-before : (k : ℕ) (s q : List ℕ) (at : ℕ) → at + k ≤ length s → number_at k (s ++ q) at ≡ number_at k s at
unfolding number_at
number-before zero s q at h = refl
number-before (suc k) s q at h =
    ap₂ (λ (x y : ℕ). x + 256 * y) (get_or-append s q 0 at (omega arith)) (number-before k s q (at + 1) (omega arith))

-- what is written in k bytes is read from them
pub digits-read : (k x : ℕ) (rest : List ℕ) → x < 256 ^ k → number_at k (low_first k x ++ rest) 0 ≡ x
unfolding number_at low_first
digits-read zero x rest h = omega arith
digits-read (suc k) x rest h =
    ap (λ (y : ℕ). x % 256 + 256 * y)
    (number_behind k (x % 256 ∷ []) (low_first k (x / 256) ++ rest) 0
    ∙ digits-read k (x / 256) rest ((div-lt_iff_lt-mul (lit< tt)).1 (rw pow-suc at h)))
    ∙ mod-add-div x 256

-- what is read from k bytes has those bytes
pub digits-written : (k : ℕ) (s : List ℕ) (at : ℕ) → Bytes s → at + k ≤ length s → low_first k (number_at k s at) ≡ take k (drop at s)
unfolding number_at low_first
digits-written zero s at b h = refl
digits-written (suc k) s at b h =
    let first : get_or s at 0 < 256 = b at (omega arith) in
    rw (drop-cons s at 0 (omega arith))
    (ap₂ {C = List ℕ} (λ (x : ℕ) (l : List ℕ). x ∷ l) (omega arith)
    (ap (low_first k) (omega arith) ∙ digits-written k s (at + 1) b (omega arith) ∙ rw add-one))

-- a number with bytes before and after it
pub digits_between : (k x : ℕ) (p rest : List ℕ) → x < 256 ^ k → number_at k (p ++ (low_first k x ++ rest)) (length p + 0) ≡ x
digits_between k x p rest h = number_behind k p (low_first k x ++ rest) 0 ∙ digits-read k x rest h

-- one byte; and a number in two parts
pub number-one : (s : List ℕ) (at : ℕ) → number_at 1 s at ≡ get_or s at 0
unfolding number_at
number-one s at = omega arith

regroup : (g a p b : ℕ) → g + 256 * (a + p * b) ≡ g + 256 * a + p * 256 * b
regroup g a p b = simp (mul-add, add_assoc, mul_assoc, mul_left_comm 256 p b)

pub number-parts : (k m : ℕ) (s : List ℕ) (at : ℕ) → number_at (k + m) s at ≡ number_at k s at + 256 ^ k * number_at m s (at + k)
unfolding number_at
number-parts zero m s at = rw (zero-add m, add-zero at) (omega arith)
number-parts (suc k) m s at =
    rw (suc-add k m)
    (ap (λ (n : ℕ). get_or s at 0 + 256 * n) (number-parts k m s (at + 1))
    ∙ regroup (get_or s at 0) (number_at k s (at + 1)) (256 ^ k) (number_at m s (at + 1 + k))
    ∙ ap₂ (λ (p n : ℕ). get_or s at 0 + 256 * number_at k s (at + 1) + p * number_at m s n) (sym (pow-suc 256 k)) (omega arith))
