-- Locks as bits of a word of 64: a lock acquired still fits, and one released was there.
use Prim.Native.Nat.{ℕ, ◌+◌, ◌-◌, ◌*◌, ◌/◌, ◌%◌, ◌^◌, ◌≤◌, ◌<◌}
use mathlib.Core.Path.{◌≡◌, sym, ◌∙◌, ap}
use mathlib.Core.Bool.{true, false}
use native.Mathlib.Omega.{arith}
use native.Mathlib.Nat.{one-mul, add-mul, mul-le-mul_right, mod-lt, div-eq_of_lt, lt_of_lt_of_le}
use lib.Pow.{pow_pos, pow_mono, pow-add, shl_exact, shr_lt, split}
use borrow.Author.Tests.{eqb-true, eqb-false}
use Rattle.bundle.specs.Locks.{holds}

-- the code's `1 << lock`
pub one_shifted : (l : ℕ) → l < 64 → 1 * 2 ^ l % 18446744073709551616 ≡ 2 ^ l
one_shifted l h = shl_exact {a = 1} 1 l 64 (omega arith) (omega arith) ∙ one-mul (2 ^ l)

-- no lock above 63 is in a word
pub none_above : (l h : ℕ) → h < 18446744073709551616 → 64 ≤ l → false ≡ holds l h
unfolding holds
none_above l h small high = rw (div-eq_of_lt {n = h} {m = 2 ^ l} (lt_of_lt_of_le small (pow_mono {i = 64} {j = l} high)))

grown : (x p q r n : ℕ) → q * p + r ≡ x → r < p → q + 2 ≤ n → x + p < n * p
grown x p q r n e s h =
    let m = mul-le-mul_right p h in
    let d = add-mul q 2 p in
    omega arith

pub acquired-fits : (l h : ℕ) → l < 64 → h < 18446744073709551616 → holds l h ≡ false → h + 2 ^ l < 18446744073709551616
unfolding holds
acquired-fits l h small word e =
    let p = 2 ^ l in
    let n = 2 ^ (64 - l) in
    let whole : (64 - l) + l ≡ 64 = omega arith in
    let all : n * p ≡ 18446744073709551616 = sym (pow-add 2 (64 - l) l) ∙ ap (λ (k : ℕ). 2 ^ k) whole in
    let below = shr_lt {n = h} (64 - l) l (rw whole word) in
    let even : n ≡ 2 ^ (63 - l) * 2 = ap (λ (k : ℕ). 2 ^ k) (split_one l small) ∙ pow-add 2 (63 - l) 1 in
    let unset = eqb-false (h / p % 2) 1 e in
    let g = grown h p (h / p) (h % p) n (split h l) (mod-lt h (pow_pos l)) (two-more (h / p) n (2 ^ (63 - l)) even below unset) in
    rw all at g
  where
    split_one : (k : ℕ) → k < 64 → 64 - k ≡ 63 - k + 1
    split_one k s = omega arith

    two-more : (q n m : ℕ) → n ≡ m * 2 → q < n → (q % 2 ≡ 1 → ⊥) → q + 2 ≤ n
    two-more q n m d b u = omega arith

pub released-there : (l h : ℕ) → holds l h ≡ true → 2 ^ l ≤ h
unfolding holds
released-there l h e =
    let p = 2 ^ l in
    let q = h / p in
    let set = eqb-true (q % 2) 1 e in
    let some : 1 ≤ q = omega arith in
    let m = mul-le-mul_right p some in
    omega (arith, split h l, one-mul p)
