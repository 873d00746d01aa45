-- The bits of a word: of two words joined, of a power of 2, and of a word that is filled with tests bit by bit.
use Prim.Native.Nat.{ℕ, zero, suc, ◌+◌, ◌-◌, ◌*◌, ◌/◌, ◌%◌, ◌^◌, ◌≤◌, ◌<◌, max}
use mathlib.Core.Path.{◌≡◌, sym, ◌∙◌, ap}
use mathlib.Core.Bool.{Bool, true, false, ◌||◌, or-false}
use native.Mathlib.Nat.{zero-mul, one-mul, zero-div, div-eq_of_lt, mul-mod_left}
use native.Mathlib.Decide.{dec_lt}
use native.Mathlib.Omega.{arith}
use lib.Arith.{digits_mod}
use lib.Bits.{bit_or, or_step, or_shr}
use lib.Dec.{eqb}
use lib.Pow.{pow-lt, pow-add, shl_exact, shl-shr}
use mir.Val.{bool_byte}
use borrow.Author.Count.{below_more}
use Rattle.verdict.specs.Matrix.{TestWord}

-- a bit of a word
abbrev pub bit_of : ℕ → ℕ → Bool
bit_of x k = eqb (x / 2 ^ k % 2) 1

pub bit-or : (a b k : ℕ) → bit_of (bit_or a b) k ≡ (bit_of a k || bit_of b k)
bit-or a b k = go (a / 2 ^ k % 2) (b / 2 ^ k % 2) (omega arith) (omega arith) larger
  where
    larger : bit_or a b / 2 ^ k % 2 ≡ max (a / 2 ^ k % 2) (b / 2 ^ k % 2)
    larger =
        ap (λ (n : ℕ). n % 2) (or_shr a b k ∙ or_step (a / 2 ^ k) (b / 2 ^ k))
        ∙ digits_mod (bit_or (a / 2 ^ k / 2) (b / 2 ^ k / 2)) (omega arith)

    go : (x y : ℕ) → x < 2 → y < 2 → bit_or a b / 2 ^ k % 2 ≡ max x y → bit_of (bit_or a b) k ≡ (eqb x 1 || eqb y 1)
    go zero zero h l e = rw e
    go zero (suc zero) h l e = rw e
    go (suc zero) zero h l e = rw e
    go (suc zero) (suc zero) h l e = rw e
    go (suc (suc x)) y h l e = absurd (omega arith)
    go zero (suc (suc y)) h l e = absurd (omega arith)
    go (suc zero) (suc (suc y)) h l e = absurd (omega arith)

-- the code's `1 << k`
pub one_shifted : (k : ℕ) → k < 32 → 1 * 2 ^ k % 4294967296 ≡ 2 ^ k
one_shifted k h = shl_exact {a = 1} 1 k 32 (omega arith) (omega arith) ∙ one-mul (2 ^ k)

pub bit-itself : (k : ℕ) → bit_of (2 ^ k) k ≡ true
bit-itself k =
    let e : 2 ^ k / 2 ^ k ≡ 1 = ap (λ (n : ℕ). n / 2 ^ k) (sym (one-mul (2 ^ k))) ∙ shl-shr 1 k in
    rw e

pub bit-other : (k l : ℕ) → (l ≡ k → ⊥) → bit_of (2 ^ k) l ≡ false
bit-other k l ne = go (dec_lt k l)
  where
    higher : (d : ℕ) → k ≡ d + 1 + l → bit_of (2 ^ k) l ≡ false
    higher d q = rw (q, pow-add 2 (d + 1) l, shl-shr, pow-add 2 d 1, mul-mod_left)

    go : Dec (k < l) → bit_of (2 ^ k) l ≡ false
    go (yes h) = rw (div-eq_of_lt {n = 2 ^ k} {m = 2 ^ l} (pow-lt h))
    go (no g) = higher (k - l - 1) (omega arith)

-- a test as the bit of column k, and the code's shift of it
module _ (k : ℕ) where
  shifted : (t : Bool) → k < 32 → bool_byte t * 2 ^ k % 4294967296 ≡ bool_byte t * 2 ^ k
  shifted true h = shl_exact {a = 1} 1 k 32 (omega arith) (omega arith)
  shifted false h = shl_exact {a = 0} 0 k 32 (omega arith) (omega arith)

  no-bit : (l : ℕ) → bit_of (bool_byte false * 2 ^ k) l ≡ false
  no-bit l = rw (zero-mul, zero-div)

  test-here : (t : Bool) → bit_of (bool_byte t * 2 ^ k) k ≡ t
  test-here true = rw one-mul (bit-itself k)
  test-here false = no-bit k

  test-other : (t : Bool) (l : ℕ) → (l ≡ k → ⊥) → bit_of (bool_byte t * 2 ^ k) l ≡ false
  test-other true l ne = rw one-mul (bit-other k l ne)
  test-other false l ne = no-bit l

-- the lowest k bits of a word are the tests of the columns from `first` on, the others are not set
pub record BitsTo (test : ℕ → Bool) (first word k : ℕ) : Type 0 where
  pub done : (l : ℕ) → l < k → bit_of word l ≡ test (first + l)
  pub rest : (l : ℕ) → k ≤ l → bit_of word l ≡ false

pub bits_none : (test : ℕ → Bool) (first : ℕ) → BitsTo test first 0 0
bits_none test first = record { done = λ l h. absurd (omega arith); rest = λ l h. rw zero-div }

pub bits-more :
    {test : ℕ → Bool} {first word k : ℕ} (t : Bool)
    → BitsTo test first word k
    → k < 32
    → t ≡ test (first + k)
    → BitsTo test first (bit_or word (bool_byte t * 2 ^ k % 4294967296)) (k + 1)
bits-more {test} {first} {word} {k} t b h e =
    rw (shifted k t h)
    record {
      done =
          below_more (λ (l : ℕ). bit_of (bit_or word x) l ≡ test (first + l)) k
          (λ l a. bit-or word x l ∙ rw (b.done l a, test-other k t l (λ q. omega arith), or-false))
          (bit-or word x k ∙ rw (b.rest k (omega arith), test-here k t) e);
      rest = λ l a. bit-or word x l ∙ rw (b.rest l (omega arith)) (test-other k t l (λ q. omega arith));
    }
  where
    x : ℕ
    x = bool_byte t * 2 ^ k

pub bits-all : {test : ℕ → Bool} {first word k : ℕ} → 32 ≤ k → BitsTo test first word k → TestWord test first word
bits-all h b = record { bits = λ l a. b.done l (omega arith) }
