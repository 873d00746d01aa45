-- How many digits a number has in a base: `width_of` by its two cases, and that it is the least width that holds the number.
-- Assumes nothing.
use mathlib.Core.Path.{◌≡◌, refl, sym, ap, ◌∙◌}
use mathlib.Core.Bool.{Bool, true, false}
use mathlib.Core.List.{[], ◌∷◌}
use Prim.Native.Nat.{ℕ, zero, suc, ◌+◌, ◌-◌, ◌*◌, ◌/◌, ◌^◌, ◌≤◌, ◌<◌}
use native.Mathlib.Nat.{div-lt_self, div-lt_iff_lt-mul, le-div_iff_mul-le, mul-le-mul, pow-le-pow_right, pow-zero, pow-suc, one-mul}
use native.Mathlib.Decide.{dec_lt}
use native.Mathlib.Omega.{arith}
use borrow.Author.Tests.{lt-ltb, le-ltb, lt-leb, le-leb}
use lib.Dec.{leb}
use lib.ListN.{length, get_or}
use mir.Val.{bool_byte}
use Rattle.text.specs.Digits.{digits, width_within, width_of}
use Rattle.text.specs.Inner.{Width}

-- digits are as many as their width says
pub length_digits : (base k n : ℕ) → length (digits base k n) ≡ k
unfolding digits
length_digits base zero n = refl
length_digits base (suc k) n = ap suc (length_digits base k n)

module _ (base : ℕ) (two : 2 ≤ base) where
  smaller : (n : ℕ) → base ≤ n → n / base < n
  smaller n h = div-lt_self (omega arith) (omega arith)

  -- the two cases, within a limit
  within_below : (f n : ℕ) → n < base → width_within f base n ≡ 1
  unfolding width_within
  within_below zero n h = refl
  within_below (suc f) n h = rw (lt-ltb n base h, width_within)

  within_more : (f n : ℕ) → base ≤ n → width_within (suc f) base n ≡ suc (width_within f base (n / base))
  unfolding width_within
  within_more f n h = rw (le-ltb n base h, width_within)

  -- a larger limit changes nothing
  limit-enough : (f g n : ℕ) → n ≤ f → n ≤ g → width_within f base n ≡ width_within g base n
  limit-enough zero g n h k = within_below zero n (omega arith) ∙ sym (within_below g n (omega arith))
  limit-enough (suc f) zero n h k = within_below (suc f) n (omega arith) ∙ sym (within_below zero n (omega arith))
  limit-enough (suc f) (suc g) n h k = go (limit-enough f g (n / base)) (dec_lt n base)
    where
      go : (n / base ≤ f → n / base ≤ g → width_within f base (n / base) ≡ width_within g base (n / base)) → Dec (n < base)
          → width_within (suc f) base n ≡ width_within (suc g) base n
      go more (yes l) = within_below (suc f) n l ∙ sym (within_below (suc g) n l)
      go more (no l) =
          let high : base ≤ n = omega arith in
          within_more f n high
          ∙ ap suc (more (omega (arith, smaller n high)) (omega (arith, smaller n high)))
          ∙ sym (within_more g n high)

  -- a number below the base has one digit, any other one more than its quotient
  pub width-below : (n : ℕ) → n < base → width_of base n ≡ 1
  unfolding width_of
  width-below n h = within_below n n h

  pub width-more : (n : ℕ) → base ≤ n → width_of base n ≡ suc (width_of base (n / base))
  unfolding width_of
  width-more zero h = absurd (omega arith)
  width-more (suc n) h =
      within_more n (suc n) h
      ∙ ap suc (limit-enough n (suc n / base) (suc n / base) (omega (arith, smaller (suc n) h)) (omega arith))

  pub width_some : (n : ℕ) → 1 ≤ width_of base n
  width_some n = go (dec_lt n base)
    where
      go : Dec (n < base) → 1 ≤ width_of base n
      go (yes h) = omega (arith, width-below n h)
      go (no h) = omega (arith, width-more n (omega arith))

  one-digit : base ^ 1 ≡ base
  one-digit = pow-suc base 0 ∙ ap (λ (k : ℕ). k * base) (pow-zero base) ∙ one-mul base

  -- a number has at most the digits of any width that holds it
  pub width-most : (k n : ℕ) → n < base ^ suc k → width_of base n ≤ suc k
  width-most zero n h = omega (arith, width-below n (rw one-digit at h))
  width-most (suc k) n h = go (width-most k (n / base)) (dec_lt n base)
    where
      go : (n / base < base ^ suc k → width_of base (n / base) ≤ suc k) → Dec (n < base) → width_of base n ≤ suc (suc k)
      go more (yes l) = omega (arith, width-below n l)
      go more (no l) =
          omega (arith, width-more n (omega arith), more ((div-lt_iff_lt-mul (omega arith)).1 (rw (pow-suc base (suc k)) at h)))

  -- and its own width holds it
  fits-within : (f n : ℕ) → n ≤ f → n < base ^ width_within f base n
  fits-within zero n h = rw (within_below zero n (omega arith), one-digit) (omega arith)
  fits-within (suc f) n h = go (fits-within f (n / base)) (dec_lt n base)
    where
      go : (n / base ≤ f → n / base < base ^ width_within f base (n / base)) → Dec (n < base) → n < base ^ width_within (suc f) base n
      go more (yes l) = rw (within_below (suc f) n l, one-digit) l
      go more (no l) =
          let high : base ≤ n = omega arith in
          rw (within_more f n high, pow-suc base (width_within f base (n / base)))
          ((div-lt_iff_lt-mul {k = base} (omega arith)).0 (more (omega (arith, smaller n high))))

  pub width_fits : (n : ℕ) → n < base ^ width_of base n
  unfolding width_of
  width_fits n = fits-within n n (omega arith)

  -- one digit less would not
  least-within : (f n k : ℕ) → n ≤ f → 1 ≤ n → width_within f base n ≡ suc k → base ^ k ≤ n
  least-within f n zero h some e = omega (arith, pow-zero base)
  least-within zero n (suc k) h some e = absurd (omega arith)
  least-within (suc f) n (suc k) h some e = go (least-within f (n / base) k) (dec_lt n base)
    where
      go : (n / base ≤ f → 1 ≤ n / base → width_within f base (n / base) ≡ suc k → base ^ k ≤ n / base) → Dec (n < base) → base ^ suc k ≤ n
      go more (yes l) = absurd (omega (arith, e, within_below (suc f) n l))
      go more (no l) =
          let high : base ≤ n = omega arith in
          let some : 1 ≤ n / base = (le-div_iff_mul-le {k = base} (omega arith)).1 (rw (one-mul base) high) in
          rw (pow-suc base k)
          ((le-div_iff_mul-le {k = base} (omega arith)).0 (more (omega (arith, smaller n high)) some (omega (arith, e, within_more f n high))))

  pub width-least : (n k : ℕ) → 1 ≤ n → width_of base n ≡ suc k → base ^ k ≤ n
  unfolding width_of
  width-least n k some e = least-within n n k (omega arith) some e

-- the numbers of 16 bits, in decimal
pub positive : (k : ℕ) → 0 < 10 ^ k
positive zero = omega (arith, pow-zero 10)
positive (suc k) = omega (arith, positive k, pow-suc 10 k)

pub two : 2 ≤ 10
two = omega arith

tens : (n k : ℕ) → 10 ≤ n → width_of 10 (n / 10) ≡ k → width_of 10 n ≡ suc k
tens n k h e = width-more 10 two n h ∙ ap suc e

has-two : (n : ℕ) → 10 ≤ n → n < 100 → width_of 10 n ≡ 2
has-two n l h = tens n 1 l (width-below 10 two (n / 10) (omega arith))

has-three : (n : ℕ) → 100 ≤ n → n < 1000 → width_of 10 n ≡ 3
has-three n l h = tens n 2 (omega arith) (has-two (n / 10) (omega arith) (omega arith))

has-four : (n : ℕ) → 1000 ≤ n → n < 10000 → width_of 10 n ≡ 4
has-four n l h = tens n 3 (omega arith) (has-three (n / 10) (omega arith) (omega arith))

has-five : (n : ℕ) → 10000 ≤ n → n < 100000 → width_of 10 n ≡ 5
has-five n l h = tens n 4 (omega arith) (has-four (n / 10) (omega arith) (omega arith))

pub at_most_one : (t : Bool) → bool_byte t ≤ 1
at_most_one true = omega arith
at_most_one false = omega arith

-- counted by tests
abbrev tested : ℕ → ℕ
tested n = 1 + bool_byte (leb 10 n) + bool_byte (leb 100 n) + bool_byte (leb 1000 n) + bool_byte (leb 10000 n)

short-exact : (n : ℕ) → n < 100000 → tested n ≡ width_of 10 n
short-exact n room = go (dec_lt n 10) (dec_lt n 100) (dec_lt n 1000) (dec_lt n 10000)
  where
    go : Dec (n < 10) → Dec (n < 100) → Dec (n < 1000) → Dec (n < 10000) → tested n ≡ width_of 10 n
    go (yes a) b c d =
        rw (lt-leb 10 n (omega arith), lt-leb 100 n (omega arith), lt-leb 1000 n (omega arith), lt-leb 10000 n (omega arith))
        (sym (width-below 10 two n a))
    go (no a) (yes b) c d =
        rw (le-leb 10 n (omega arith), lt-leb 100 n (omega arith), lt-leb 1000 n (omega arith), lt-leb 10000 n (omega arith))
        (sym (has-two n (omega arith) b))
    go (no a) (no b) (yes c) d =
        rw (le-leb 10 n (omega arith), le-leb 100 n (omega arith), lt-leb 1000 n (omega arith), lt-leb 10000 n (omega arith))
        (sym (has-three n (omega arith) c))
    go (no a) (no b) (no c) (yes d) =
        rw (le-leb 10 n (omega arith), le-leb 100 n (omega arith), le-leb 1000 n (omega arith), lt-leb 10000 n (omega arith))
        (sym (has-four n (omega arith) d))
    go (no a) (no b) (no c) (no d) =
        rw (le-leb 10 n (omega arith), le-leb 100 n (omega arith), le-leb 1000 n (omega arith), le-leb 10000 n (omega arith))
        (sym (has-five n (omega arith) room))

pub short-width : (n : ℕ) → n < 100000 → Width n (tested n) 5
short-width n room =
    let e : tested n ≡ width_of 10 n = short-exact n room in
    record {
      exact = e;
      some = omega (arith, e, width_some 10 two n);
      small = omega (arith, e, width-most 10 two 4 n (omega arith));
    }

-- a number of 64 bits has at most 20 digits
pub long-width : (n r : ℕ) → n < 18446744073709551616 → r ≡ width_of 10 n → Width n r 20
long-width n r room e =
    record { exact = e; some = omega (arith, width_some 10 two n); small = omega (arith, width-most 10 two 19 n (omega arith)) }

pub long-below : (n : ℕ) → n < 10 → Width n 1 20
long-below n h = record { exact = sym (width-below 10 two n h); some = omega arith; small = omega arith }

pub long-more : (n r : ℕ) → n < 18446744073709551616 → 10 ≤ n → Width (n / 10) r 20 → Width n (1 + r) 20
long-more n r room h w = long-width n (1 + r) room (omega (arith, w.exact, width-more 10 two n h))

-- the power of ten that takes a number of a width to five digits
pub scaled : (w : ℕ) → 1 ≤ w → w ≤ 5 → get_or (0 ∷ 10000 ∷ 1000 ∷ 100 ∷ 10 ∷ 1 ∷ []) w 0 ≡ 10 ^ (5 - w)
scaled zero l h = absurd (omega arith)
scaled (suc zero) l h = refl
scaled (suc (suc zero)) l h = refl
scaled (suc (suc (suc zero))) l h = refl
scaled (suc (suc (suc (suc zero)))) l h = refl
scaled (suc (suc (suc (suc (suc zero))))) l h = refl
scaled (suc (suc (suc (suc (suc (suc w)))))) l h = absurd (omega arith)

pub scaled_fits : (n w r : ℕ) → n < 65536 → 1 ≤ w → r ≡ 10 ^ (5 - w) → n * r < 4294967296
scaled_fits n w r room some e =
    omega (
      arith,
      mul-le-mul {n₁ = n} {m₁ = r} {n₂ = 65535} {m₂ = 10000} (omega arith)
          (rw e (pow-le-pow_right {n = 10} (omega arith) {i = 5 - w} {j = 4} (omega arith))),
    )
