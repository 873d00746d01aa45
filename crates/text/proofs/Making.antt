-- Making a line: digits written into their room, and of five digits those that count. Assumes nothing.
use mathlib.Core.Path.{◌≡◌, refl, sym, ap, ap₂, ◌∙◌}
use mathlib.Core.List.{List, ◌∷◌, ◌++◌}
use Prim.Native.Nat.{ℕ, zero, suc, ◌+◌, ◌-◌, ◌*◌, ◌/◌, ◌%◌, ◌^◌, ◌≤◌, ◌<◌}
use native.Mathlib.Nat.{suc-add, sub-zero, sub_self, div-one, div-div-eq-div-mul, mul-div-mul_right, pow-zero, pow-suc}
use native.Mathlib.Omega.{arith}
use lib.Pow.{pow-add}
use lib.ListN.{length, take, drop, set, length-set}
use lib.Seq.{drop-length, take-take, take-append-add, length-take-le}
use borrow.Rule.Slice.PartMut.{put_mid}
use Rattle.std.proofs.lemmas.Slice.{take-put_mid}
use Rattle.std.proofs.lemmas.List.{drop-set}
use Rattle.text.specs.Digits.{digit_byte, digits, decimal}
use Rattle.text.specs.Inner.{Width}
use Rattle.text.proofs.Widths.{positive}

-- digits written from the last to the first: those from place `i` on are there
pub record Filled (room : List ℕ) (base number i rest : ℕ) : Type 0 where
  pub left : rest ≡ number / base ^ (length room - i)
  pub done : drop i room ≡ digits base (length room - i) number

pub filled_none : (room : List ℕ) (base number : ℕ) → Filled room base number (length room) number
unfolding digits
filled_none room base number =
    record {
      left = rw (sub_self (length room), pow-zero base) (sym (div-one number));
      done = rw (sub_self (length room)) (drop-length room);
    }

pub filled_more : {room : List ℕ} {base number i rest : ℕ} (d : ℕ) → 0 < i → i ≤ length room → Filled room base number i rest → d ≡ digit_byte (rest % base)
    → Filled (set room (i - 1) d) base number (i - 1) (rest / base)
unfolding digits
filled_more {room} {base} {number} {i} {rest} d some h f e =
    let k : length (set room (i - 1) d) - (i - 1) ≡ suc (length room - i) = omega (arith, length-set room (i - 1) d) in
    let one : i - 1 + 1 ≡ i = omega arith in
    record {
      left =
          ap (λ (x : ℕ). x / base) f.left
          ∙ div-div-eq-div-mul number (base ^ (length room - i)) base
          ∙ rw (k, pow-suc base (length room - i));
      done =
          drop-set room (i - 1) d (omega arith)
          ∙ rw (one, k) (ap₂ (λ (x : ℕ) (l : List ℕ). x ∷ l) (e ∙ ap (λ (x : ℕ). digit_byte (x % base)) f.left) f.done);
    }

pub filled-all : {room : List ℕ} {base number rest n : ℕ} (i : ℕ) → i ≤ 0 → length room ≡ n → Filled room base number i rest → room ≡ digits base n number
filled-all {room} i h e f =
    let none : i ≡ 0 = omega arith in
    rw (← e) (rw (none, sub-zero (length room)) at f.done)

-- digits of a number at a larger width: the first ones, once zeros are put behind it
pub digits-shifted : (base w j n : ℕ) → 0 < base ^ j → take w (digits base (w + j) (n * base ^ j)) ≡ digits base w n
unfolding digits
digits-shifted base zero j n h = refl
digits-shifted base (suc w) j n h =
    rw (suc-add w j)
    (ap₂ {C = List ℕ} (λ (x : ℕ) (l : List ℕ). digit_byte (x % base) ∷ l)
    (ap (λ (x : ℕ). n * base ^ j / x) (pow-add base w j) ∙ mul-div-mul_right n (base ^ w) h)
    (digits-shifted base w j n h))

-- a number written at five digits, once zeros are put behind it: the first ones are its own
pub short-digits : (n w r : ℕ) → Width n w 5 → r ≡ 10 ^ (5 - w) → take w (digits 10 5 (n * r)) ≡ decimal n
short-digits n w r width e =
    let whole : w + (5 - w) ≡ 5 = omega arith in
    rw (e, ← width.exact) (rw whole at (digits-shifted 10 w (5 - w) n (positive (5 - w))))

-- the first bytes of some that were copied behind the first ones of a line
pub front-pushed : (s xs ys : List ℕ) (at size : ℕ) → at + length xs ≤ length s → size ≤ length xs → ys ≡ xs
    → take (at + size) (put_mid at (at + length xs - at) s ys) ≡ take at s ++ take size xs
front-pushed s xs ys at size room few e =
    sym (take-take (at + size) (at + length xs) (put_mid at (at + length xs - at) s ys) (omega arith))
    ∙ ap (take (at + size)) (take-put_mid at (at + length xs - at) s ys (at + length xs) (omega (arith, ap length e)) (omega arith) ∙ ap (λ (l : List ℕ). take at s ++ l) e)
    ∙ ap (λ (k : ℕ). take (k + size) (take at s ++ xs)) (sym (length-take-le at s (omega arith)))
    ∙ take-append-add (take at s) xs size
