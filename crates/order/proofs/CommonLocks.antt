-- Two lock sets have a lock in common exactly when the bits that both have set make a number other than 0.
use Prim.Native.Nat.{ℕ, zero, suc, ◌+◌, ◌/◌, ◌%◌, ◌^◌, ◌<◌, min}
use mathlib.Core.Path.{◌≡◌, ap, ◌∙◌}
use mathlib.Core.Bool.{true, not, ◌&&◌}
use native.Mathlib.Nat.{zero-div, div-one}
use native.Mathlib.Decide.{ℕ_discrete}
use native.Mathlib.Numerals.{add-one}
use native.Mathlib.Omega.{arith}
use lib.Arith.{digits_mod}
use lib.Bits.{bit_and, and_step, and_shr, and_le_l}
use lib.Pow.{shr-shr, shr_lt}
use lib.Dec.{eqb}
use borrow.Author.Tests.{eqb-true, eq-eqb, ne_eqb}
use Rattle.bundle.specs.Lists.{up_to, any}
use Rattle.bundle.specs.Locks.{holds, common_lock}
use Rattle.bundle.proofs.Tests.{both, and_left, and_right, same_test, false_of_not, not_of_false, not-both}
use Rattle.bundle.proofs.ListLaws.{any-elim, any-intro, up_to-elim, up_to-intro}

-- a bit of what both have set
bit-of-both : (a b k : ℕ) → bit_and a b / 2 ^ k % 2 ≡ min (a / 2 ^ k % 2) (b / 2 ^ k % 2)
bit-of-both a b k =
    ap (λ (n : ℕ). n % 2) (and_shr a b k ∙ and_step (a / 2 ^ k) (b / 2 ^ k))
    ∙ digits_mod (bit_and (a / 2 ^ k / 2) (b / 2 ^ k / 2)) (omega arith)

-- a number other than 0 has a bit that is set
record SetBit (n k : ℕ) : Type 0 where
  pub bit : ℕ
  pub below : bit < k
  pub set : n / 2 ^ bit % 2 ≡ 1

set-bit : (k n : ℕ) → n < 2 ^ k → (n ≡ 0 → ⊥) → SetBit n k
set-bit zero n h ne = absurd (ne (omega arith))
set-bit (suc k) n h ne = go (set-bit k (n / 2) (shr_lt k 1 (rw add-one h))) (ℕ_discrete (n % 2) 1)
  where
    go : ((n / 2 ≡ 0 → ⊥) → SetBit (n / 2) k) → Dec (n % 2 ≡ 1) → SetBit n (suc k)
    go further (yes e) = record { bit = 0; below = omega arith; set = rw div-one e }
    go further (no g) =
        let s = further (λ q. ne (omega arith)) in
        record { bit = 1 + s.bit; below = omega (arith, s.below); set = rw (← shr-shr n 1 s.bit) s.set }

module _ (n a b : ℕ) where
  to-common : (bit_and a b ≡ 0 → ⊥) → a < 2 ^ n → any (λ lock. holds lock a && holds lock b) (up_to n) ≡ true
  unfolding holds
  to-common ne h =
      let s = set-bit n (bit_and a b) (omega (arith, and_le_l a b)) ne in
      let e = bit-of-both a b s.bit in
      any-intro
      (λ lock. holds lock a && holds lock b)
      (up_to-intro n s.below)
      (both
      (eq-eqb (a / 2 ^ s.bit % 2) 1 (omega (arith, s.set)))
      (eq-eqb (b / 2 ^ s.bit % 2) 1 (omega (arith, s.set))))

  of-common : any (λ lock. holds lock a && holds lock b) (up_to n) ≡ true → bit_and a b ≡ 0 → ⊥
  unfolding holds
  of-common t z =
      let p = any-elim (λ lock. holds lock a && holds lock b) (up_to n) t in
      let x = eqb-true (a / 2 ^ p.element % 2) 1 (and_left (holds p.element a) (holds p.element b) p.passes) in
      let y = eqb-true (b / 2 ^ p.element % 2) 1 (and_right (holds p.element a) (holds p.element b) p.passes) in
      let e = bit-of-both a b p.element in
      let w : bit_and a b / 2 ^ p.element % 2 ≡ 0 = rw (z, zero-div) in
      omega arith

-- a lock that both have
pub common-lock-elim : (a b : ℕ) → common_lock a b ≡ true → (lock : ℕ) × (lock < 64) × (holds lock a ≡ true) × (holds lock b ≡ true)
unfolding common_lock
common-lock-elim a b e =
    let f = any-elim (λ l. holds l a && holds l b) (up_to 64) e in
    let l = f.element in
    (l, up_to-elim 64 f.present, and_left (holds l a) (holds l b) f.passes, and_right (holds l a) (holds l b) f.passes)

pub common-bits : (a b : ℕ) → a < 2 ^ 64 → not (eqb (bit_and a b) 0) ≡ common_lock a b
unfolding common_lock
common-bits a b h =
    same_test _ _
    (λ t. to-common 64 a b (λ z. not-both (eq-eqb _ _ z) (false_of_not _ t)) h)
    (λ t. not_of_false (ne_eqb _ _ (of-common 64 a b t)))
