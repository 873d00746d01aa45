-- What it means that a range of bytes, or a command, is in range, part by part.
-- Assumes nothing.
use mathlib.Core.Path.{◌≡◌, refl, sym}
use mathlib.Core.Bool.{Bool, true, false, ◌&&◌, ◌||◌}
use Prim.Native.Nat.{ℕ, zero, suc, ◌*◌, ◌-◌, ◌/◌, ◌%◌, ◌^◌, ◌≤◌, ◌<◌}
use native.Mathlib.Nat.{mul-le-mul}
use native.Mathlib.Omega.{arith}
use borrow.Author.Tests.{leb-true, eqb-true}
use lib.Dec.{eqb, leb}
use Rattle.bundle.specs.Commands.{size_ok, stride_ok, last_byte, range_ok, code_of, widths_of, fit_widths, operands_ok, in_range}
use Rattle.bundle.specs.declared.command.Range.{Range}
use Rattle.bundle.specs.declared.command.Command.{Command}
use Rattle.bundle.proofs.Tests.{and_left, and_right, is_false}
use Rattle.bundle.proofs.Operands.{Fits}

pub record RangeParts (r : Range) : Type 0 where
  pub counted : 1 ≤ r.count
  pub strided : stride_ok r.stride r.count ≡ true
  pub sized : size_ok r.size ≡ true
  pub last : last_byte r ≤ 4294967295

pub range-parts : (r : Range) → range_ok r ≡ true → RangeParts r
unfolding range_ok
range-parts r e =
    let a : Bool = leb 1 r.count in
    let b : Bool = stride_ok r.stride r.count in
    let c : Bool = size_ok r.size in
    let d : Bool = leb (last_byte r) 4294967295 in
    let e₃ : a && b && c ≡ true = and_left (a && b && c) d e in
    let e₂ : a && b ≡ true = and_left (a && b) c e₃ in
    record {
      counted = leb-true 1 r.count (and_left a b e₂);
      strided = and_right a b e₂;
      sized = and_right (a && b) c e₃;
      last = leb-true (last_byte r) 4294967295 (and_right (a && b && c) d e);
    }

-- a size is 1, 2, 4 or 8
pub size-within : (z : ℕ) → size_ok z ≡ true → (1 ≤ z) × (z ≤ 8)
unfolding size_ok
size-within z e = go (eqb z 1) (eqb z 2) (eqb z 4) (eqb z 8) (eqb-true z 1) (eqb-true z 2) (eqb-true z 4) (eqb-true z 8) e
  where
    go : (a b c d : Bool) → (a ≡ true → z ≡ 1) → (b ≡ true → z ≡ 2) → (c ≡ true → z ≡ 4) → (d ≡ true → z ≡ 8)
        → a || b || c || d ≡ true → (1 ≤ z) × (z ≤ 8)
    go true b c d f g h k e = omega (arith, f refl)
    go false true c d f g h k e = omega (arith, g refl)
    go false false true d f g h k e = omega (arith, h refl)
    go false false false d f g h k e = omega (arith, k e)

pub size-beyond : (z : ℕ) → 8 < z → false ≡ size_ok z
size-beyond z h = sym (is_false _ (λ e. omega (arith, (size-within z e).1)))

-- the sizes as bits of a number
pub size-bits : (z : ℕ) → z ≤ 8 → eqb (0x116 / 2 ^ z % 2) 1 ≡ size_ok z
unfolding size_ok
size-bits zero h = refl
size-bits (suc zero) h = refl
size-bits (suc (suc zero)) h = refl
size-bits (suc (suc (suc zero))) h = refl
size-bits (suc (suc (suc (suc zero)))) h = refl
size-bits (suc (suc (suc (suc (suc zero))))) h = refl
size-bits (suc (suc (suc (suc (suc (suc zero)))))) h = refl
size-bits (suc (suc (suc (suc (suc (suc (suc zero))))))) h = refl
size-bits (suc (suc (suc (suc (suc (suc (suc (suc zero)))))))) h = refl
size-bits (suc (suc (suc (suc (suc (suc (suc (suc (suc z))))))))) h = absurd (omega arith)

-- at the numbers of the code
pub steps-fit : (n t : ℕ) → n < 65536 → t < 65536 → (n - 1) * t < 4294967296
steps-fit n t hn ht =
    let hn' : n - 1 ≤ 65535 = omega arith in
    let ht' : t ≤ 65535 = omega arith in
    let h : (n - 1) * t ≤ 65535 * 65535 = mul-le-mul hn' ht' in
    omega arith

-- a command is in range where its operands fit their widths and the ranges say so
abbrev Fitting : Command → Type 0
Fitting c = Fits (widths_of (code_of c).byte) (code_of c).operands

pub ranges-decide : (c : Command) → Fitting c → operands_ok c ≡ in_range c
unfolding in_range
ranges-decide c f = sym (rw f.eq)

pub in-range-fits : (c : Command) → in_range c ≡ true → Fitting c
unfolding in_range
in-range-fits c e = record { eq = and_left (fit_widths (widths_of (code_of c).byte) (code_of c).operands) (operands_ok c) e }

pub in-range-ok : (c : Command) → in_range c ≡ true → operands_ok c ≡ true
unfolding in_range
in-range-ok c e = and_right (fit_widths (widths_of (code_of c).byte) (code_of c).operands) (operands_ok c) e
