-- Operands of given widths, one behind the other: what `operand_bytes` writes `operands_from` reads, and the other way round, at
-- every list of widths.
-- Assumes nothing.
use mathlib.Core.Path.{◌≡◌, refl, sym, ap, ap₂, ◌∙◌}
use mathlib.Core.Bool.{true}
use mathlib.Core.List.{List, [], ◌∷◌, ◌++◌, append_assoc}
use Prim.Native.Nat.{ℕ, ◌+◌, ◌^◌, ◌≤◌, ◌<◌}
use native.Mathlib.Nat.{add_assoc}
use native.Mathlib.Omega.{arith}
use borrow.Author.Tests.{lt-ltb, ltb-true}
use lib.Dec.{ltb}
use lib.ListN.{length, take, drop, length-append}
use lib.Seq.{take-add, drop-drop}
use Rattle.bundle.specs.Commands.{Bytes, low_first, number_at, sum, operands_from, operand_bytes, fit_widths}
use Rattle.bundle.proofs.Tests.{false-is-true, and_left, and_right}
use Rattle.bundle.proofs.Digits.{length-low_first, number_behind, number-before, digits-written, digits_between}

-- operands that fit their widths, one after the other
pub record Fits (ws xs : List ℕ) : Type 0 where
  pub eq : fit_widths ws xs ≡ true

pub fit_none : Fits [] []
unfolding fit_widths
fit_none = record { eq = refl }

pub fit-one : {w x : ℕ} {ws xs : List ℕ} → x < 256 ^ w → Fits ws xs → Fits (w ∷ ws) (x ∷ xs)
unfolding fit_widths
fit-one {w} {x} h f = record { eq = rw (lt-ltb x (256 ^ w) h, f.eq) }

-- operands before other bytes, and behind them
pub operands-before :
    (s q : List ℕ) (at offset : ℕ) (ws : List ℕ)
    → at + offset + sum ws ≤ length s
    → operands_from (s ++ q) at offset ws ≡ operands_from s at offset ws
unfolding operands_from sum
operands-before s q at offset [] h = refl
operands-before s q at offset (w ∷ ws) h =
    ap₂ {C = List ℕ} (λ (x : ℕ) (xs : List ℕ). x ∷ xs)
    (number-before w s q (at + offset) (omega arith))
    (operands-before s q at (offset + w) ws (omega arith))

pub operands-behind :
    (p s : List ℕ) (at offset : ℕ) (ws : List ℕ) → operands_from (p ++ s) (length p + at) offset ws ≡ operands_from s at offset ws
unfolding operands_from
operands-behind p s at offset [] = refl
operands-behind p s at offset (w ∷ ws) =
    ap₂ {C = List ℕ} (λ (x : ℕ) (xs : List ℕ). x ∷ xs)
    (rw add_assoc (number_behind w p s (at + offset)))
    (operands-behind p s at (offset + w) ws)

-- what is written in these widths is read from them
pub operands-read :
    (ws xs : List ℕ)
    → fit_widths ws xs ≡ true
    → (p : List ℕ) (offset : ℕ)
    → length p ≡ offset
    → operands_from (p ++ operand_bytes ws xs) 0 offset ws ≡ xs
unfolding fit_widths operands_from operand_bytes
operands-read [] [] e p offset l = refl
operands-read [] (x ∷ xs) e p offset l = false-is-true e
operands-read (w ∷ ws) [] e p offset l = false-is-true e
operands-read (w ∷ ws) (x ∷ xs) e p offset l =
    let h : x < 256 ^ w = ltb-true x (256 ^ w) (and_left (ltb x (256 ^ w)) (fit_widths ws xs) e) in
    let rest : List ℕ = operand_bytes ws xs in
    let here : 0 + offset ≡ length p + 0 = omega arith in
    let past : length (p ++ low_first w x) ≡ offset + w = simp (length-append, length-low_first) (omega arith) in
    ap₂ {C = List ℕ} (λ (y : ℕ) (ys : List ℕ). y ∷ ys)
    (ap (number_at w (p ++ (low_first w x ++ rest))) here ∙ digits_between w x p rest h)
    (ap (λ (s : List ℕ). operands_from s 0 (offset + w) ws) (sym (append_assoc p (low_first w x) rest))
    ∙ operands-read ws xs (and_right (ltb x (256 ^ w)) (fit_widths ws xs) e) (p ++ low_first w x) (offset + w) past)

-- what is read from these widths has those bytes
pub operands-written :
    (ws s : List ℕ) (at offset : ℕ)
    → Bytes s
    → at + offset + sum ws ≤ length s
    → operand_bytes ws (operands_from s at offset ws) ≡ take (sum ws) (drop (at + offset) s)
unfolding sum operands_from operand_bytes
operands-written [] s at offset b h = refl
operands-written (w ∷ ws) s at offset b h =
    let last = operands-written ws s at (offset + w) b (omega arith) in
    rw (digits-written w s (at + offset) b (omega arith), last, take-add w (sum ws), drop-drop, add_assoc)

pub length-operands : (ws xs : List ℕ) → fit_widths ws xs ≡ true → length (operand_bytes ws xs) ≡ sum ws
unfolding fit_widths sum operand_bytes
length-operands [] xs e = refl
length-operands (w ∷ ws) [] e = false-is-true e
length-operands (w ∷ ws) (x ∷ xs) e =
    let rest = length-operands ws xs (and_right (ltb x (256 ^ w)) (fit_widths ws xs) e) in
    simp (length-append, length-low_first, rest)
