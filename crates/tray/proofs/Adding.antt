-- A line with a space for its end, behind other bytes; and a line in a buffer. Assumes nothing.
use mathlib.Core.Path.{◌≡◌, refl, ap, subst, ◌∙◌}
use mathlib.Core.List.{List, ◌++◌, append_assoc}
use Prim.Native.Nat.{ℕ, ◌+◌, ◌-◌, ◌≤◌}
use native.Mathlib.Omega.{arith}
use lib.ListN.{length, take, length-append}
use lib.Seq.{take-append-add}
use Rattle.bundle.specs.Answer.{Answer, gives, refuses}
use Rattle.bundle.proofs.Fitting.{Fits}
use Rattle.text.specs.Digits.{ascii}
use Rattle.text.specs.Lines.{printed_at}
use Rattle.text.proofs.LineEnds.{IsLine, line-some}
use Rattle.text.proofs.LineFits.{fits-printed}
use Rattle.tray.specs.Texts.{spaced}
use Rattle.tray.specs.Inner.{PutWithin}

-- a space in place of the end of a line that was put behind other bytes
pub spaced-behind : (xs : List ℕ) {line ys : List ℕ} → IsLine line → ys ≡ xs ++ line → take (length ys - 1) ys ++ ascii " " ≡ xs ++ spaced line
spaced-behind xs {line} l e =
    let place : length (xs ++ line) - 1 ≡ length xs + (length line - 1) = omega (arith, length-append xs line, line-some l) in
    rw e
    (ap (λ (k : ℕ). take k (xs ++ line) ++ ascii " ") place
    ∙ ap (λ (zs : List ℕ). zs ++ ascii " ") (take-append-add xs line (length line - 1))
    ∙ append_assoc xs (take (length line - 1) line) (ascii " "))

pub behind-some : (xs : List ℕ) {line ys : List ℕ} → IsLine line → ys ≡ xs ++ line → 1 ≤ length ys
behind-some xs {line} l e = omega (arith, ap length e, length-append xs line, line-some l)

-- what was put from position 0 on lies in the buffer
pub put-within : (line s : List ℕ) {t : List ℕ} (a : Answer ℕ) → printed_at line s 0 ≡ record { answer = a; buffer = t } → PutWithin a (length t)
put-within line s (gives next) e = subst Fits e (fits-printed line s) next refl
put-within line s (refuses n p) e = tt
