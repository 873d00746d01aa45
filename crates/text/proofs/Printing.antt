-- A line put at a position, and what each `return` answers. Assumes nothing.
use mathlib.Core.Path.{◌≡◌, ap, ◌∙◌}
use mathlib.Core.List.{List}
use Prim.Native.Nat.{ℕ, ◌+◌, ◌-◌, ◌≤◌, ◌<◌}
use lib.ListN.{length}
use borrow.Author.Tests.{le-leb, lt-leb}
use Rattle.bundle.specs.Answer.{gives, refuses}
use Rattle.bundle.specs.Commands.{Lent, written}
use Rattle.text.specs.Lines.{printed_at}

pub print-no-room : (line s : List ℕ) (at : ℕ) → length s - at < length line → printed_at line s at ≡ record { answer = refuses 17 at; buffer = s }
unfolding printed_at
print-no-room line s at h = rw (lt-leb (length line) (length s - at) h)

pub print-written : (line s new : List ℕ) (at : ℕ) → length line ≤ length s - at → new ≡ written s at line
    → printed_at line s at ≡ record { answer = gives (at + length line); buffer = new }
unfolding printed_at
print-written line s new at h e = rw (le-leb (length line) (length s - at) h, e)

-- a line put, said otherwise
pub printed-as : {a b : List ℕ} (s : List ℕ) (at : ℕ) {x : Lent ℕ} → a ≡ b → printed_at b s at ≡ x → printed_at a s at ≡ x
printed-as s at e p = ap (λ (l : List ℕ). printed_at l s at) e ∙ p
