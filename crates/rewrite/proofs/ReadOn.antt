-- Reading an accepted bundle command by command: each leaves fewer bytes, and only its end is refused.
use Prim.Native.Nat.{ℕ, ◌-◌, ◌≤◌, ◌<◌}
use mathlib.Core.Path.{◌≡◌}
use mathlib.Core.Logic.{◌⊎◌, inl, inr}
use mathlib.Core.Bool.{true, false}
use mathlib.Core.List.{List, []}
use native.Mathlib.Omega.{arith}
use lib.ListN.{length}
use lib.Dec.{leb}
use borrow.Author.Tests.{leb-true, leb-false}
use Rattle.bundle.specs.Answer.{gives, refuses}
use Rattle.bundle.specs.Commands.{read_at}
use Rattle.bundle.specs.Chunks.{Placed}
use Rattle.bundle.specs.declared.command.Command.{Command}
use Rattle.bundle.proofs.Tests.{decide}
use Rattle.bundle.proofs.Decoding.{read_next}
use Rattle.bundle.proofs.Onward.{Onward, onward-read, onward-end}

pub fewer-bytes : (s : List ℕ) (at : ℕ) {next : ℕ} {c : Command} → read_at s at ≡ gives (record { command = c; next = next }) → length s - next < length s - at
fewer-bytes s at {next} {c} e = let n = read_next s at (record { command = c; next = next }) e in omega (arith, n.0, n.1)

pub onward-stops : (s : List ℕ) (at : ℕ) {n p : ℕ} {ps : List Placed} → Onward s at ps → read_at s at ≡ refuses n p → ps ≡ []
onward-stops s at o e = onward-end s at o (go (decide (leb (length s) at)))
  where
    go : (leb (length s) at ≡ true) ⊎ (leb (length s) at ≡ false) → length s ≤ at
    go (inl l) = leb-true (length s) at l
    go (inr l) = let h = leb-false (length s) at l in absurd (onward-read s at _ _ o (omega arith) e)
