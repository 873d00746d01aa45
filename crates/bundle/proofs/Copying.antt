-- Putting a command: its bytes copied into the buffer, and what each `return` answers.
-- Assumes nothing.
use mathlib.Core.Path.{◌≡◌, refl, sym, ap, ◌∙◌}
use mathlib.Core.Bool.{true, false}
use mathlib.Core.List.{List}
use Prim.Native.Nat.{ℕ, ◌+◌, ◌-◌, ◌≤◌, ◌<◌}
use native.Mathlib.Numerals.{add-one}
use native.Mathlib.Omega.{arith}
use borrow.Author.Tests.{lt-leb, le-leb}
use lib.ListN.{length, get_or, set, take}
use lib.Seq.{take-length}
use borrow.Rule.Slice.PartMut.{put_mid}
use Rattle.std.proofs.lemmas.Slice.{put_mid-paste}
use Rattle.bundle.specs.Answer.{gives, refuses}
use Rattle.bundle.specs.Commands.{bytes_of, in_range, written, put_at}
use Rattle.bundle.specs.Inner.{Holds}
use Rattle.bundle.specs.declared.command.Command.{Command}
use Rattle.bundle.specs.declared.command.Encoded.{Encoded}
use Rattle.bundle.proofs.RoundTrip.{bytes-some}

pub copied : (old bytes : List ℕ) {new : List ℕ} (at : ℕ) → new ≡ bytes → put_mid at (at + length bytes - at) old new ≡ written old at bytes
unfolding written
copied old bytes {new} at e = put_mid-paste at (at + length bytes - at) old new bytes (length bytes) e (omega arith) refl ∙ rw (take-length bytes)

-- what putting answers
pub put-out-of-range : (c : Command) (s : List ℕ) (at : ℕ) → in_range c ≡ false → put_at c s at ≡ record { answer = refuses 5 at; buffer = s }
unfolding put_at
put-out-of-range c s at r = rw r

module _ (c : Command) {e : Encoded} (holds : Holds e (bytes_of c)) where
  pub encoded-length : 1 ≤ e.length
  encoded-length = omega (arith, holds.long, bytes-some c)

  pub encoded-prefix : e.length ≡ length (take e.length e.bytes)
  encoded-prefix = holds.long ∙ sym (ap length holds.prefix)

  pub room : (n at : ℕ) → e.length ≤ n - at → at + e.length ≤ n
  room n at f = omega (arith, encoded-length, f)

  pub put-no-room : (s : List ℕ) (at : ℕ) → in_range c ≡ true → length s - at < e.length
      → put_at c s at ≡ record { answer = refuses 17 at; buffer = s }
  unfolding put_at
  put-no-room s at r f = rw (r, ← holds.long, lt-leb e.length (length s - at) f)

  pub put_written : (s new : List ℕ) (at : ℕ) → in_range c ≡ true → e.length ≤ length s - at
      → new ≡ written s at (take e.length e.bytes) → put_at c s at ≡ record { answer = gives (at + e.length); buffer = new }
  unfolding put_at
  put_written s new at r f w = rw (r, ← holds.long, le-leb e.length (length s - at) f, w, holds.prefix)
