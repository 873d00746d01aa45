-- A file of over 65,536 bytes is refused with 1 at 0, whatever its size, so that no more than 65,537 bytes need be read. Assumes nothing.
use mathlib.Core.Path.{◌≡◌, refl, sym, ap, ◌∙◌}
use mathlib.Core.List.{List}
use Prim.Native.Nat.{ℕ, ◌≤◌, ◌<◌}
use native.Mathlib.Decide.{dec_le}
use native.Mathlib.Omega.{arith}
use borrow.Author.Tests.{lt-ltb}
use lib.ListN.{length, take}
use lib.Seq.{length-take-le, take_all}
use Rattle.bundle.specs.Answer.{refuses}
use Rattle.bundle.specs.Check.{check_of}
use Rattle.verdict.specs.Judge.{judged_of}

pub long-refused : (s : List ℕ) → 65536 < length s → judged_of s ≡ refuses 1 0
unfolding judged_of check_of
long-refused s h = rw (lt-ltb 65536 (length s) h) refl

pub cut-same : (s : List ℕ) → judged_of (take 65537 s) ≡ judged_of s
cut-same s = go (dec_le (length s) 65537)
  where
    go : Dec (length s ≤ 65537) → judged_of (take 65537 s) ≡ judged_of s
    go (yes h) = ap judged_of (take_all 65537 s h)
    go (no h) =
        long-refused (take 65537 s) (omega (arith, length-take-le 65537 s (omega (arith, h))))
        ∙ sym (long-refused s (omega (arith, h)))
