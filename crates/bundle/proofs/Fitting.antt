-- For callers: what was written lies in the buffer, which stays as long.
use Prim.Native.Nat.{ℕ, ◌+◌, ◌≤◌}
use mathlib.Core.Path.{◌≡◌, ◌∙◌}
use mathlib.Core.List.{List, ◌++◌}
use native.Mathlib.Omega.{arith}
use lib.ListN.{length, take, drop, length-append, length-drop}
use lib.Seq.{length-take-le}
use Rattle.bundle.specs.Answer.{gives, refuses}
use Rattle.bundle.specs.Commands.{Lent, written}

-- the answer is at most the buffer's length
abbrev pub Fits : Lent ℕ → Type 0
Fits l = (size : ℕ) → l.answer ≡ gives size → size ≤ length l.buffer

pub fits_refused : (n p : ℕ) (buffer : List ℕ) → Fits (record { answer = refuses n p; buffer = buffer })
fits_refused n p buffer size e = let z : ◌≡◌ {A = ℕ} 0 1 = cc in absurd (omega arith)

pub fits-written : (buffer bytes : List ℕ) → Fits (record { answer = gives (length bytes); buffer = written buffer 0 bytes })
unfolding written
fits-written buffer bytes size e =
    let q : length bytes ≡ size = cc in
    rw (length-append (take 0 buffer ++ bytes) (drop (0 + length bytes) buffer), length-append (take 0 buffer) bytes) (omega arith)

pub written-length : (buffer : List ℕ) (at : ℕ) (bytes : List ℕ) → at + length bytes ≤ length buffer → length (written buffer at bytes) ≡ length buffer
unfolding written
written-length buffer at bytes h =
    let one = length-append (take at buffer ++ bytes) (drop (at + length bytes) buffer) in
    let two = length-append (take at buffer) bytes in
    let three = length-take-le at buffer (omega arith) in
    let four = length-drop (at + length bytes) buffer in
    let rest : length (take at buffer ++ bytes) + length (drop (at + length bytes) buffer) ≡ length buffer = omega arith in
    one ∙ rest
