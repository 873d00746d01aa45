-- Round trip: what put writes reads back as the same command, and what read accepts put writes back as the same bytes.
-- Assumes nothing.
use mathlib.Core.Path.{◌≡◌, refl, sym, ap, ◌∙◌}
use mathlib.Core.Bool.{Bool, true, false, cond}
use mathlib.Core.List.{List, [], ◌∷◌, ◌++◌, append_assoc}
use Prim.Native.Nat.{ℕ, suc, ◌+◌, ◌-◌, ◌≤◌, ◌<◌}
use native.Mathlib.Numerals.{add-one}
use native.Mathlib.Omega.{arith}
use borrow.Author.Tests.{leb-true, le-leb, le-ltb}
use lib.Dec.{leb}
use lib.ListN.{length, get_or, take, drop, length-drop, take-append-drop}
use lib.Seq.{length-take-le, drop-cons, take-add}
use Rattle.bundle.specs.Answer.{gives, refuses}
use Rattle.bundle.specs.Commands.{
  Bytes,
  Taken,
  Lent,
  Code,
  code_of,
  width_of,
  widths_of,
  operand_bytes,
  command_at,
  bytes_of,
  fit_widths,
  in_range,
  read_at,
  written,
  put_at,
}
use Rattle.bundle.specs.declared.command.Access.{Access}
use Rattle.bundle.specs.declared.command.Command.{Command}
use Rattle.bundle.specs.declared.command.Command.TheVariants as Com
use Rattle.bundle.proofs.Operands.{operands-read, operands-written, length-operands}
use Rattle.bundle.proofs.Forms.{Known, coded, code-made, access-widths}
use Rattle.bundle.proofs.Decoding.{
  known-width,
  known-widths,
  known-command,
  shifted,
  decodes,
  decoded,
  read-decodes,
  decode-reads,
  read-before,
  read_behind,
}
use Rattle.bundle.proofs.Ranges.{in-range-fits}

-- a command's bytes begin with its own byte, and are as many as that says
pub bytes-some : (c : Command) → 0 < length (bytes_of c)
unfolding bytes_of
bytes-some c = omega arith

-- a command's bytes say the command
module _ (c : Command) (r : in_range c ≡ true) where
  bytes-say : c ≡ command_at (bytes_of c) 0 (code_of c).byte
  unfolding bytes_of
  bytes-say =
      let d = coded c in
      let ws : List ℕ = d.known.form.widths in
      let xs : List ℕ = (code_of c).operands in
      let b : ℕ = (code_of c).byte in
      let fits = rw (known-widths d.known) at (in-range-fits c r) in
      sym (known-command d.known (bytes_of c) 0
      ∙ rw (known-widths d.known) (ap d.known.form.command (operands-read ws xs fits.eq (b ∷ []) 1 refl) ∙ d.same))

  length-bytes : length (bytes_of c) ≡ width_of (code_of c).byte
  unfolding bytes_of
  length-bytes =
      let d = coded c in
      let fits = rw (known-widths d.known) at (in-range-fits c r) in
      rw (known-width d.known, known-widths d.known)
      (ap suc (length-operands d.known.form.widths (code_of c).operands fits.eq))

  -- what is written reads back: by itself, and anywhere in a buffer
  bytes_read : read_at (bytes_of c) 0 ≡ gives (record { command = c; next = length (bytes_of c) })
  unfolding bytes_of
  bytes_read =
      let t : Taken = record { command = c; next = length (bytes_of c) } in
      let w = length-bytes in
      decode-reads (bytes_of c) 0 t
      (decodes (bytes_of c) 0 t (record { known = (coded c).known; fits = omega arith; command = bytes-say; next = omega arith }))
      r

pub written-reads : (c : Command) (s : List ℕ) (at : ℕ) → in_range c ≡ true → at + length (bytes_of c) ≤ length s
    → read_at (written s at (bytes_of c)) at ≡ gives (record { command = c; next = at + length (bytes_of c) })
unfolding written
written-reads c s at r h =
    let p : List ℕ = take at s in
    let rest : List ℕ = bytes_of c ++ drop (at + length (bytes_of c)) s in
    let l : length p ≡ at = length-take-le at s (omega arith) in
    let here : at ≡ length p + 0 = omega arith in
    rw append_assoc
    (ap (read_at (p ++ rest)) here
    ∙ read_behind p rest 0
    ∙ ap (shifted (length p)) (read-before (bytes_of c) (drop (at + length (bytes_of c)) s) 0 (record { command = c; next = length (bytes_of c) }) (bytes_read c r))
    ∙ (λ i. gives (record { command = c; next = l i + length (bytes_of c) })))

-- for every command in range: where put answers the position after it, read gives the command and that position
pub put-reads-back : (c : Command) (s : List ℕ) (at next : ℕ) → in_range c ≡ true → (put_at c s at).answer ≡ gives next
    → read_at (put_at c s at).buffer at ≡ gives (record { command = c; next = next })
unfolding put_at
put-reads-back c s at next r = rw r (go (leb (length (bytes_of c)) (length s - at)) refl)
  where
    w : ℕ
    w = length (bytes_of c)

    put : Bool → Lent ℕ
    put t = cond t (record { answer = gives (at + w); buffer = written s at (bytes_of c) }) (record { answer = refuses 17 at; buffer = s })

    go : (t : Bool) → leb w (length s - at) ≡ t → (put t).answer ≡ gives next → read_at (put t).buffer at ≡ gives (record { command = c; next = next })
    go true f e =
        let n : at + w ≡ next = cc in
        written-reads c s at r (omega (arith, leb-true w (length s - at) f, bytes-some c)) ∙ (λ i. gives (record { command = c; next = n i }))
    go false f e = let z : ◌≡◌ {A = ℕ} 0 1 = cc in absurd (omega arith)

-- what read accepts are the command's bytes
bytes-at :
    (s : List ℕ) (at : ℕ)
    → Bytes s
    → Known (get_or s at 0)
    → at + width_of (get_or s at 0) ≤ length s
    → bytes_of (command_at s at (get_or s at 0)) ≡ take (width_of (get_or s at 0)) (drop at s)
unfolding bytes_of
bytes-at s at bytes k h =
    let w = known-width k in
    let ws : List ℕ = k.form.widths in
    let last = operands-written ws s at 1 bytes (omega arith) in
    ap bytes_of (known-command k s at)
    ∙ ap print (code-made k s at)
    ∙ rw (known-widths k, w, drop-cons s at 0 (omega arith)) (ap (λ (l : List ℕ). get_or s at 0 ∷ l) (last ∙ rw add-one))
  where
    print : Code → List ℕ
    print c = c.byte ∷ operand_bytes (widths_of c.byte) c.operands

-- for every list of bytes: where read gives a command and the position after it, the command's bytes stand there, and put
-- writes them again: it answers that position and leaves the buffer as it was
pub record PutsBack (s : List ℕ) (at : ℕ) (t : Taken) : Type 0 where
  pub bytes : bytes_of t.command ≡ take (t.next - at) (drop at s)
  pub put : put_at t.command s at ≡ record { answer = gives t.next; buffer = s }

pub read-puts-back : (s : List ℕ) (at : ℕ) (t : Taken) → Bytes s → read_at s at ≡ gives t → PutsBack s at t
unfolding put_at written
read-puts-back s at t bytes e =
    let (d', r) = read-decodes s at t e in
    let d = decoded s at t d' in
    let w : ℕ = width_of (get_or s at 0) in
    let k = known-width d.known in
    let here : bytes_of t.command ≡ take w (drop at s) = ap bytes_of d.command ∙ bytes-at s at bytes d.known d.fits in
    let long : length (bytes_of t.command) ≡ w = ap length here ∙ length-take-le w (drop at s) (simp length-drop (omega arith)) in
    let n : t.next - at ≡ w = omega arith in
    let again : take at s ++ take w (drop at s) ++ drop (at + w) s ≡ s = rw (← take-add at w s) (take-append-drop (at + w) s) in
    record {
      bytes = rw n here;
      put = rw (r, long, here, le-leb w (length s - at) (omega arith)) (λ i. record { answer = gives (sym d.next i); buffer = again i });
    }

-- "Putting a narrow command with a site over 65,535 is 5" (A.6), whatever its other operands are, and the buffer is as it was
pub narrow-site-put :
    (a : Access) (buffer : List ℕ) (at : ℕ)
    → a.wide ≡ false
    → 65535 < a.site
    → put_at (Com.Access a) buffer at ≡ record { answer = refuses 5 at; buffer = buffer }
unfolding put_at
narrow-site-put a buffer at w h = rw out
  where
    out : in_range (Com.Access a) ≡ false
    out = unfold in_range code_of fit_widths in (rw (access-widths a, w, le-ltb a.site 65536 (omega arith)))
