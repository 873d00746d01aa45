-- Laws of `decode_at` and `read_at`: what an answer says, that it depends only on the bytes from the position on, and that
-- bytes appended do not change it.
-- Assumes nothing.
use mathlib.Core.Path.{◌≡◌, refl, sym, ap, ap₂, subst, ◌∙◌}
use mathlib.Core.Bool.{Bool, true, false, cond, true≢false}
use mathlib.Core.List.{List, ◌++◌}
use mathlib.Core.Option.{Option, none, some}
use Prim.Native.Nat.{ℕ, zero, suc, ◌+◌, ◌-◌, ◌≤◌, ◌<◌}
use native.Mathlib.Nat.{add_assoc, zero-add, suc-add}
use native.Mathlib.Omega.{arith}
use borrow.Author.Tests.{leb-false, ltb-false, ne_eqb, lt-leb, le-ltb}
use lib.Dec.{eqb, ltb, leb, leb-suc-suc}
use lib.ListN.{length, get_or, length-append, get_or-append}
use lib.Seq.{get_or-append-add}
use Rattle.bundle.specs.Answer.{Answer, gives, refuses, when_given}
use Rattle.bundle.specs.Lists.{from_option}
use Rattle.bundle.specs.Commands.{
  Taken,
  Form,
  form_of,
  sum,
  width_of,
  widths_of,
  operands_from,
  command_at,
  decode_byte,
  decode_at,
  in_range,
  ranged,
  read_at,
}
use Rattle.bundle.specs.declared.command.Command.{Command}
use Rattle.bundle.specs.declared.command.Command.TheVariants as Com
use Rattle.bundle.proofs.Tests.{cond-elim}
use Rattle.bundle.proofs.Forms.{Known}
use Rattle.bundle.proofs.Operands.{operands-before, operands-behind}

-- what a form says of its byte
module _ {b : ℕ} (k : Known b) where
  pub known-width : width_of b ≡ suc (sum k.form.widths)
  unfolding width_of
  known-width = rw k.is

  pub known-widths : widths_of b ≡ k.form.widths
  unfolding widths_of
  known-widths = rw k.is

  pub known-command : (s : List ℕ) (at : ℕ) → command_at s at b ≡ k.form.command (operands_from s at 1 k.form.widths)
  unfolding command_at
  known-command s at = rw k.is

-- a byte has a width where it begins a command, and only there
pub width-known : (b : ℕ) → eqb (width_of b) 0 ≡ false → Known b
unfolding width_of
width-known b = go (form_of b) refl
  where
    go : (o : Option Form) → form_of b ≡ o → eqb (from_option 0 (λ f. suc (sum f.widths)) o) 0 ≡ false → Known b
    go none e w = absurd (true≢false w)
    go (some f) e w = record { form = f; is = e }

pub width-none : (b : ℕ) → form_of b ≡ none → width_of b ≡ 0
unfolding width_of
width-none b e = rw e

-- what it means that the command t is decoded at a position
pub record Decoded (s : List ℕ) (at : ℕ) (t : Taken) : Type 0 where
  pub known : Known (get_or s at 0)
  pub fits : at + width_of (get_or s at 0) ≤ length s
  pub command : t.command ≡ command_at s at (get_or s at 0)
  pub next : t.next ≡ at + width_of (get_or s at 0)

-- a refusal's place is the position
abbrev Says : List ℕ → ℕ → Answer Taken → Type 0
Says s at (gives t) = Decoded s at t
Says s at (refuses n place) = place ≡ at

decode-says : (s : List ℕ) (at : ℕ) → Says s at (decode_at s at)
unfolding decode_at decode_byte
decode-says s at =
    let b : ℕ = get_or s at 0 in
    let taken : Answer Taken = gives (record { command = command_at s at b; next = at + width_of b }) in
    cond-elim (Says s at) (leb (length s) at) (refuses 18 at) (decode_byte s at b) (λ _. refl)
    (λ l. cond-elim (Says s at) (eqb (width_of b) 0) (refuses 2 at) (cond (ltb (length s - at) (width_of b)) (refuses 3 at) taken) (λ _. refl)
    (λ w. cond-elim (Says s at) (ltb (length s - at) (width_of b)) (refuses 3 at) taken (λ _. refl)
    (λ f. record {
      known = width-known b w;
      fits = omega (arith, leb-false (length s) at l, ltb-false (length s - at) (width_of b) f);
      command = refl;
      next = refl;
    })))

pub decoded : (s : List ℕ) (at : ℕ) (t : Taken) → decode_at s at ≡ gives t → Decoded s at t
decoded s at t e = subst (Says s at) e (decode-says s at)

pub decode-place : (s : List ℕ) (at n place : ℕ) → decode_at s at ≡ refuses n place → place ≡ at
decode-place s at n place e = subst (Says s at) e (decode-says s at)

pub decodes : (s : List ℕ) (at : ℕ) (t : Taken) → Decoded s at t → decode_at s at ≡ gives t
unfolding decode_at decode_byte
decodes s at t d =
    let w = known-width d.known in
    simp (
      lt-leb (length s) at (omega arith),
      ne_eqb (width_of (get_or s at 0)) 0 (omega arith),
      le-ltb (length s - at) (width_of (get_or s at 0)) (omega arith),
    )
    (λ i. gives (record { command = sym d.command i; next = sym d.next i }))

-- the position after a command is past it, and within the bytes
pub decode-next : (s : List ℕ) (at : ℕ) (t : Taken) → decode_at s at ≡ gives t → (at < t.next) × (t.next ≤ length s)
decode-next s at t e =
    let d = decoded s at t e in
    let w = known-width d.known in
    omega arith

-- bytes appended change no command that was decoded
command-before : {b : ℕ} (s q : List ℕ) (at : ℕ) → Known b → at + width_of b ≤ length s → command_at (s ++ q) at b ≡ command_at s at b
command-before s q at k h =
    known-command k (s ++ q) at
    ∙ ap k.form.command (operands-before s q at 1 k.form.widths (omega (arith, known-width k)))
    ∙ sym (known-command k s at)

pub decode-before : (s q : List ℕ) (at : ℕ) (t : Taken) → decode_at s at ≡ gives t → decode_at (s ++ q) at ≡ gives t
decode-before s q at t e =
    let d = decoded s at t e in
    let w = known-width d.known in
    let b : get_or (s ++ q) at 0 ≡ get_or s at 0 = get_or-append s q 0 at (omega arith) in
    decodes (s ++ q) at t
    (record {
      known = rw b d.known;
      fits = simp (b, length-append) (omega arith);
      command = rw b (d.command ∙ sym (command-before s q at d.known d.fits));
      next = rw b d.next;
    })

-- an answer with its positions n further on
abbrev pub shifted : ℕ → Answer Taken → Answer Taken
shifted n (gives t) = gives (record { command = t.command; next = n + t.next })
shifted n (refuses m place) = refuses m (n + place)

command-behind : (p s : List ℕ) (at b : ℕ) → command_at (p ++ s) (length p + at) b ≡ command_at s at b
unfolding command_at
command-behind p s at b = go (form_of b)
  where
    at_offset : List ℕ → ℕ → Option Form → Command
    at_offset l n o = from_option Com.End (λ f. f.command (operands_from l n 1 f.widths)) o

    go : (o : Option Form) → at_offset (p ++ s) (length p + at) o ≡ at_offset s at o
    go none = refl
    go (some f) = ap f.command (operands-behind p s at 1 f.widths)

leb-shifted : (n a b : ℕ) → leb (n + a) (n + b) ≡ leb a b
leb-shifted zero a b = ap₂ leb (zero-add a) (zero-add b)
leb-shifted (suc n) a b = ap₂ leb (suc-add n a) (suc-add n b) ∙ leb-suc-suc (n + a) (n + b) ∙ leb-shifted n a b

decision-shifted : (n at : ℕ) (c : Command) (next : ℕ) (a b d : Bool)
    → cond a (refuses 18 (n + at)) (cond b (refuses 2 (n + at)) (cond d (refuses 3 (n + at)) (gives (record { command = c; next = n + next }))))
    ≡ shifted n (cond a (refuses 18 at) (cond b (refuses 2 at) (cond d (refuses 3 at) (gives (record { command = c; next = next })))))
decision-shifted n at c next true b d = refl
decision-shifted n at c next false true d = refl
decision-shifted n at c next false false true = refl
decision-shifted n at c next false false false = refl

-- what stands before the position does not matter
pub decode-behind : (p s : List ℕ) (at : ℕ) → decode_at (p ++ s) (length p + at) ≡ shifted (length p) (decode_at s at)
unfolding decode_at decode_byte
decode-behind p s at =
    let left : length p + length s - (length p + at) ≡ length s - at = omega arith in
    simp (length-append, leb-shifted, get_or-append-add, left, command-behind, add_assoc)
    (decision-shifted (length p) at (command_at s at (get_or s at 0)) (at + width_of (get_or s at 0))
    (leb (length s) at) (eqb (width_of (get_or s at 0)) 0) (ltb (length s - at) (width_of (get_or s at 0))))

-- reading is decoding with the ranges tested
ranged-given : (at : ℕ) (a : Answer Taken) (t : Taken) → when_given a (ranged at) ≡ gives t → (a ≡ gives t) × (in_range t.command ≡ true)
unfolding ranged
ranged-given at (refuses n place) t e = let z : ◌≡◌ {A = ℕ} 0 1 = cc in absurd (omega arith)
ranged-given at (gives u) t e = go (in_range u.command) refl e
  where
    go : (r : Bool) → in_range u.command ≡ r → cond r (gives u) (refuses 5 at) ≡ gives t → (gives u ≡ gives t) × (in_range t.command ≡ true)
    go true r e = (e, (cc))
    go false r e = let z : ◌≡◌ {A = ℕ} 0 1 = cc in absurd (omega arith)

pub read-decodes : (s : List ℕ) (at : ℕ) (t : Taken) → read_at s at ≡ gives t → (decode_at s at ≡ gives t) × (in_range t.command ≡ true)
unfolding read_at
read-decodes s at t e = ranged-given at (decode_at s at) t e

pub decode-reads : (s : List ℕ) (at : ℕ) (t : Taken) → decode_at s at ≡ gives t → in_range t.command ≡ true → read_at s at ≡ gives t
unfolding read_at ranged
decode-reads s at t e r = rw (e, r)

pub read_next : (s : List ℕ) (at : ℕ) (t : Taken) → read_at s at ≡ gives t → (at < t.next) × (t.next ≤ length s)
read_next s at t e = decode-next s at t (read-decodes s at t e).0

pub read-before : (s q : List ℕ) (at : ℕ) (t : Taken) → read_at s at ≡ gives t → read_at (s ++ q) at ≡ gives t
read-before s q at t e =
    let d = read-decodes s at t e in
    decode-reads (s ++ q) at t (decode-before s q at t d.0) d.1

ranged-shifted : (n at : ℕ) (a : Answer Taken) → when_given (shifted n a) (ranged (n + at)) ≡ shifted n (when_given a (ranged at))
unfolding ranged
ranged-shifted n at (refuses m place) = refl
ranged-shifted n at (gives t) = go (in_range t.command)
  where
    go : (r : Bool) → cond r (shifted n (gives t)) (refuses 5 (n + at)) ≡ shifted n (cond r (gives t) (refuses 5 at))
    go true = refl
    go false = refl

pub read_behind : (p s : List ℕ) (at : ℕ) → read_at (p ++ s) (length p + at) ≡ shifted (length p) (read_at s at)
unfolding read_at
read_behind p s at = rw decode-behind (ranged-shifted (length p) at (decode_at s at))
