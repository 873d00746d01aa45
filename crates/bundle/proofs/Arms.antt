-- What each arm of decoding answers, at the byte that stands at the position; and what reading makes of it.
-- Assumes nothing.
use mathlib.Core.Path.{◌≡◌, refl, sym, ap, ◌∙◌}
use mathlib.Core.Logic.{inl, inr, ⊎_elim}
use mathlib.Core.Bool.{Bool, true, false, cond}
use mathlib.Core.List.{List}
use mathlib.Core.Option.{none}
use Prim.Native.Nat.{ℕ, suc, ◌+◌, ◌-◌, ◌%◌, ◌≤◌, ◌<◌}
use native.Mathlib.Omega.{arith}
use borrow.Author.Tests.{ne_eqb, lt-leb, le-leb, lt-ltb, le-ltb}
use lib.ListN.{length, get_or}
use Rattle.bundle.specs.Answer.{Answer, gives, refuses, when_given}
use Rattle.bundle.specs.Commands.{Taken, number_at, kind_of, access_widths, access_of, form_of, sum, width_of, operands_from, command_at, in_range, decode_byte, decode_at, ranged, read_at}
use Rattle.bundle.specs.Inner.{StandsAt, GroupAt, AccessAt, AccessTo}
use Rattle.bundle.specs.declared.command.AccessKind.{AccessKind}
use Rattle.bundle.specs.declared.command.Command.{Command}
use Rattle.bundle.specs.declared.command.Command.TheVariants as Com
use Rattle.bundle.proofs.Digits.{number-one}
use Rattle.bundle.proofs.Forms.{group_byte, kind_in, form-of-access}
use Rattle.bundle.proofs.Decoding.{width-none}

pub decode-past : (s : List ℕ) (at : ℕ) → length s ≤ at → refuses 18 at ≡ decode_at s at
unfolding decode_at
decode-past s at h = sym (rw (le-leb (length s) at h))

module _ {b : ℕ} (s : List ℕ) (at : ℕ) (stands : StandsAt s at b) where
  pub decode-unknown : form_of b ≡ none → refuses 2 at ≡ decode_at s at
  unfolding decode_at decode_byte
  decode-unknown n = sym (simp (stands.byte, lt-leb (length s) at stands.within, width-none b n))

  pub decode-cut : length s - at < width_of b → refuses 3 at ≡ decode_at s at
  unfolding decode_at decode_byte
  decode-cut h =
      sym (simp (
        stands.byte,
        lt-leb (length s) at stands.within,
        ne_eqb (width_of b) 0 (omega arith),
        lt-ltb (length s - at) (width_of b) h,
      ))

  pub decode-whole :
      (c : Command)
      → 0 < width_of b
      → width_of b ≤ length s - at
      → c ≡ command_at s at b
      → gives (record { command = c; next = at + width_of b }) ≡ decode_at s at
  unfolding decode_at decode_byte
  decode-whole c w h e =
      sym (simp (
        stands.byte,
        lt-leb (length s) at stands.within,
        ne_eqb (width_of b) 0 (omega arith),
        le-ltb (length s - at) (width_of b) h,
        ← e,
      ))

module _ (s : List ℕ) (at : ℕ) (wide : Bool) (stands : GroupAt s at (group_byte wide)) where
  access-stands : StandsAt s at (get_or s at 0)
  access-stands = record { within = stands.within; byte = refl }

  access-width : width_of (get_or s at 0) ≡ suc (sum (access_widths wide))
  unfolding width_of
  access-width = rw (form-of-access wide (get_or s at 0) stands.low stands.high)

  pub access-cut : length s - at < suc (sum (access_widths wide)) → refuses 3 at ≡ decode_at s at
  access-cut h = decode-cut s at access-stands (rw access-width h)

  pub access-whole :
      (c : Command)
      → suc (sum (access_widths wide)) ≤ length s - at
      → c ≡ access_of wide (kind_in wide (get_or s at 0)) (λ k. get_or (operands_from s at 1 (access_widths wide)) k 0)
      → gives (record { command = c; next = at + suc (sum (access_widths wide)) }) ≡ decode_at s at
  unfolding command_at
  access-whole c h e =
      let w = access-width in
      ap (λ (m : ℕ). gives (record { command = c; next = at + m })) (sym w)
      ∙ decode-whole s at access-stands c (omega arith) (rw w h)
      (rw (form-of-access wide (get_or s at 0) stands.low stands.high) e)

-- an access's byte by the group that it is in
pub of_narrow : (s : List ℕ) (at : ℕ) → at < length s → 0x30 ≤ get_or s at 0 → get_or s at 0 < 0x34 → AccessAt s at
of_narrow s at w l h = record { within = w; low = l; high = omega arith; group = inl h }

pub of-wide : (s : List ℕ) (at : ℕ) → at < length s → 0x38 ≤ get_or s at 0 → get_or s at 0 < 0x3c → AccessAt s at
of-wide s at w l h = record { within = w; low = omega arith; high = h; group = inr l }

module _ (s : List ℕ) (at : ℕ) (stands : AccessAt s at) where
  pub wide_at : 0x38 ≤ get_or s at 0 → GroupAt s at 0x38
  wide_at l = record { within = stands.within; low = l; high = stands.high }

  pub narrow_at : get_or s at 0 < 0x38 → GroupAt s at 0x30
  narrow_at h =
      record { within = stands.within; low = stands.low; high = ⊎_elim (λ n. n) (λ l. omega arith) stands.group }

  pub wide-to : 0x38 ≤ get_or s at 0 → 14 ≤ length s - at → AccessTo s at (at + 14) true
  wide-to l f = record { stands = wide_at l; ends = refl; long = omega arith; fits = omega (arith, stands.within) }

  pub narrow-to : get_or s at 0 < 0x38 → 12 ≤ length s - at → AccessTo s at (at + 12) false
  narrow-to h f = record { stands = narrow_at h; ends = refl; long = omega arith; fits = omega (arith, stands.within) }

-- an access whose operands behind the site are read from its end
span : (wide : Bool) → cond wide 14 12 ≡ suc (sum (access_widths wide))
unfolding sum
span true = refl
span false = refl

module _ (s : List ℕ) (at next : ℕ) where
  from_end : Bool → Command
  from_end wide =
      Com.Access (record {
        kind = kind_of (get_or s at 0 % 8 + 0x30);
        wide = wide;
        site = number_at (cond wide 4 2) s (at + 1);
        range = record { base = number_at 4 s (next - 9); stride = number_at 2 s (next - 5); count = number_at 2 s (next - 3); size = get_or s (next - 1) 0 };
      })

  from_front :
      (wide : Bool) (rest b : ℕ)
      → get_or s at 0 % 8 + 0x30 ≡ b
      → next ≡ at + (rest + 9)
      → from_end wide
      ≡ Com.Access (record {
        kind = kind_of b;
        wide = wide;
        site = number_at (cond wide 4 2) s (at + 1);
        range = record { base = number_at 4 s (at + rest); stride = number_at 2 s (at + (rest + 4)); count = number_at 2 s (at + (rest + 6)); size = number_at 1 s (at + (rest + 8)) };
      })
  unfolding from_end
  from_front wide rest b e n =
      let p : next - 9 ≡ at + rest = omega arith in
      let q : next - 5 ≡ at + (rest + 4) = omega arith in
      let r : next - 3 ≡ at + (rest + 6) = omega arith in
      let t : next - 1 ≡ at + (rest + 8) = omega arith in
      λ i. Com.Access (record {
        kind = kind_of (e i);
        wide = wide;
        site = number_at (cond wide 4 2) s (at + 1);
        range = record { base = number_at 4 s (p i); stride = number_at 2 s (q i); count = number_at 2 s (r i); size = (ap (λ (x : ℕ). get_or s x 0) t ∙ sym (number-one s (at + (rest + 8)))) i };
      })

  same-access :
      (wide : Bool)
      → AccessTo s at next wide
      → from_end wide ≡ access_of wide (kind_in wide (get_or s at 0)) (λ k. get_or (operands_from s at 1 (access_widths wide)) k 0)
  unfolding operands_from
  same-access false to =
      let low = to.stands.low in
      let high = to.stands.high in
      from_front false 3 (get_or s at 0) (omega arith) to.ends
  same-access true to =
      let low = to.stands.low in
      let high = to.stands.high in
      from_front true 5 (get_or s at 0 - 8) (omega arith) to.ends

  pub access-decoded :
      (wide : Bool) {kind : AccessKind} {site base stride count : ℕ}
      → AccessTo s at next wide
      → kind ≡ kind_of (get_or s at 0 % 8 + 0x30)
      → site ≡ number_at (cond wide 4 2) s (at + 1)
      → base ≡ number_at 4 s (next - 9)
      → stride ≡ number_at 2 s (next - 5)
      → count ≡ number_at 2 s (next - 3)
      → gives (record {
        command = Com.Access (record { kind = kind; wide = wide; site = site; range = record { base = base; stride = stride; count = count; size = get_or s (next - 1) 0 } });
        next = next;
      })
      ≡ decode_at s at
  unfolding from_end
  access-decoded wide to k i b t n =
      let width = span wide in
      let end : next ≡ at + suc (sum (access_widths wide)) = to.ends ∙ ap (λ (w : ℕ). at + w) width in
      (λ j. gives (record {
        command = Com.Access (record { kind = k j; wide = wide; site = i j; range = record { base = b j; stride = t j; count = n j; size = get_or s (next - 1) 0 } });
        next = end j;
      }))
      ∙ access-whole s at wide to.stands (from_end wide) (omega (arith, to.fits)) (same-access wide to)

-- what the test of ranges makes of what is decoded
module _ (at : ℕ) (t : Taken) where
  pub accept-beyond : in_range t.command ≡ false → refuses 5 at ≡ ranged at t
  unfolding ranged
  accept-beyond b = rw b

  pub accept-within : in_range t.command ≡ true → gives t ≡ ranged at t
  unfolding ranged
  accept-within b = rw b

-- and what reading does
module _ (s : List ℕ) (at : ℕ) where
  pub read-accepted : {a b : Answer Taken} → a ≡ decode_at s at → b ≡ when_given a (ranged at) → b ≡ read_at s at
  unfolding read_at
  read-accepted d e = e ∙ ap (λ (x : Answer Taken). when_given x (ranged at)) d

  pub read_whole : (t : Taken) → gives t ≡ decode_at s at → in_range t.command ≡ true → gives t ≡ read_at s at
  unfolding read_at ranged
  read_whole t d b = rw (← d, b)

  pub read-not : (n p : ℕ) → refuses n p ≡ decode_at s at → refuses n p ≡ read_at s at
  unfolding read_at
  read-not n p d = rw (← d)
