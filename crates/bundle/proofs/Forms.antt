-- The facts of each command by itself: its form and its code say the same.
-- Assumes nothing.
use mathlib.Core.Path.{◌≡◌, refl, sym, ap, subst, ◌∙◌}
use mathlib.Core.Bool.{Bool, true, false, cond, ◌&&◌, ◌||◌, and-true}
use mathlib.Core.List.{List, [], ◌∷◌}
use mathlib.Core.Option.{Option, none, some}
use Prim.Native.Nat.{ℕ, ◌+◌, ◌-◌, ◌^◌, ◌≤◌, ◌<◌}
use native.Mathlib.Decide.{ℕ_discrete}
use native.Mathlib.Omega.{arith}
use borrow.Author.Tests.{leb-true, ltb-true, lt-ltb, eqb-true, ne_eqb}
use lib.Dec.{eqb, ltb, leb}
use lib.ListN.{get_or}
use Rattle.bundle.specs.Commands.{
  kind_of,
  kind_byte,
  Form,
  access_byte,
  access_widths,
  access_of,
  access_form,
  form_of,
  code_of,
  widths_of,
  operands_from,
  operand_bytes,
  bytes_of,
  range_ok,
  operands_ok,
  fit_widths,
  in_range,
}
use Rattle.bundle.specs.Inner.{range_operands, Holds}
use Rattle.bundle.specs.declared.command.AccessKind.{AccessKind}
use Rattle.bundle.specs.declared.command.AccessKind.TheVariants as Kind
use Rattle.bundle.specs.declared.command.Access.{Access}
use Rattle.bundle.specs.declared.command.Command.{Command}
use Rattle.bundle.specs.declared.command.Encoded.{Encoded}
use Rattle.bundle.specs.declared.command.Command.TheVariants as Com
use Rattle.bundle.proofs.Tests.{cond-elim, is_false, and_left, and_right}
use Rattle.bundle.proofs.Operands.{Fits}

-- a byte that begins a command
pub record Known (b : ℕ) : Type 0 where
  pub form : Form
  pub is : form_of b ≡ some form

-- what holds of the four kinds' bytes holds of 0x30 to 0x33
access-elim : (P : ℕ → Type 0) → ((k : AccessKind) → P (kind_byte k)) → (b : ℕ) → 0x30 ≤ b → b < 0x34 → P b
unfolding kind_byte
access-elim P f b l h = go (ℕ_discrete b 0x30) (ℕ_discrete b 0x31) (ℕ_discrete b 0x32)
  where
    go : Dec (b ≡ 0x30) → Dec (b ≡ 0x31) → Dec (b ≡ 0x32) → P b
    go (yes e) q r = subst P (sym e) (f Kind.Read)
    go (no n) (yes e) r = subst P (sym e) (f Kind.Write)
    go (no n) (no m) (yes e) = subst P (sym e) (f Kind.AtomicRead)
    go (no n) (no m) (no k) =
        let e : b ≡ 0x33 = omega arith in
        subst P (sym e) (f Kind.AtomicWrite)

pub kind-byte-low : (k : AccessKind) → kind_byte k < 0x34
unfolding kind_byte
kind-byte-low Kind.Read = omega arith
kind-byte-low Kind.Write = omega arith
kind-byte-low Kind.AtomicRead = omega arith
kind-byte-low Kind.AtomicWrite = omega arith

-- of either group: its first byte, and the kind that a byte of it says
abbrev pub group_byte : Bool → ℕ
group_byte wide = cond wide 0x38 0x30

abbrev pub kind_in : Bool → ℕ → AccessKind
kind_in wide b = cond wide (kind_of (b - 8)) (kind_of b)

group-elim :
    (wide : Bool) (P : ℕ → Type 0)
    → ((k : AccessKind) → P (access_byte wide k))
    → (b : ℕ)
    → group_byte wide ≤ b
    → b < group_byte wide + 4
    → P b
unfolding access_byte
group-elim false P f b l h = access-elim P f b l h
group-elim true P f b l h =
    let e : b - 8 + 8 ≡ b = omega arith in
    subst P e (access-elim (λ (n : ℕ). P (n + 8)) f (b - 8) (omega arith) (omega arith))

pub kind-in : (wide : Bool) (k : AccessKind) → kind_in wide (access_byte wide k) ≡ k
unfolding kind_of kind_byte access_byte
kind-in false Kind.Read = refl
kind-in false Kind.Write = refl
kind-in false Kind.AtomicRead = refl
kind-in false Kind.AtomicWrite = refl
kind-in true Kind.Read = refl
kind-in true Kind.Write = refl
kind-in true Kind.AtomicRead = refl
kind-in true Kind.AtomicWrite = refl

access-known : (wide : Bool) (k : AccessKind) → form_of (access_byte wide k) ≡ access_form wide k
unfolding form_of kind_of kind_byte access_byte
access-known false Kind.Read = refl
access-known false Kind.Write = refl
access-known false Kind.AtomicRead = refl
access-known false Kind.AtomicWrite = refl
access-known true Kind.Read = refl
access-known true Kind.Write = refl
access-known true Kind.AtomicRead = refl
access-known true Kind.AtomicWrite = refl

pub form-of-access : (wide : Bool) (b : ℕ) → group_byte wide ≤ b → b < group_byte wide + 4 → form_of b ≡ access_form wide (kind_in wide b)
form-of-access wide =
    group-elim wide (λ (b : ℕ). form_of b ≡ access_form wide (kind_in wide b))
    (λ k. access-known wide k ∙ ap (access_form wide) (sym (kind-in wide k)))

byte-kind : (wide : Bool) (b : ℕ) → group_byte wide ≤ b → b < group_byte wide + 4 → access_byte wide (kind_in wide b) ≡ b
byte-kind wide =
    group-elim wide (λ (b : ℕ). access_byte wide (kind_in wide b) ≡ b) (λ k. ap (access_byte wide) (kind-in wide k))

-- a command's byte has a form, which makes the command of its operands
pub record Coded (c : Command) : Type 0 where
  pub known : Known (code_of c).byte
  pub same : known.form.command (code_of c).operands ≡ c

pub coded : (c : Command) → Coded c
unfolding form_of code_of
coded (Com.Member t m) = record { known = record { form = _; is = refl }; same = refl }
coded Com.End = record { known = record { form = _; is = refl }; same = refl }
coded (Com.Region t z) = record { known = record { form = _; is = refl }; same = refl }
coded Com.Barrier = record { known = record { form = _; is = refl }; same = refl }
coded (Com.Acquire l) = record { known = record { form = _; is = refl }; same = refl }
coded (Com.Release l) = record { known = record { form = _; is = refl }; same = refl }
coded (Com.Access a) = record { known = record { form = _; is = access-known a.wide a.kind }; same = refl }
coded Com.Cut = record { known = record { form = _; is = refl }; same = refl }

-- of the command that a byte's form makes of operands, the code is that byte and those operands
record Makes (b : ℕ) (f : Form) : Type 0 where
  code :
      (s : List ℕ) (at : ℕ)
      → code_of (f.command (operands_from s at 1 f.widths)) ≡ record { byte = b; operands = operands_from s at 1 f.widths }

record Made (b : ℕ) (o : Option Form) : Type 0 where
  made : (f : Form) → o ≡ some f → Makes b f

made-where : {b : ℕ} (t : Bool) {f : Form} {o : Option Form} → (t ≡ true → Makes b f) → Made b o → Made b (cond t (some f) o)
made-where {b} t {f} {o} fact rest =
    cond-elim (Made b) t (some f) o
    (λ e. record { made = λ g q. let same : f ≡ g = cc in rw (← same) (fact e) })
    (λ _. rest)

made_at : {b : ℕ} (n : ℕ) {f : Form} {o : Option Form} → Makes n f → Made b o → Made b (cond (eqb b n) (some f) o)
made_at {b} n fact = made-where (eqb b n) (λ e. rw (eqb-true b n e) fact)

made-access :
    (wide : Bool) (b : ℕ)
    → leb (group_byte wide) b ≡ true
    → ltb b (group_byte wide + 4) ≡ true
    → Makes b (record { widths = access_widths wide; command = λ operands. access_of wide (kind_in wide b) (λ k. get_or operands k 0) })
unfolding code_of operands_from
made-access wide b l h =
    record {
      code = λ s at. (λ i. record {
        byte = byte-kind wide b (leb-true (group_byte wide) b l) (ltb-true b (group_byte wide + 4) h) i;
        operands = operands_from s at 1 (access_widths wide);
      });
    }

made_code : (b : ℕ) → Made b (form_of b)
unfolding form_of code_of operands_from
made_code b =
    made_at 0x01 (record { code = λ s at. refl })
    (made_at 0x02 (record { code = λ s at. refl })
    (made_at 0x03 (record { code = λ s at. refl })
    (made_at 0x10 (record { code = λ s at. refl })
    (made_at 0x11 (record { code = λ s at. refl })
    (made_at 0x20 (record { code = λ s at. refl })
    (made_at 0x21 (record { code = λ s at. refl })
    (made-where (leb 0x30 b && ltb b 0x34) (λ e. made-access false b (and_left (leb 0x30 b) (ltb b 0x34) e) (and_right (leb 0x30 b) (ltb b 0x34) e))
    (made-where (leb 0x38 b && ltb b 0x3c) (λ e. made-access true b (and_left (leb 0x38 b) (ltb b 0x3c) e) (and_right (leb 0x38 b) (ltb b 0x3c) e))
    (record { made = λ f q. let z : ◌≡◌ {A = ℕ} 0 1 = cc in absurd (omega arith) })))))))))

pub code-made :
    {b : ℕ} (k : Known b) (s : List ℕ) (at : ℕ)
    → code_of (k.form.command (operands_from s at 1 k.form.widths))
    ≡ record { byte = b; operands = operands_from s at 1 k.form.widths }
code-made {b} k = ((made_code b).made k.form k.is).code

-- a byte that is not among others
pub not-between : (b low high : ℕ) → (low ≤ b → b < high → ⊥) → leb low b && ltb b high ≡ false
not-between b low high n =
    is_false (leb low b && ltb b high)
    (λ e. n (leb-true low b (and_left (leb low b) (ltb b high) e)) (ltb-true b high (and_right (leb low b) (ltb b high) e)))

-- no other byte begins a command
pub no-form :
    {b : ℕ}
    → (b ≡ 0x01 → ⊥)
    → (b ≡ 0x02 → ⊥)
    → (b ≡ 0x03 → ⊥)
    → (b ≡ 0x10 → ⊥)
    → (b ≡ 0x11 → ⊥)
    → (b ≡ 0x20 → ⊥)
    → (b ≡ 0x21 → ⊥)
    → (0x30 ≤ b → b < 0x34 → ⊥)
    → (0x38 ≤ b → b < 0x3c → ⊥)
    → form_of b ≡ none
unfolding form_of
no-form {b} n₁ n₂ n₃ n₄ n₅ n₆ n₇ narrow wide =
    rw (
      ne_eqb b 0x01 n₁,
      ne_eqb b 0x02 n₂,
      ne_eqb b 0x03 n₃,
      ne_eqb b 0x10 n₄,
      ne_eqb b 0x11 n₅,
      ne_eqb b 0x20 n₆,
      ne_eqb b 0x21 n₇,
      not-between b 0x30 0x34 narrow,
      not-between b 0x38 0x3c wide,
    )

-- lists with equal heads and equal rests
pub same-cons : {a b : ℕ} {s t : List ℕ} → a ≡ b → s ≡ t → a ∷ s ≡ b ∷ t
same-cons e q = rw (e, q)

-- an access's widths, whatever its kind
module _ (a : Access) where
  pub access-widths : widths_of (access_byte a.wide a.kind) ≡ access_widths a.wide
  unfolding widths_of
  access-widths = rw (access-known a.wide a.kind)

  pub access-bytes :
      bytes_of (Com.Access a) ≡ access_byte a.wide a.kind ∷ operand_bytes (access_widths a.wide) (code_of (Com.Access a)).operands
  unfolding bytes_of code_of
  access-bytes = rw access-widths

  pub encoded-as :
      {e : Encoded} (wide : Bool) {b : ℕ}
      → b ≡ access_byte a.wide a.kind
      → a.wide ≡ wide
      → Holds e (b ∷ operand_bytes (access_widths wide) (a.site ∷ range_operands a.range))
      → Holds e (bytes_of (Com.Access a))
  unfolding code_of
  encoded-as wide q w h = rw (access-bytes, ← q, w) h

  -- in range: a site that fits its group's width, and the range of bytes
  pub access-in-range :
      a.site < 4294967296
      → Fits (4 ∷ 2 ∷ 2 ∷ 1 ∷ []) (range_operands a.range)
      → ((a.wide || ltb a.site 65536) && range_ok a.range) ≡ in_range (Com.Access a)
  unfolding in_range code_of operands_ok fit_widths
  access-in-range small f = rw (access-widths, f.eq) (go a.wide)
    where
      go : (w : Bool) → ((w || ltb a.site 65536) && range_ok a.range) ≡ ((ltb a.site (256 ^ cond w 4 2) && true) && range_ok a.range)
      go true = rw (lt-ltb a.site 4294967296 small)
      go false = sym (ap (λ (t : Bool). t && range_ok a.range) (and-true (ltb a.site 65536)))
