-- Commands as bytes: "One byte, then operands of fixed width, low byte first", their ranges, reading and putting.
use Rattle.std.specs.Prelude.{ℕ, zero, suc, ◌+◌, ◌-◌, ◌*◌, ◌/◌, ◌%◌, ◌^◌, ◌<◌, Bool, true, false, cond, ◌&&◌, ◌||◌, List, [], ◌∷◌, ◌++◌, length, get_or, take, drop, eqb, ltb, leb}
use Rattle.std.proofs.Math.Option.{Option, none, some}
use Rattle.bundle.specs.Answer.{Answer, gives, refuses, when_given, number_of}
use Rattle.bundle.specs.Lists.{from_option}
use Rattle.bundle.specs.declared.command.AccessKind.{AccessKind}
use Rattle.bundle.specs.declared.command.AccessKind.TheVariants as Kind
use Rattle.bundle.specs.declared.command.Range.{Range}
use Rattle.bundle.specs.declared.command.Command.{Command}
use Rattle.bundle.specs.declared.command.Command.TheVariants as Com
pub use Rattle.bundle.specs.declared.command.Taken.{Taken}

-- a list of bytes
abbrev pub Bytes : List ℕ → Type 0
Bytes s = (i : ℕ) → i < length s → get_or s i 0 < 256

-- a number of k bytes, low byte first: its bytes, and the number that stands at a position
unfoldable pub low_first : ℕ → ℕ → List ℕ
low_first zero x = []
low_first (suc k) x = x % 256 ∷ low_first k (x / 256)

unfoldable pub number_at : ℕ → List ℕ → ℕ → ℕ
number_at zero s at = 0
number_at (suc k) s at = get_or s at 0 + 256 * number_at k s (at + 1)

-- the commands 0x30 to 0x33, the narrow group
unfoldable pub kind_of : ℕ → AccessKind
kind_of b = cond (eqb b 0x30) Kind.Read (cond (eqb b 0x31) Kind.Write (cond (eqb b 0x32) Kind.AtomicRead Kind.AtomicWrite))

unfoldable pub kind_byte : AccessKind → ℕ
kind_byte Kind.Read = 0x30
kind_byte Kind.Write = 0x31
kind_byte Kind.AtomicRead = 0x32
kind_byte Kind.AtomicWrite = 0x33

-- A.6: "Commands 0x38 to 0x3b are 0x30 to 0x33 with a 4-byte site", the wide group: the command byte of an access
unfoldable pub access_byte : Bool → AccessKind → ℕ
access_byte wide kind = cond wide (kind_byte kind + 8) (kind_byte kind)

-- what a command byte says: the widths of the operands in bytes, and the command that operands make
pub record Form : Type 0 where
  pub widths : List ℕ
  pub command : List ℕ → Command

-- .. where x k is operand number k from 0
abbrev pub form : List ℕ → ((ℕ → ℕ) → Command) → Option Form
form widths command = some (record { widths = widths; command = λ operands. command (λ k. get_or operands k 0) })

-- site (2, or 4 in the wide group), base (4), stride (2), count (2), size (1)
abbrev pub access_widths : Bool → List ℕ
access_widths wide = cond wide 4 2 ∷ 4 ∷ 2 ∷ 2 ∷ 1 ∷ []

abbrev pub access_of : Bool → AccessKind → (ℕ → ℕ) → Command
access_of wide kind x =
    Com.Access
    (record { kind = kind; wide = wide; site = x 0; range = record { base = x 1; stride = x 2; count = x 3; size = x 4 } })

abbrev pub access_form : Bool → AccessKind → Option Form
access_form wide kind = form (access_widths wide) (access_of wide kind)

-- each command's byte, the widths of its operands, and the command; none for an unknown command byte
unfoldable pub form_of : ℕ → Option Form
form_of b =
    cond (eqb b 0x01) (form (2 ∷ 1 ∷ []) (λ x. Com.Member (x 0) (x 1)))
    (cond (eqb b 0x02) (form [] (λ x. Com.End))
    (cond (eqb b 0x03) (form [] (λ x. Com.Cut))
    (cond (eqb b 0x10) (form (2 ∷ 1 ∷ []) (λ x. Com.Region (x 0) (x 1)))
    (cond (eqb b 0x11) (form [] (λ x. Com.Barrier))
    (cond (eqb b 0x20) (form (1 ∷ []) (λ x. Com.Acquire (x 0)))
    (cond (eqb b 0x21) (form (1 ∷ []) (λ x. Com.Release (x 0)))
    (cond (leb 0x30 b && ltb b 0x34) (access_form false (kind_of b))
    (cond (leb 0x38 b && ltb b 0x3c) (access_form true (kind_of (b - 8))) none))))))))

-- the other way round: a command's byte and its operands
pub record Code : Type 0 where
  pub byte : ℕ
  pub operands : List ℕ

unfoldable pub code_of : Command → Code
code_of (Com.Member t m) = record { byte = 0x01; operands = t ∷ m ∷ [] }
code_of Com.End = record { byte = 0x02; operands = [] }
code_of (Com.Region t z) = record { byte = 0x10; operands = t ∷ z ∷ [] }
code_of Com.Barrier = record { byte = 0x11; operands = [] }
code_of (Com.Acquire l) = record { byte = 0x20; operands = l ∷ [] }
code_of (Com.Release l) = record { byte = 0x21; operands = l ∷ [] }
code_of (Com.Access a) =
    record {
      byte = access_byte a.wide a.kind;
      operands = a.site ∷ a.range.base ∷ a.range.stride ∷ a.range.count ∷ a.range.size ∷ [];
    }
code_of Com.Cut = record { byte = 0x03; operands = [] }

-- how many bytes the command with this first byte has, operands included; 0 for an unknown command byte
unfoldable pub sum : List ℕ → ℕ
sum [] = 0
sum (w ∷ ws) = w + sum ws

unfoldable pub width_of : ℕ → ℕ
width_of b = from_option 0 (λ f. suc (sum f.widths)) (form_of b)

unfoldable pub widths_of : ℕ → List ℕ
widths_of b = from_option [] (λ f. f.widths) (form_of b)

-- operands of these widths, one behind the other: those that stand at a position and offset, and the bytes of given ones
unfoldable pub operands_from : List ℕ → ℕ → ℕ → List ℕ → List ℕ
operands_from s at offset [] = []
operands_from s at offset (w ∷ ws) = number_at w s (at + offset) ∷ operands_from s at (offset + w) ws

unfoldable pub operand_bytes : List ℕ → List ℕ → List ℕ
operand_bytes [] xs = []
operand_bytes (w ∷ ws) [] = []
operand_bytes (w ∷ ws) (x ∷ xs) = low_first w x ++ operand_bytes ws xs

-- the command with the first byte b at a position, with operands of any value (END where b is unknown)
unfoldable pub command_at : List ℕ → ℕ → ℕ → Command
command_at s at b = from_option Com.End (λ f. f.command (operands_from s at 1 f.widths)) (form_of b)

-- the command's bytes
unfoldable pub bytes_of : Command → List ℕ
bytes_of c = (code_of c).byte ∷ operand_bytes (widths_of (code_of c).byte) (code_of c).operands

-- the ranges of docs/FORMAT.md. A range of bytes: count at least 1; stride 0 exactly when count is 1; size 1, 2, 4 or 8; last
-- byte at most 4,294,967,295
unfoldable pub size_ok : ℕ → Bool
size_ok z = eqb z 1 || eqb z 2 || eqb z 4 || eqb z 8

unfoldable pub stride_ok : ℕ → ℕ → Bool
stride_ok t n = cond (eqb n 1) (eqb t 0) (leb 1 t)

unfoldable pub last_byte : Range → ℕ
last_byte r = r.base + (r.count - 1) * r.stride + (r.size - 1)

unfoldable pub range_ok : Range → Bool
range_ok r =
    leb 1 r.count
    && stride_ok r.stride r.count
    && size_ok r.size
    && leb (last_byte r) 4294967295

-- member 0 to 63; team size 1 to 64; REGION's team not 0; lock 0 to 63
unfoldable pub operands_ok : Command → Bool
operands_ok (Com.Member t m) = ltb m 64
operands_ok Com.End = true
operands_ok (Com.Region t z) = leb 1 t && leb 1 z && leb z 64
operands_ok Com.Barrier = true
operands_ok (Com.Acquire l) = ltb l 64
operands_ok (Com.Release l) = ltb l 64
operands_ok (Com.Access a) = range_ok a.range
operands_ok Com.Cut = true

-- whether operands fit these widths
unfoldable pub fit_widths : List ℕ → List ℕ → Bool
fit_widths [] [] = true
fit_widths [] (x ∷ xs) = false
fit_widths (w ∷ ws) [] = false
fit_widths (w ∷ ws) (x ∷ xs) = ltb x (256 ^ w) && fit_widths ws xs

-- every operand in its range, and within its width
unfoldable pub in_range : Command → Bool
in_range c = fit_widths (widths_of (code_of c).byte) (code_of c).operands && operands_ok c

-- the command at a position, its operands of any value: 18 position at or past the end; 2 unknown command byte; 3 operands cut off
unfoldable pub decode_byte : List ℕ → ℕ → ℕ → Answer Taken
decode_byte s at b =
    cond (eqb (width_of b) 0) (refuses 2 at)
    (cond (ltb (length s - at) (width_of b)) (refuses 3 at)
    (gives (record { command = command_at s at b; next = at + width_of b })))

unfoldable pub decode_at : List ℕ → ℕ → Answer Taken
decode_at s at = cond (leb (length s) at) (refuses 18 at) (decode_byte s at (get_or s at 0))

-- 5 an operand outside its range
unfoldable pub ranged : ℕ → Taken → Answer Taken
ranged at t = cond (in_range t.command) (gives t) (refuses 5 at)

-- "Read a command at a position"
unfoldable pub read_at : List ℕ → ℕ → Answer Taken
read_at s at = when_given (decode_at s at) (ranged at)

-- "Put a command at a position of a lent buffer": the answer, and the buffer afterwards
pub record Lent (A : Type 0) : Type 0 where
  pub answer : Answer A
  pub buffer : List ℕ

-- the buffer with these bytes from the position on
unfoldable pub written : List ℕ → ℕ → List ℕ → List ℕ
written buffer at bytes = take at buffer ++ bytes ++ drop (at + length bytes) buffer

unfoldable pub put_at : Command → List ℕ → ℕ → Lent ℕ
put_at command buffer at =
    cond (in_range command)
    (cond (leb (length (bytes_of command)) (length buffer - at))
    (record { answer = gives (at + length (bytes_of command)); buffer = written buffer at (bytes_of command) })
    (record { answer = refuses 17 at; buffer = buffer }))
    (record { answer = refuses 5 at; buffer = buffer })
