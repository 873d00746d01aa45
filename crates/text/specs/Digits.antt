-- Numbers written in digits, and words, as bytes in ASCII.
use Rattle.std.specs.Prelude.{ℕ, zero, suc, ◌+◌, ◌-◌, ◌/◌, ◌%◌, ◌^◌, true, false, cond, List, [], ◌∷◌, ltb}
use Prim.Native.Char.{code}
use Prim.Native.String.{String, [] as nothing, ◌∷◌ as ◌before◌}

-- a word's bytes
abbrev pub ascii : String → List ℕ
ascii nothing = []
ascii (c before s) = code c ∷ ascii s

-- a digit's byte: 0 to 9 from 0x30 on, then lower-case letters from 0x61 on
unfoldable pub digit_byte : ℕ → ℕ
digit_byte d = cond (ltb d 10) (0x30 + d) (0x61 + (d - 10))

-- the last digits of a number in a base, so many as `width` says, the highest first
unfoldable pub digits : ℕ → ℕ → ℕ → List ℕ
digits base zero n = []
digits base (suc k) n = digit_byte (n / base ^ k % base) ∷ digits base k n

-- how many digits a number has in a base without leading zeros: a number below the base has one, 0 too. The number itself is a limit that
-- is never reached
unfoldable pub width_within : ℕ → ℕ → ℕ → ℕ
width_within zero base n = 1
width_within (suc limit) base n = elim (ltb n base) [ true ↦ 1 | false ↦ suc (width_within limit base (n / base)) ]

unfoldable pub width_of : ℕ → ℕ → ℕ
width_of base n = width_within n base n

-- "decimal without leading zeros"
abbrev pub decimal : ℕ → List ℕ
decimal n = digits 10 (width_of 10 n) n

-- "eight lower-case hexadecimal digits"
abbrev pub hexadecimal : ℕ → List ℕ
hexadecimal n = digits 16 8 n
