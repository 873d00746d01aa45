-- Inner: what the functions of reading and putting ask and promise.
use Rattle.std.specs.Prelude.{◌≡◌, ◌⊎◌, Bool, cond, ℕ, ◌+◌, ◌<◌, ◌≤◌, List, [], ◌∷◌, length, get_or, take}
use Rattle.bundle.specs.declared.command.Encoded.{Encoded}
use Rattle.bundle.specs.declared.command.Range.{Range}

-- a byte at a position
pub record StandsAt (s : List ℕ) (at b : ℕ) : Type 0 where
  pub within : at < length s
  pub byte : get_or s at 0 ≡ b

-- one of the four bytes from this one on at a position: those of a group of accesses
pub record GroupAt (s : List ℕ) (at first : ℕ) : Type 0 where
  pub within : at < length s
  pub low : first ≤ get_or s at 0
  pub high : get_or s at 0 < first + 4

-- an access's byte at a position, of either group
pub record AccessAt (s : List ℕ) (at : ℕ) : Type 0 where
  pub within : at < length s
  pub low : 0x30 ≤ get_or s at 0
  pub high : get_or s at 0 < 0x3c
  pub group : (get_or s at 0 < 0x34) ⊎ (0x38 ≤ get_or s at 0)

-- an access of a group at a position, and the position after it
pub record AccessTo (s : List ℕ) (at next : ℕ) (wide : Bool) : Type 0 where
  pub stands : GroupAt s at (cond wide 0x38 0x30)
  pub ends : next ≡ at + cond wide 14 12
  pub long : at + 12 ≤ next
  pub fits : next ≤ length s

-- the operands of an access after the site
abbrev pub range_operands : Range → List ℕ
range_operands r = r.base ∷ r.stride ∷ r.count ∷ r.size ∷ []

-- the encoded bytes are these
pub record Holds (e : Encoded) (bytes : List ℕ) : Type 0 where
  pub prefix : take e.length e.bytes ≡ bytes
  pub long : e.length ≡ length bytes
  pub within : e.length ≤ length e.bytes
