-- What `stat` is asked of a name, and what its answer says.
use Rattle.std.specs.Prelude.{◌≡◌, ℕ, ◌/◌, ◌%◌, Bool, false, cond, List, eqb, ltb, length, get_or, set, take, replicate, Option, Some, None}
use Rattle.bundle.specs.Commands.{written}

-- a regular file: the call did not fail, and of the mode that it gave the bits from 12 to 15, which say the kind, are 8 (`S_IFREG`)
abbrev pub is_regular : Option ℕ → Bool
is_regular (Some mode) = eqb (mode / 4096 % 16) 8
is_regular None = false

-- a name as a path: its bytes in 4,096 zeros, of which the last stays. A name that leaves no room for it is taken for the empty one
abbrev pub path_of : List ℕ → List ℕ
path_of name = cond (ltb (length name) 4096) (set (written (replicate 4096 0) 0 name) 4095 0) (replicate 4096 0)

-- the last of a path's 4,096 bytes is 0
abbrev pub IsEnded : List ℕ → Type 0
IsEnded path = get_or path 4095 1 ≡ 0

-- a text is the path's bytes before a 0 byte
pub record IsTextOf (path text : List ℕ) : Type 0 where
  pub front : take (length text) path ≡ text
  pub ended : get_or path (length text) 1 ≡ 0
