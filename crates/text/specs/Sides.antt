-- The texts of accesses in a table, 32 bytes for each.
use Rattle.std.specs.Prelude.{ℕ, ◌+◌, ◌-◌, ◌%◌, List, [], ◌++◌, length, get_or, set, take, replicate}
use Rattle.text.specs.Digits.{ascii, hexadecimal}
use Rattle.text.specs.Lines.{line_end}

-- the text in 32 bytes: so many of them as the last one says
unfoldable pub side_text : List ℕ → List ℕ
side_text side = take (get_or side 31 0 % 32) side

-- the texts with one put at a rank: over the one that is there, or after empty ones for the ranks before it that have none
unfoldable pub with_side : List (List ℕ) → ℕ → List ℕ → List (List ℕ)
with_side texts rank text = set (texts ++ replicate (rank + 1 - length texts) []) rank text

-- the line of a race whose accesses have these texts
unfoldable pub sides_line : ℕ → List ℕ → List ℕ → List ℕ
sides_line witness first second = ascii "race " ++ hexadecimal witness ++ first ++ second ++ line_end
