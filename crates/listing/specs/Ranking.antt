-- Inner: the accesses in the order of their names.
use Rattle.std.specs.Prelude.{ℕ, ◌+◌, ◌*◌, ◌/◌, ◌%◌, ◌≤◌, ◌<◌, ◌≡◌, cond, List, eqb, length, get_or}
use Rattle.sorting.specs.Order.{sorted}
use Rattle.bundle.specs.Index.{table}
use Rattle.verdict.specs.Working.{access_row_at}
use Rattle.verdict.specs.Tallying.{packed, row_name}
use Rattle.verdict.specs.declared.rows.AccessRow.{AccessRow}

-- n rows of a whole table
pub record RowsIn (rows : List ℕ) (n : ℕ) : Type 0 where
  pub few : n ≤ 1024
  pub whole : 8192 ≤ length rows

-- the name of the i-th access, and its place
abbrev pub name_word : List ℕ → ℕ → ℕ
name_word rows i = packed (row_name (access_row_at rows i)) * 1024 + i

-- the places of the first n accesses in the order of their names, behind the names
unfoldable pub order_of : List ℕ → ℕ → List ℕ
order_of rows n = sorted (table (name_word rows) n)

-- the first n rows are those that the words name
pub record Copied (rows words : List ℕ) (n : ℕ) (before after : List ℕ) : Type 0 where
  pub long : length after ≡ length before
  pub each : (i : ℕ) → i < n → access_row_at after i ≡ access_row_at rows (get_or words i 0 % 1024)

-- the two words of a row: name, size and stride; base and site
abbrev pub side_of_row : AccessRow → ℕ
side_of_row r = packed (row_name r) * 16777216 + r.size * 65536 + r.stride

abbrev pub spot_of_row : AccessRow → ℕ
spot_of_row r = r.base * 4294967296 + r.site

-- both as one number
abbrev pub double_of_row : AccessRow → ℕ
double_of_row r = side_of_row r * 18446744073709551616 + spot_of_row r

abbrev pub double_at : List ℕ → ℕ → ℕ
double_at rows i = double_of_row (access_row_at rows i)

-- the words of the rows one after another
abbrev pub word_of : List ℕ → ℕ → ℕ
word_of rows i = cond (eqb (i % 2) 0) (side_of_row (access_row_at rows (i / 2))) (spot_of_row (access_row_at rows (i / 2)))
