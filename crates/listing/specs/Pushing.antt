-- Inner: the numbers of races as they are met, pair by pair.
use Rattle.std.specs.Prelude.{ℕ, zero, suc, ◌+◌, ◌%◌, ◌≤◌, ◌<◌, ◌≡◌, cond, ◌&&◌, List, [], ◌∷◌, ◌++◌, eqb, ltb, length}
use Rattle.std.proofs.Math.Option.{Option, none}
use Rattle.std.proofs.lemmas.List.Edits.{sets}
use Rattle.bundle.specs.Lists.{from_option}
use Rattle.bundle.specs.declared.index.Fork.{Fork}
use Rattle.order.specs.Ranges.{shared_byte}
use Rattle.verdict.specs.Working.{access_row_at}
use Rattle.verdict.specs.Tallying.{row_range, rows_meet, rows_clash, unordered, RowFits, RowsFit}
use Rattle.verdict.specs.declared.rows.AccessRow.{AccessRow}
use Rattle.listing.specs.Listing.{number_for}

-- numbers put one after another behind the first `count` words, as long as there is room, and counted
pub record Pushes (xs before : List ℕ) (count : ℕ) (after : List ℕ) (total : ℕ) : Type 0 where
  pub counted : total ≡ count + length xs
  pub words : after ≡ sets before count xs

-- the number of a race at a byte, if there is one
abbrev pub byte_numbers : ℕ → ℕ → Option ℕ → List ℕ
byte_numbers i j byte = from_option [] (λ witness. number_for witness i j ∷ []) byte

-- the same for two accesses of which a bit tells whether they race if they are not ordered
abbrev pub next_numbers : List ℕ → AccessRow → AccessRow → ℕ → ℕ → ℕ → List ℕ
next_numbers matrix one other left i j =
    cond (ltb i j && (eqb (left % 2) 1 && unordered matrix one.segment other.segment))
    (byte_numbers i j (shared_byte (row_range one) (row_range other)))
    []

-- the byte at which two accesses race
unfoldable pub race_byte : List ℕ → List Fork → AccessRow → AccessRow → Option ℕ
race_byte matrix fs one other =
    cond (rows_meet one other && rows_clash matrix fs one other) (shared_byte (row_range one) (row_range other)) none

-- the i-th access with the j-th, if that stands behind it
unfoldable pub pair_numbers : List ℕ → List Fork → List ℕ → ℕ → ℕ → List ℕ
pair_numbers matrix fs rows i j =
    cond (ltb i j) (byte_numbers i j (race_byte matrix fs (access_row_at rows i) (access_row_at rows j))) []

-- with those below j
unfoldable pub row_numbers : List ℕ → List Fork → List ℕ → ℕ → ℕ → List ℕ
row_numbers matrix fs rows i zero = []
row_numbers matrix fs rows i (suc j) = row_numbers matrix fs rows i j ++ pair_numbers matrix fs rows i j

-- those below i with those below n
unfoldable pub all_numbers : List ℕ → List Fork → List ℕ → ℕ → ℕ → List ℕ
all_numbers matrix fs rows n zero = []
all_numbers matrix fs rows n (suc i) = all_numbers matrix fs rows n i ++ row_numbers matrix fs rows i n

-- the i-th access and the j-th, after so many races
pub record NextFits (matrix rows : List ℕ) (one : AccessRow) (i j count : ℕ) : Type 0 where
  pub whole : length matrix ≡ 8192
  pub rows_whole : 8192 ≤ length rows
  pub row : RowFits one
  pub other_row : RowFits (access_row_at rows j)
  pub below : i < 1024
  pub other_below : j < 1024
  pub few : count < 4294967295

-- the i-th access and those from `first` to `end`, at most 32, after so many races
pub record BlockFits (matrix rows : List ℕ) (one : AccessRow) (i first end count : ℕ) : Type 0 where
  pub rows_fit : RowsFit matrix rows one i first end
  pub few : count ≤ 1048576 + first

-- the i-th access with those below `first`, and after it with those below `end`
pub record BlockPushed (matrix : List ℕ) (fs : List Fork) (rows : List ℕ) (i first end : ℕ) (before : List ℕ) (count : ℕ) (after : List ℕ) (total : ℕ) : Type 0 where
  pub more :
      (words : List ℕ) (n : ℕ)
      → Pushes (row_numbers matrix fs rows i first) words n before count
      → Pushes (row_numbers matrix fs rows i end) words n after total
