-- Inner: what the functions that order and copy the chunks promise each other.
use Rattle.std.specs.Prelude.{ℕ, ◌+◌, ◌-◌, ◌*◌, ◌%◌, ◌≤◌, ◌<◌, ◌≡◌, List, map, length, get_or, take, drop}
use Rattle.bundle.specs.Answer.{gives}
use Rattle.bundle.specs.Lists.{back_to_back}
use Rattle.bundle.specs.Chunks.{chunks_of}
use Rattle.bundle.specs.Check.{check_of}
use Rattle.bundle.specs.Index.{chunk_row_at, table, chunk_rows}
use Rattle.bundle.specs.declared.index.ChunkRow.{ChunkRow}

-- a chunk's team and member with its index
abbrev pub word_of : ChunkRow → ℕ → ℕ
word_of row i = (row.team * 256 + row.member) * 65536 + i

unfoldable pub chunk_word : List ℕ → ℕ → ℕ
chunk_word chunks i = word_of (chunk_row_at chunks i) i

-- the bytes of a row's chunk, and of the chunk whose index a word holds
abbrev pub row_part : List ℕ → ChunkRow → List ℕ
row_part s row = take (row.past - row.place) (drop row.place s)

unfoldable pub piece_at : List ℕ → List ℕ → ℕ → List ℕ
piece_at s chunks word = row_part s (chunk_row_at chunks (word % 65536))

unfoldable pub pieces : List ℕ → List ℕ → List ℕ → List ℕ
pieces s chunks words = back_to_back (map (piece_at s chunks) words)

pub record RowFits (s : List ℕ) (row : ChunkRow) : Type 0 where
  pub ordered : row.place ≤ row.past
  pub within : row.past ≤ length s

pub record PiecesFit (s chunks words : List ℕ) (room : ℕ) : Type 0 where
  pub each : (i : ℕ) → i < length words → RowFits s (chunk_row_at chunks (get_or words i 0 % 65536))
  pub all : length (pieces s chunks words) ≤ room

-- the words hold the rows of the n chunks of an accepted bundle
pub record ByIndex (s : List ℕ) (n : ℕ) (chunks : List ℕ) : Type 0 where
  pub accepted : check_of s ≡ gives tt
  pub few : n ≤ 512
  pub rows : table (chunk_row_at chunks) n ≡ chunk_rows (chunks_of s)
