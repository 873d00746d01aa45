-- What the rows of an accepted bundle are, as one statement.
use Rattle.std.specs.Prelude.{ℕ, ◌+◌, ◌*◌, ◌≤◌, ◌<◌, ◌≡◌, ◌↔◌, length, take, drop, get_or}
use mathlib.Core.List.{List, [], ◌∷◌, ◌++◌, map, Memᴰ}
use Rattle.bundle.specs.Answer.{gives, refuses}
use Rattle.bundle.specs.Commands.{Bytes}
use Rattle.bundle.specs.Chunks.{Chunk, chunks_of}
use Rattle.bundle.specs.Walk.{Segment, segments_in, of_chunk, of_barrier, barriers_of}
use Rattle.bundle.specs.Index.{total}
use Rattle.bundle.specs.Check.{Accepted}
use Rattle.rewrite.specs.FixedOrder.{Ascending}
use Rattle.rows.specs.Rows.{Interval, intervals_in, interval_name, intervals_of, rows_of, export_of, check_rows_of, agreeing}
use Rattle.rows.specs.declared.row.Row.{Row}

-- intervals whose data follow each other without a gap, from an offset to another, none of them empty
pub data Tiling : ℕ → ℕ → List Interval → Type 0 where
  tiling_none : {at : ℕ} → Tiling at at []
  tiling_more : {to : ℕ} {i : Interval} {is : List Interval} → i.begin < i.past → Tiling i.past to is → Tiling i.begin to (i ∷ is)

-- an interval of a chunk, by its number
pub record OfChunk (b : List ℕ) (name : List ℕ) : Type 0 where
  pub chunk : Chunk
  pub present : Memᴰ chunk (chunks_of b)
  pub number : ℕ
  pub passed : number ≤ barriers_of chunk
  pub is : name ≡ chunk.team ∷ chunk.member ∷ number ∷ []

-- the segment that MEMBER or BARRIER opens where an interval starts
pub record StartsAs (c : Chunk) (i : Interval) : Type 0 where
  pub team : i.team ≡ c.team
  pub member : i.member ≡ c.member
  pub segment : Segment
  pub present : Memᴰ segment (segments_in c)
  pub state : segment.state ≡ i.state
  pub first : i.state.barriers ≡ 0 → segment.opened ≡ of_chunk
  pub later : (n : ℕ) → i.state.barriers ≡ n + 1 → segment.opened ≡ of_barrier n

-- the first index at which two lists of records differ, or at which one of them ends
pub record FirstOther (rows given : List Row) (n : ℕ) : Type 0 where
  pub within : n ≤ length rows
  pub within_given : n ≤ length given
  pub same : take n rows ≡ take n given
  pub other : (d : Row) → n < length rows → n < length given → get_or rows n d ≡ get_or given n d → ⊥

pub record Rows (b : List ℕ) : Type 0 where
  -- "All sizes add up to the bundle's length less 4 times its chunks"
  pub sizes : total (λ (r : Row). r.size) (rows_of b) + 4 * length (chunks_of b) ≡ length b
  -- data: behind its MEMBER, of 4 bytes, a chunk is the data of its intervals
  pub tiles : (c : Chunk) → Memᴰ c (chunks_of b) → Tiling (c.place + 4) c.past (intervals_in c)
  -- "Records go by team, member, interval", "one record for each barrier interval"
  pub by_name : Ascending (map interval_name (intervals_of b))
  pub each_interval : (name : List ℕ) → Memᴰ name (map interval_name (intervals_of b)) ↔ OfChunk b name
  -- "the label at the interval's start"
  pub starts : (c : Chunk) → Memᴰ c (chunks_of b) → (i : Interval) → Memᴰ i (intervals_in c) → StartsAs c i
  -- the export fills the front of every list that has room, and the others are refused
  pub fills :
      (lent : List Row)
      → length (rows_of b) ≤ length lent
      → export_of b lent ≡ record { answer = gives (length (rows_of b)); rows = rows_of b ++ drop (length (rows_of b)) lent }
  pub short : (lent : List Row) → length lent < length (rows_of b) → export_of b lent ≡ record { answer = refuses 22 0; rows = lent }
  -- the checker takes exactly what the export writes, and tells of anything else where it first differs
  pub exactly : (given : List Row) → (check_rows_of b given ≡ gives tt) ↔ (given ≡ rows_of b)
  pub else : (given : List Row) → (given ≡ rows_of b → ⊥) → check_rows_of b given ≡ refuses 23 (agreeing (rows_of b) given)
  pub lowest : (given : List Row) → FirstOther (rows_of b) given (agreeing (rows_of b) given)

abbrev pub RowLaws : Type 0
RowLaws = (b : List ℕ) → Bytes b → Accepted b → Rows b
