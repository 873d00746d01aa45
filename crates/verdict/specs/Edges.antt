-- Inner: the edges between a bundle's segments as a test on the numbers in the judge's tables.
use Rattle.std.specs.Prelude.{ℕ, ◌+◌, ◌*◌, ◌/◌, ◌%◌, ◌≤◌, ◌<◌, ◌≡◌, Bool, cond, ◌&&◌, ◌||◌, eqb, leb, length, get_or}
use mathlib.Core.List.{List, map, Memᴰ}
use Rattle.bundle.proofs.ListLaws.{Distinct}
use Rattle.bundle.specs.Walk.{of_chunk, of_barrier, Segment}
use Rattle.verdict.specs.Matrix.{bit_at, PathBits}
use Rattle.verdict.specs.Working.{SegmentTables}

-- the events to which a segment leads by the number of where it ends: the first, and the last, which is the same or the join of its team
abbrev pub first_event : ℕ → ℕ
first_event end = end / 2

unfoldable pub last_event : ℕ → ℕ
last_event end = cond (eqb (end % 2) 0) (end / 2) (end / 2048 * 1024 + 1023)

-- a segment that leads to the events from one to another and whose next has a number, and one that is opened at an event and has a number:
-- the first leads to where the second is opened, or the second is its next
abbrev pub edge_test : ℕ → ℕ → ℕ → ℕ → ℕ → Bool
edge_test low high next opened node = leb low opened && leb opened high || eqb next node

-- the same for the second at a place of the tables, and for both
abbrev pub edge_column : List ℕ → List ℕ → ℕ → ℕ → ℕ → ℕ → Bool
edge_column opens nodes low high next c = edge_test low high next (get_or opens c 0) (get_or nodes c 0)

abbrev pub table_edge : List ℕ → List ℕ → List ℕ → ℕ → ℕ → Bool
table_edge ends opens nodes i = edge_column opens nodes (first_event (get_or ends i 0)) (last_event (get_or ends i 0)) (get_or nodes i 0 + 1)

-- whole tables, of which the places below n are used
pub record Tables (ends opens nodes : List ℕ) (n : ℕ) : Type 0 where
  pub ends_whole : length ends ≡ 512
  pub opens_whole : length opens ≡ 512
  pub nodes_whole : length nodes ≡ 512
  pub small : n ≤ 512
  pub codes : (i : ℕ) → i < n → get_or nodes i 0 < 4294967295

-- 32 columns of the tables
pub record Columns (opens nodes : List ℕ) (first : ℕ) : Type 0 where
  pub opens_in : first + 32 ≤ length opens
  pub nodes_in : first + 32 ≤ length nodes

-- the tests of the columns below n in row i
pub record RowFilled (test : ℕ → Bool) (n i : ℕ) (before after : List ℕ) : Type 0 where
  pub len : length after ≡ length before
  pub row : (c : ℕ) → c < n → bit_at after i c ≡ test c
  pub others : (r c : ℕ) → c < 512 → (r ≡ i → ⊥) → bit_at after r c ≡ bit_at before r c

-- the tests of the rows and columns below n
pub record Filled (test : ℕ → ℕ → Bool) (n : ℕ) (before after : List ℕ) : Type 0 where
  pub len : length after ≡ length before
  pub bits : (r c : ℕ) → r < n → c < n → bit_at after r c ≡ test r c

-- what holds of the segments of an accepted bundle: their numbers are small, only segment 0 of a chunk is opened by MEMBER, and no two are
-- one node
pub record Regular (segments : List Segment) : Type 0 where
  pub team : (s : Segment) → Memᴰ s segments → s.node.team < 65536
  pub member : (s : Segment) → Memᴰ s segments → s.node.member < 64
  pub number : (s : Segment) → Memᴰ s segments → s.node.number < 512
  pub opened_first : (s : Segment) → Memᴰ s segments → s.node.number ≡ 0 → s.opened ≡ of_chunk
  pub first_opened : (s : Segment) → Memᴰ s segments → s.opened ≡ of_chunk → s.node.number ≡ 0
  pub opened_barrier : (s : Segment) (n : ℕ) → Memᴰ s segments → s.opened ≡ of_barrier n → n < 512
  pub barriers : (s : Segment) → Memᴰ s segments → s.state.barriers < 512
  pub ended_barrier : (s : Segment) (n : ℕ) → Memᴰ s segments → s.ended ≡ of_barrier n → n < 512
  pub distinct : Distinct (map (λ (s : Segment). s.node) segments)

-- whatever segments the tables hold, the bits say which of them reach which
pub record Reached (ends opens nodes : List ℕ) (n : ℕ) (before after : List ℕ) : Type 0 where
  pub len : length after ≡ length before
  pub paths :
      (segments : List Segment)
      → length segments ≡ n
      → SegmentTables segments ends opens nodes
      → Regular segments
      → PathBits segments after
