-- Inner: the pass that fills the judge's tables: where it is, what each command changes, and what the tables hold at the end.
use Rattle.std.specs.Prelude.{ℕ, ◌+◌, ◌≤◌, ◌<◌, ◌≡◌, true, false, List, length, set}
use Rattle.bundle.specs.Commands.{in_range, last_byte}
use Rattle.bundle.specs.Cases.{on_delimiter, on_opening}
use Rattle.bundle.specs.Chunks.{fresh, after_command, chunks_of}
use Rattle.bundle.specs.Walk.{opens_segment, adds_access, Node, Border, of_chunk, of_barrier, of_region}
use Rattle.bundle.specs.Scan.{misuses_lock}
use Rattle.bundle.specs.Index.{Added}
use Rattle.bundle.specs.declared.chunk.ChunkState.{ChunkState}
use Rattle.bundle.specs.declared.command.Access.{Access}
use Rattle.bundle.specs.declared.command.Command.{Command}
use Rattle.bundle.specs.declared.command.Command.TheVariants as Com
use Rattle.verdict.specs.Graph.{segments_of}
use Rattle.verdict.specs.Accesses.{accesses_of}
use Rattle.verdict.specs.Working.{end_code, open_code, node_code, kind_code, access_row_at, SegmentTables, AccessTable}
use Rattle.verdict.specs.declared.fill.Counts.{Counts}
use Rattle.verdict.specs.declared.fill.Cursor.{Cursor}
use Rattle.verdict.specs.declared.rows.AccessRow.{AccessRow}

-- the pass at the front of a bundle
abbrev pub beginning : Cursor
beginning = record { at = 0; team = 0; member = 0; state = fresh; segment = 0; number = 0; access = 0; accesses = 0 }

-- the open segment
abbrev pub node_here : Cursor → Node
node_here p = record { team = p.team; member = p.member; number = p.number }

-- after MEMBER, and after END or CUT
abbrev pub entered : Cursor → ℕ → ℕ → ℕ → Cursor
entered p t m next =
    record {
      at = next;
      team = t;
      member = m;
      state = fresh;
      segment = p.segment;
      number = 0;
      access = 0;
      accesses = p.accesses;
    }

abbrev pub left : Cursor → ℕ → Cursor
left p next =
    record {
      at = next;
      team = 0;
      member = 0;
      state = fresh;
      segment = p.segment + 1;
      number = 0;
      access = 0;
      accesses = p.accesses;
    }

-- inside a chunk: another state, and so many segments and accesses more
abbrev pub advanced : Cursor → ChunkState → ℕ → ℕ → ℕ → Cursor
advanced p state opens adds next =
    record {
      at = next;
      team = p.team;
      member = p.member;
      state = state;
      segment = p.segment + opens;
      number = p.number + opens;
      access = p.access + adds;
      accesses = p.accesses + adds;
    }

unfoldable pub cursor_after : Cursor → Command → ℕ → Cursor
cursor_after p c next =
    on_delimiter
    (advanced p (after_command p.state c) (opens_segment c) (adds_access c) next)
    (λ t m. entered p t m next)
    (left p next)
    c

-- the counts fit their words
pub record Countable (p : Cursor) (opens adds : ℕ) : Type 0 where
  pub segments : p.segment + opens ≤ 512
  pub numbers : p.number ≤ p.segment
  pub accesses : p.accesses + adds ≤ 1024
  pub accesses-in : p.access ≤ p.accesses

-- REGION and BARRIER end the open segment and open the next
unfoldable pub on_crossing : {A : Type 0} → ChunkState → A → (Border → A) → Command → A
on_crossing k other crosses = on_opening other other (λ t. crosses (of_region t)) (crosses (of_barrier k.barriers))

-- the tables after a command: where segments end, where they are opened, and their nodes
unfoldable pub ends_after : Cursor → Command → List ℕ → List ℕ
ends_after p c ends =
    on_delimiter
    (on_crossing p.state ends (λ b. set ends p.segment (end_code p.team p.state.barriers b)) c)
    (λ t m. ends)
    (set ends p.segment (end_code p.team p.state.barriers of_chunk))
    c

unfoldable pub opens_after : Cursor → Command → List ℕ → List ℕ
opens_after p c opens =
    on_delimiter
    (on_crossing p.state opens (λ b. set opens (p.segment + 1) (open_code p.team b)) c)
    (λ t m. set opens p.segment (open_code t of_chunk))
    opens
    c

unfoldable pub nodes_after : Cursor → Command → List ℕ → List ℕ
nodes_after p c nodes =
    on_delimiter
    (on_crossing p.state nodes (λ b. set nodes (p.segment + 1) (node_code (record { team = p.team; member = p.member; number = p.number + 1 }))) c)
    (λ t m. set nodes p.segment (node_code (record { team = t; member = m; number = 0 })))
    nodes
    c

-- the row of an access at the position
unfoldable pub row_here : Cursor → Access → AccessRow
row_here p a =
    record {
      base = a.range.base;
      stride = a.range.stride;
      count = a.range.count;
      team = p.team;
      number = p.access;
      site = a.site;
      segment = p.segment;
      size = a.range.size;
      member = p.member;
      kind = kind_code a.kind;
      locks = p.state.locks;
      last = last_byte a.range;
    }

pub record SegmentOpened (p : Cursor) (code : ℕ) (opens nodes opens' nodes' : List ℕ) : Type 0 where
  pub opened : opens' ≡ set opens p.segment code
  pub node : nodes' ≡ set nodes p.segment (node_code (node_here p))

-- tables for all that a bundle can have
pub record Room (ends opens nodes rows : List ℕ) : Type 0 where
  pub end_table : length ends ≡ 512
  pub open_table : length opens ≡ 512
  pub node_table : length nodes ≡ 512
  pub row_table : 8192 ≤ length rows

-- a command that the scan passes, with room in the tables for what it adds
pub record Notable (p : Cursor) (c : Command) (ends opens nodes rows : List ℕ) : Type 0 where
  pub in-range : in_range c ≡ true
  pub locks_ok : misuses_lock p.state.locks c ≡ false
  pub segment : p.segment + on_crossing p.state 0 (λ b. 1) c < 512
  pub number : p.number ≤ p.segment
  pub opened : p.state.barriers + p.state.regions ≤ p.number
  pub access : p.accesses + adds_access c ≤ 1024
  pub access_in : p.access ≤ p.accesses
  pub room : Room ends opens nodes rows

pub record Noted (p : Cursor) (c : Command) (next : ℕ) (r : Cursor) (ends opens nodes rows ends' opens' nodes' rows' : List ℕ) : Type 0 where
  pub cursor : r ≡ cursor_after p c next
  pub end_codes : ends' ≡ ends_after p c ends
  pub open_codes : opens' ≡ opens_after p c opens
  pub node_codes : nodes' ≡ nodes_after p c nodes
  pub no_row : adds_access c ≡ 0 → rows' ≡ rows
  pub row : (a : Access) → c ≡ Com.Access a → Added access_row_at rows rows' p.accesses (row_here p a)

-- the tables hold the bundle's segments and accesses
pub record Filled (s : List ℕ) (r : Counts) (long : ℕ) (ends opens nodes rows : List ℕ) : Type 0 where
  pub segments : r.segments ≡ length (segments_of (chunks_of s))
  pub accesses : r.accesses ≡ length (accesses_of (chunks_of s))
  pub segment_tables : SegmentTables (segments_of (chunks_of s)) ends opens nodes
  pub access_table : AccessTable (segments_of (chunks_of s)) (accesses_of (chunks_of s)) rows
  pub end_table : length ends ≡ 512
  pub open_table : length opens ≡ 512
  pub node_table : length nodes ≡ 512
  pub row_table : length rows ≡ long
