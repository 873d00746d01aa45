-- Inner: what the judge's tables hold: of a segment three numbers, of an access a row of eight words.
use Rattle.std.specs.Prelude.{ℕ, ◌+◌, ◌*◌, ◌/◌, ◌%◌, ◌≤◌, ◌<◌, ◌≡◌, true, List, length, get_or}
use Rattle.std.proofs.Math.Option.{some}
use Rattle.std.proofs.Math.ListN.{get_elem?}
use Rattle.bundle.specs.Commands.{range_ok, last_byte}
use Rattle.bundle.specs.declared.command.AccessKind.{AccessKind}
use Rattle.bundle.specs.declared.command.AccessKind.TheVariants as Kind
use Rattle.bundle.specs.Walk.{Node, Border, of_chunk, of_barrier, of_region, Segment}
use Rattle.verdict.specs.Accesses.{NamedAccess}
use Rattle.verdict.specs.declared.rows.AccessRow.{AccessRow}

-- an event at which segments end and are opened, as a number: a team's events have 1024 numbers, the fork first, the join last, and the
-- barriers between in their order. In an accepted bundle a barrier's number is below 512, and the remainder changes nothing; with it these
-- numbers have 32 bits whatever the barrier's number is
abbrev pub fork_code : ℕ → ℕ
fork_code team = 1024 * team

abbrev pub barrier_code : ℕ → ℕ → ℕ
barrier_code number team = 1 + number % 512 + 1024 * team

abbrev pub join_code : ℕ → ℕ
join_code team = 1023 + 1024 * team

-- where a segment ends that has passed so many barriers. Twice an event: at that event, the barrier or the fork of another team. Twice an
-- event and one: at the end of the chunk, and all events of its team from that one on come after it, the barriers that the chunk lacks and
-- the join
unfoldable pub end_code : ℕ → ℕ → Border → ℕ
end_code team passed of_chunk = 1 + 2 * barrier_code passed team
end_code team passed (of_barrier n) = 2 * barrier_code n team
end_code team passed (of_region t) = 2 * fork_code t

-- where it is opened: the fork of its own team, the barrier, or the join of another team
unfoldable pub open_code : ℕ → Border → ℕ
open_code team of_chunk = fork_code team
open_code team (of_barrier n) = barrier_code n team
open_code team (of_region t) = join_code t

-- a segment's team, member and number as one number. In an accepted bundle the segment's number is below 512 and the member's below 64, and
-- the remainders change nothing; with them the number has 32 bits whatever the segment is. By 1024 and not 512, so that one more than the
-- last segment's is not the number of the next member's segment 0
unfoldable pub node_code : Node → ℕ
node_code n = n.number % 1024 + 1024 * (n.member % 64 + 64 * n.team)

-- the tables hold the segments' numbers
pub record SegmentTables (segments : List Segment) (ends opens nodes : List ℕ) : Type 0 where
  pub few : length segments ≤ 512
  pub end_codes : (i : ℕ) {s : Segment} → get_elem? segments i ≡ some s → get_or ends i 0 ≡ end_code s.node.team s.state.barriers s.ended
  pub open_codes : (i : ℕ) {s : Segment} → get_elem? segments i ≡ some s → get_or opens i 0 ≡ open_code s.node.team s.opened
  pub node_codes : (i : ℕ) {s : Segment} → get_elem? segments i ≡ some s → get_or nodes i 0 ≡ node_code s.node

-- an access kind as a number: 1 is added where it writes, 2 where it is atomic
unfoldable pub kind_code : AccessKind → ℕ
kind_code Kind.Read = 0
kind_code Kind.Write = 1
kind_code Kind.AtomicRead = 2
kind_code Kind.AtomicWrite = 3

-- the row of an access in eight words, one of each column. The site stands in two halves: below the segment, and above kind, size and member
unfoldable pub access_row_at : List ℕ → ℕ → AccessRow
access_row_at words i =
    record {
      base = get_or words i 0;
      stride = get_or words (i + 5120) 0 % 65536;
      count = get_or words (i + 5120) 0 / 65536;
      team = get_or words (i + 6144) 0 % 65536;
      number = get_or words (i + 6144) 0 / 65536;
      site = get_or words (i + 7168) 0 % 65536 + 65536 * (get_or words (i + 4096) 0 / 65536);
      segment = get_or words (i + 7168) 0 / 65536;
      size = get_or words (i + 4096) 0 / 16 % 16;
      member = get_or words (i + 4096) 0 / 256 % 256;
      kind = get_or words (i + 4096) 0 % 16;
      locks = get_or words (i + 2048) 0 + 4294967296 * get_or words (i + 3072) 0;
      last = get_or words (i + 1024) 0;
    }

-- the words have a row of that number
pub record RowIn (words : List ℕ) (i : ℕ) : Type 0 where
  pub below : i < 1024
  pub whole : 8192 ≤ length words

-- a row whose kind and size have four bits
pub record Slim (r : AccessRow) : Type 0 where
  pub kind : r.kind < 16
  pub size : r.size < 16

-- a row is that of an access; its segment is the place of the access's segment in the list of all
pub record RowOf (segments : List Segment) (x : NamedAccess) (r : AccessRow) : Type 0 where
  pub team : r.team ≡ x.name.team
  pub member : r.member ≡ x.name.member
  pub number : r.number ≡ x.name.number
  pub site : r.site ≡ x.access.site
  pub kind : r.kind ≡ kind_code x.access.kind
  pub base : r.base ≡ x.access.range.base
  pub stride : r.stride ≡ x.access.range.stride
  pub count : r.count ≡ x.access.range.count
  pub size : r.size ≡ x.access.range.size
  pub last : r.last ≡ last_byte x.access.range
  pub locks : r.locks ≡ x.locks
  pub good : range_ok x.access.range ≡ true
  pub stands : Segment
  pub stands_in : get_elem? segments r.segment ≡ some stands
  pub stands_node : stands.node ≡ x.node

-- the words hold the rows of the accesses
pub record AccessTable (segments : List Segment) (accesses : List NamedAccess) (words : List ℕ) : Type 0 where
  pub few : length accesses ≤ 1024
  pub rows : (i : ℕ) {x : NamedAccess} → get_elem? accesses i ≡ some x → RowOf segments x (access_row_at words i)
