-- Inner: the scan as the code goes: one command at a position, and the rows of the chunks and REGIONs that it has met so far.
use Rattle.std.specs.Prelude.{ℕ, ◌+◌, ◌*◌, ◌≤◌, ◌<◌, ◌≡◌, Bool, true, cond, List, [], ◌∷◌, ◌++◌, map, eqb, length}
use Rattle.std.specs.declared.result.Result.{Result}
use Rattle.std.specs.declared.result.Result.TheVariants.{Ok, Err}
use Rattle.bundle.specs.Answer.{Answer, gives, refuses, when_given, number_of}
use Rattle.bundle.specs.Commands.{Taken, decode_at}
use Rattle.bundle.specs.Lists.{any, concat_map}
use Rattle.bundle.specs.Cases.{on_delimiter, on_region}
use Rattle.bundle.specs.Chunks.{Placed, Chunk, Gathered, after_commands, front_from, gather, chunks_of, is_end}
use Rattle.bundle.specs.Walk.{opens_segment, adds_access, entries_from, fork_at, forks_of}
use Rattle.bundle.specs.Scan.{fault_of, start, scanned, walk, scan_of}
use Rattle.bundle.specs.Index.{table, chunk_row_at, fork_row_at, total, rows_from, chunk_rows}
use Rattle.bundle.specs.declared.refusal.Cause.TheVariants as Causes
use Rattle.bundle.specs.declared.chunk.ChunkState.{ChunkState}
use Rattle.bundle.specs.declared.scan.Scan.{Scan}
use Rattle.bundle.specs.declared.command.Command.{Command}
use Rattle.bundle.specs.declared.index.ChunkRow.{ChunkRow}
use Rattle.bundle.specs.declared.index.Fork.{Fork}
use Rattle.bundle.specs.declared.survey.Open.{Open}
use Rattle.bundle.specs.declared.survey.Progress.{Progress}
use Rattle.bundle.specs.declared.survey.RowCounts.{RowCounts}
use Rattle.bundle.specs.declared.refusal.Refusal.{Refusal}
pub use Rattle.bundle.specs.declared.scan.Stepped.{Stepped}

-- the scan's counts are within 7's limits, and the open chunk's within the count of segments; it has the wide group only of accesses
pub record Bounded (k : Scan) : Type 0 where
  pub segments : k.segments ≤ 512
  pub accesses : k.accesses ≤ 1024
  pub opened : k.state.barriers + k.state.regions ≤ k.segments
  pub grouped : k.wide ≡ true → 0 < k.accesses

abbrev pub scan_with : Scan → ChunkState → ℕ → ℕ → Bool → Scan
scan_with k state opens adds wide =
    record {
      inside = k.inside;
      team = k.team;
      state = state;
      segments = k.segments + opens;
      accesses = k.accesses + adds;
      wide = wide;
    }

-- 4, 20, 5, 6 and 7 in that order, where the tests say so
abbrev pub decided : ℕ → Bool → Bool → Bool → Bool → Bool → Answer Stepped → Answer Stepped
decided at misplaced foreign beyond misused many onward =
    cond misplaced (refuses 4 at)
    (cond foreign (refuses 20 at)
    (cond beyond (refuses 5 at) (cond misused (refuses 6 at) (cond many (refuses 7 at) onward))))

unfoldable pub tested_at : Scan → ℕ → Taken → Answer Stepped
tested_at k at t =
    cond (eqb (fault_of k t.command) 0)
    (gives (record { scan = scanned k t.command; command = t.command; next = t.next }))
    (refuses (fault_of k t.command) at)

unfoldable pub step_at : List ℕ → ℕ → Scan → Answer Stepped
step_at s at k = when_given (decode_at s at) (tested_at k at)

-- the pass at the front of a bundle
unfoldable pub beginning : Progress
beginning =
    record {
      at = 0;
      scan = start;
      chunk = record { place = 0; member = 0; segments = 0; accesses = 0 };
      chunks = 0;
      forks = 0;
    }

-- the chunk that MEMBER opens at the position, the row of the one that is closed there, and a REGION there
unfoldable pub opened_at : Progress → ℕ → Open
opened_at p m = record { place = p.at; member = m; segments = p.scan.segments; accesses = p.scan.accesses }

unfoldable pub closed_row : Progress → Bool → ChunkRow
closed_row p whole =
    record {
      place = p.chunk.place;
      past = p.at + 1;
      team = p.scan.team;
      member = p.chunk.member;
      barriers = p.scan.state.barriers;
      complete = whole;
      segments = p.chunk.segments;
      accesses = p.chunk.accesses;
    }

unfoldable pub fork_here : Progress → ℕ → ℕ → Fork
fork_here p t z =
    record { place = p.at; team = t; size = z; parent = p.scan.team; member = p.chunk.member; state = p.scan.state }

-- the pass after a command, and the rows that the command adds
unfoldable pub pass_after : Progress → Command → Scan → ℕ → Progress
pass_after p c k next =
    record {
      at = next;
      scan = k;
      chunk = on_delimiter p.chunk (λ t m. opened_at p m) p.chunk c;
      chunks = on_delimiter p.chunks (λ t m. p.chunks) (p.chunks + 1) c;
      forks = on_region p.forks (λ t z. p.forks + 1) c;
    }

unfoldable pub new_chunks : Progress → Command → List ChunkRow
new_chunks p c = on_delimiter [] (λ t m. []) (closed_row p (is_end c) ∷ []) c

unfoldable pub new_forks : Progress → Command → List Fork
new_forks p = on_region [] (λ t z. fork_here p t z ∷ [])

-- the position and the counts fit a row
pub record Near (p : Progress) : Type 0 where
  pub at : p.at < 65536
  pub bounded : Bounded p.scan

-- there is room for one more row, and its numbers fit
pub record Notable (p : Progress) (chunks forks : List ℕ) : Type 0 where
  pub chunk_room : 2 * p.chunks + 1 < length chunks
  pub fork_room : 3 * p.forks + 2 < length forks
  pub few : p.chunks + p.forks < 512
  pub near : Near p

pub record Noted (p : Progress) (c : Command) (k : Scan) (next : ℕ) (r : Progress) (chunks forks chunks' forks' : List ℕ) : Type 0 where
  pub pass : r ≡ pass_after p c k next
  pub chunk_long : length chunks' ≡ length chunks
  pub fork_long : length forks' ≡ length forks
  pub chunk-rows : table (chunk_row_at chunks') r.chunks ≡ table (chunk_row_at chunks) p.chunks ++ new_chunks p c
  pub fork_rows : table (fork_row_at forks') r.forks ≡ table (fork_row_at forks) p.forks ++ new_forks p c

-- the row of the open chunk, whose commands to come are these and which ends there
unfoldable pub open_row : Progress → List Command → ℕ → ChunkRow
open_row p cs past =
    record {
      place = p.chunk.place;
      past = past;
      team = p.scan.team;
      member = p.chunk.member;
      barriers = (after_commands p.scan.state cs).barriers;
      complete = any is_end cs;
      segments = p.chunk.segments;
      accesses = p.chunk.accesses;
    }

-- the rows still to come, of the open chunk and of those behind it
unfoldable pub rows_behind : Scan → List Command → List Chunk → List ChunkRow
rows_behind k cs = rows_from (k.segments + total opens_segment cs) (k.accesses + total adds_access cs)

unfoldable pub chunks_to_come : Progress → Gathered → List ChunkRow
chunks_to_come p g =
    let cs = map (λ (q : Placed). q.command) g.body in
    cond p.scan.inside
    (open_row p cs g.past ∷ rows_behind p.scan cs g.chunks)
    (rows_from p.scan.segments p.scan.accesses g.chunks)

unfoldable pub forks_to_come : Progress → Gathered → List Fork
forks_to_come p g =
    cond p.scan.inside
    (concat_map (fork_at p.scan.team p.chunk.member) (entries_from p.scan.state 0 0 g.body) ++ forks_of g.chunks)
    (forks_of g.chunks)

-- the pass is at a position of the bundle: what the rest of the commands adds to it is the whole
pub record Surveying (s : List ℕ) (p : Progress) (chunks forks : List ℕ) : Type 0 where
  pub fuel : ℕ
  pub enough : length s ≤ p.at + fuel
  pub within : p.at ≤ length s
  pub short : length s ≤ 65536
  pub chunk_table : length chunks ≡ 1024
  pub fork_table : length forks ≡ 1536
  pub bounded : Bounded p.scan
  pub few : p.chunks + p.forks + cond p.scan.inside 1 0 ≤ p.scan.segments
  pub scan_rest : walk (front_from fuel s p.at).placed (front_from fuel s p.at).stop p.scan ≡ scan_of s
  pub chunk_rest :
      table (chunk_row_at chunks) p.chunks ++ chunks_to_come p (gather (front_from fuel s p.at).placed) ≡ chunk_rows (chunks_of s)
  pub fork_rest :
      table (fork_row_at forks) p.forks ++ forks_to_come p (gather (front_from fuel s p.at).placed) ≡ forks_of (chunks_of s)

unfoldable pub finished : Progress → ℕ → Result RowCounts Refusal
finished p end = cond p.scan.inside (Err (record { place = end; cause = Causes.Misplaced })) (Ok (record { chunks = p.chunks; forks = p.forks }))

-- the bundle passes the scan, and the tables hold its rows
pub record InTables (s : List ℕ) (n m : ℕ) (chunks forks : List ℕ) : Type 0 where
  pub scan : Scan
  pub passes : scan_of s ≡ gives scan
  pub few : n + m ≤ 512
  pub chunk_table : length chunks ≡ 1024
  pub fork_table : length forks ≡ 1536
  pub chunk-rows : table (chunk_row_at chunks) n ≡ chunk_rows (chunks_of s)
  pub fork_rows : table (fork_row_at forks) m ≡ forks_of (chunks_of s)

abbrev pub Surveyed : List ℕ → Result RowCounts Refusal → List ℕ → List ℕ → Type 0
Surveyed s (Ok k) chunks forks = InTables s k.chunks k.forks chunks forks
Surveyed s (Err r) chunks forks = scan_of s ≡ refuses (number_of r.cause) r.place
