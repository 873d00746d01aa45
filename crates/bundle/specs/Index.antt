-- The index of a bundle: the rows that lent words hold, and which rows the chunks and REGIONs of a bundle have.
use Rattle.std.specs.Prelude.{ℕ, zero, suc, ◌+◌, ◌*◌, ◌/◌, ◌%◌, ◌≤◌, ◌<◌, ◌≡◌, Bool, ◌&&◌, List, [], ◌∷◌, length, get_or, eqb, ltb, cond}
use Rattle.std.specs.declared.option.Option.{Option}
use Rattle.std.specs.declared.option.Option.TheVariants.{Some, None}
unfoldable pub use Rattle.sorting.specs.Searching.{index_of}
use Rattle.bundle.specs.Answer.{gives}
use Rattle.bundle.specs.Chunks.{Chunk, chunks_of, commands_of, complete}
use Rattle.bundle.specs.Walk.{opens_segment, adds_access, barriers_of, forks_of}
use Rattle.bundle.specs.Check.{check_of}
use Rattle.bundle.specs.declared.command.Command.{Command}
use Rattle.bundle.specs.declared.command.Command.TheVariants as Com
use Rattle.bundle.specs.declared.index.ChunkRow.{ChunkRow}
use Rattle.bundle.specs.declared.index.Fork.{Fork}
use Rattle.bundle.specs.declared.index.Parts.{Parts}
use Rattle.bundle.specs.declared.index.Chunks.{Chunks}
use Rattle.bundle.specs.declared.index.Forks.{Forks}

-- the numbers that a word holds, from the low bits up
abbrev pub parts_of : ℕ → Parts
parts_of w =
    record {
      first = w % 65536;
      second = w / 65536 % 65536;
      third = w / 65536 / 65536 % 256;
      fourth = w / 65536 / 65536 / 256 % 256;
      fifth = w / 65536 / 65536 / 256 / 256;
    }

-- the rows that words hold
unfoldable pub chunk_row_of : Parts → Parts → ChunkRow
chunk_row_of one other =
    record {
      place = one.first;
      past = other.first + 1;
      team = one.fifth;
      member = one.fourth;
      barriers = one.second;
      complete = eqb one.third 1;
      segments = other.second;
      accesses = other.fifth;
    }

unfoldable pub chunk_row_at : List ℕ → ℕ → ChunkRow
chunk_row_at words i = chunk_row_of (parts_of (get_or words (2 * i) 0)) (parts_of (get_or words (2 * i + 1) 0))

unfoldable pub fork_row_of : Parts → Parts → ℕ → Fork
fork_row_of one other locks =
    record {
      place = one.first;
      team = one.fifth;
      size = one.third;
      parent = one.second;
      member = one.fourth;
      state = record { barriers = other.first; regions = other.second; locks = locks };
    }

unfoldable pub fork_row_at : List ℕ → ℕ → Fork
fork_row_at words i = fork_row_of (parts_of (get_or words (3 * i) 0)) (parts_of (get_or words (3 * i + 1) 0)) (get_or words (3 * i + 2) 0)

-- what f gives for the numbers from i on, k of them; and for the numbers below n
unfoldable pub table_from : {A : Type 0} → (ℕ → A) → ℕ → ℕ → List A
table_from f i zero = []
table_from f i (suc k) = f i ∷ table_from f (suc i) k

unfoldable pub table : {A : Type 0} → (ℕ → A) → ℕ → List A
table f n = table_from f 0 n

-- the rows in a view
abbrev pub chunk_rows_in : Chunks → List ChunkRow
chunk_rows_in c = table (chunk_row_at c.words.now) c.count

abbrev pub fork_rows_in : Forks → List Fork
fork_rows_in f = table (fork_row_at f.words.now) f.count

-- an index below n, or none
abbrev pub below : ℕ → ℕ → Option ℕ
below n i = cond (ltb i n) (Some i) None

-- the numbers of a row fit its words
pub record ChunkFits (r : ChunkRow) : Type 0 where
  pub place : r.place < 65536
  pub past_some : 1 ≤ r.past
  pub past : r.past ≤ 65536
  pub barriers : r.barriers < 65536
  pub segments : r.segments < 65536
  pub accesses : r.accesses < 65536

pub record ForkFits (f : Fork) : Type 0 where
  pub place : f.place < 65536
  pub barriers : f.state.barriers < 65536
  pub regions : f.state.regions < 65536

-- a row is written behind the first n
pub record Added {A : Type 0} (at : List ℕ → ℕ → A) (words words' : List ℕ) (n : ℕ) (x : A) : Type 0 where
  pub long : length words' ≡ length words
  pub new : at words' n ≡ x
  pub before : (i : ℕ) → i < n → at words' i ≡ at words i

-- whether a row is that of a team's member
unfoldable pub is_row : ℕ → ℕ → ChunkRow → Bool
is_row t m r = eqb r.team t && eqb r.member m

-- a sum over a list
unfoldable pub total : {A : Type 0} → (A → ℕ) → List A → ℕ
total f [] = 0
total f (x ∷ xs) = f x + total f xs

-- a chunk's commands, MEMBER first
unfoldable pub log_of : Chunk → List Command
log_of c = Com.Member c.team c.member ∷ commands_of c

-- the rows of chunks one after another, with g segments and n accesses before them
unfoldable pub chunk_row : ℕ → ℕ → Chunk → ChunkRow
chunk_row g n c =
    record {
      place = c.place;
      past = c.past;
      team = c.team;
      member = c.member;
      barriers = barriers_of c;
      complete = complete c;
      segments = g;
      accesses = n;
    }

unfoldable pub rows_from : ℕ → ℕ → List Chunk → List ChunkRow
rows_from g n [] = []
rows_from g n (c ∷ cs) = chunk_row g n c ∷ rows_from (g + total opens_segment (log_of c)) (n + total adds_access (log_of c)) cs

unfoldable pub chunk_rows : List Chunk → List ChunkRow
chunk_rows cs = rows_from 0 0 cs

-- the words hold the rows of an accepted bundle: so many chunks, and so many REGIONs
pub record Indexed (s : List ℕ) (n m : ℕ) (chunks forks : List ℕ) : Type 0 where
  pub accepted : check_of s ≡ gives tt
  pub few : n + m ≤ 512
  pub chunk_table : length chunks ≡ 1024
  pub fork_table : length forks ≡ 1536
  pub chunk-rows : table (chunk_row_at chunks) n ≡ chunk_rows (chunks_of s)
  pub fork_rows : table (fork_row_at forks) m ≡ forks_of (chunks_of s)
