-- Inner: what the functions of the pass over a bundle's intervals ask and promise.
use Rattle.std.specs.Prelude.{ℕ, ◌+◌, ◌-◌, ◌≤◌, ◌<◌, ◌≡◌, true, cond, List, [], ◌∷◌, ◌++◌, length, take, drop}
use Rattle.sorting.specs.Order.{sorted}
use Rattle.bundle.specs.Lists.{concat_map, from_option}
use Rattle.bundle.specs.Cases.{on_delimiter, on_opening}
use Rattle.bundle.specs.Chunks.{chunks_of}
use Rattle.bundle.specs.Walk.{forks_of}
use Rattle.bundle.specs.Check.{fork_of, size_of, depth_from, Accepted}
use Rattle.bundle.specs.Index.{table}
use Rattle.bundle.specs.declared.command.Command.{Command}
use Rattle.bundle.specs.declared.index.Fork.{Fork}
use Rattle.rows.specs.Rows.{Interval, ends_interval, intervals_in, row_of}
use Rattle.rows.specs.Slots.{Slot, name_word, slot_made, slot_at, Grown}
use Rattle.rows.specs.declared.row.TeamRow.{TeamRow}
use Rattle.rows.specs.declared.row.Span.{Span}
use Rattle.rows.specs.declared.pass.Course.{Course}

unfoldable pub parent_of : List Fork → ℕ → ℕ
parent_of fs t = from_option 0 (λ (f : Fork). f.parent) (fork_of fs t)

-- what the records of a team's intervals have in common; a team is at most 4 deep, so that 5 climbs reach the root
unfoldable pub team_row_of : List Fork → ℕ → TeamRow
team_row_of fs t = record { team = t; parent = parent_of fs t; size = size_of fs t; level = depth_from 5 fs t }

unfoldable pub beginning : Course
beginning =
    record {
      at = 0;
      team = record { team = 0; parent = 0; size = 0; level = 0 };
      member = 0;
      interval = 0;
      regions = 0;
      joined = 0;
      begin = 0;
      count = 0;
    }

-- the pass after each command
unfoldable pub entered : Course → TeamRow → ℕ → ℕ → Course
entered c team m next =
    record { at = next; team = team; member = m; interval = 0; regions = 0; joined = 0; begin = next; count = c.count }

unfoldable pub joined_on : Course → ℕ → Course
joined_on c next =
    record {
      at = next;
      team = c.team;
      member = c.member;
      interval = c.interval;
      regions = c.regions + 1;
      joined = c.joined;
      begin = c.begin;
      count = c.count;
    }

unfoldable pub moved_on : Course → ℕ → Course
moved_on c next =
    record {
      at = next;
      team = c.team;
      member = c.member;
      interval = c.interval;
      regions = c.regions;
      joined = c.joined;
      begin = c.begin;
      count = c.count;
    }

unfoldable pub closed_at : Course → ℕ → Course
closed_at c next =
    record {
      at = next;
      team = c.team;
      member = c.member;
      interval = c.interval + 1;
      regions = c.regions;
      joined = c.regions;
      begin = next;
      count = c.count + 1;
    }

unfoldable pub course_after : List Fork → Course → Command → ℕ → Course
course_after fs c command next =
    on_delimiter
    (on_opening (moved_on c next) (moved_on c next) (λ t. joined_on c next) (closed_at c next) command)
    (λ t m. entered c (team_row_of fs t) m next)
    (closed_at c next)
    command

-- the open interval, whose data ends at `next`
unfoldable pub span_here : Course → ℕ → Span
span_here c next =
    record { member = c.member; interval = c.interval; joined = c.joined; begin = c.begin; size = next - c.begin }

-- the records that a command adds
unfoldable pub slots_here : Course → Command → ℕ → List Slot
slots_here c command next = cond (ends_interval command) (slot_made c.team (span_here c next) c.count ∷ []) []

-- the numbers of an interval that ends at `next` fit their words
pub record Closable (c : Course) (next : ℕ) : Type 0 where
  pub few : c.count < 512
  pub interval : c.interval < 65536
  pub regions : c.regions < 65536
  pub joined : c.joined < 65536
  pub begin : c.begin < 65536
  pub ordered : c.begin ≤ next
  pub size : next - c.begin ≤ 65536

pub record Notable (c : Course) (command : Command) (next : ℕ) (words : List ℕ) : Type 0 where
  pub long : length words ≡ 1536
  pub regions : c.regions < 65536
  pub closable : ends_interval command ≡ true → Closable c next

pub record Noted (fs : List Fork) (c : Course) (command : Command) (next : ℕ) (after : Course) (words words' : List ℕ) : Type 0 where
  pub course : after ≡ course_after fs c command next
  pub grown : Grown words words' c.count (slots_here c command next)

-- an accepted bundle with these REGIONs, and words for the records
pub record Listable (s : List ℕ) (fs : List Fork) (words : List ℕ) : Type 0 where
  pub accepted : Accepted s
  pub forks : fs ≡ forks_of (chunks_of s)
  pub long : length words ≡ 1536

-- the records of intervals from a place on
unfoldable pub slot_of_interval : List Fork → Interval → ℕ → Slot
slot_of_interval fs i place =
    record { name = name_word i.team i.member i.state.barriers place; row = row_of fs i }

unfoldable pub slots_from : List Fork → ℕ → List Interval → List Slot
slots_from fs place [] = []
slots_from fs place (i ∷ is) = slot_of_interval fs i place ∷ slots_from fs (place + 1) is

-- the intervals of a bundle in the order of the bytes
unfoldable pub listed : List ℕ → List Interval
listed s = concat_map intervals_in (chunks_of s)

-- the words hold the records of all intervals
pub record Listed (s : List ℕ) (n : ℕ) (words : List ℕ) : Type 0 where
  pub long : length words ≡ 1536
  pub few : n ≤ 512
  pub count : n ≡ length (listed s)
  pub rows : table (slot_at words) n ≡ slots_from (forks_of (chunks_of s)) 0 (listed s)

-- the numbers of the first n records are in ascending order, and all else is as before
pub record Sorted (words words' : List ℕ) (n : ℕ) : Type 0 where
  pub is : words' ≡ sorted (take n words) ++ drop n words
