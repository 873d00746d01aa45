-- Inner: what the loops over all pairs of accesses compute, from the rows of the accesses and the bits of the matrix.
use Rattle.std.specs.Prelude.{ℕ, zero, suc, ◌+◌, ◌*◌, ◌/◌, ◌%◌, ◌^◌, ◌≤◌, ◌<◌, ◌≡◌, Bool, true, false, cond, not, ◌&&◌, ◌||◌, List, length, eqb, ltb, leb}
use Rattle.std.proofs.Math.Option.{Option, none, some}
use Rattle.std.specs.declared.option.Option as Rust
use Rattle.std.specs.declared.option.Option.TheVariants.{None, Some}
use Rattle.bundle.specs.Lists.{from_option}
use Rattle.bundle.specs.Locks.{common_lock}
use Rattle.bundle.specs.Commands.{range_ok}
use Rattle.bundle.specs.declared.command.Range.{Range}
use Rattle.bundle.specs.declared.index.Fork.{Fork}
use Rattle.order.specs.Ranges.{shared_byte}
use Rattle.order.specs.Pairs.{element_by}
use Rattle.verdict.specs.Accesses.{lex_less, key_of, name_below, race_below}
use Rattle.verdict.specs.Lineages.{Holder}
use Rattle.verdict.specs.RaceLists.{common_counted}
use Rattle.verdict.specs.Matrix.{bit_at, Within, TestWord}
use Rattle.verdict.specs.Working.{access_row_at, RowIn}
use Rattle.verdict.specs.Linking.{Around}
use Rattle.verdict.specs.declared.race.Name.{Name}
use Rattle.verdict.specs.declared.race.Race.{Race}
use Rattle.verdict.specs.declared.rows.AccessRow.{AccessRow}
use Rattle.verdict.specs.declared.pairs.Key.{Key}
use Rattle.verdict.specs.declared.pairs.Least.{Least}
use Rattle.verdict.specs.declared.pairs.Tally.{Tally}
use Rattle.verdict.specs.declared.pairs.Sum.{Sum}

-- a name as one number, in whose order the names are
abbrev pub packed : Name → ℕ
packed n = n.team * 16777216 + n.member * 65536 + n.number

-- the parts of a name fit their widths
pub record NameFits (n : Name) : Type 0 where
  pub team : n.team < 65536
  pub member : n.member < 256
  pub number : n.number < 65536

pub record PackedAs (n : Name) (number : ℕ) : Type 0 where
  pub is : number ≡ packed n
  pub fits : NameFits n

-- the range and the name of a row
abbrev pub row_range : AccessRow → Range
row_range r = record { base = r.base; stride = r.stride; count = r.count; size = r.size }

abbrev pub row_name : AccessRow → Name
row_name r = record { team = r.team; member = r.member; number = r.number }

-- whether the bytes from one first byte to its last and those from another have one in common
abbrev pub bounds_meet : ℕ → ℕ → ℕ → ℕ → Bool
bounds_meet base last other otherLast = leb base otherLast && leb other last

abbrev pub rows_meet : AccessRow → AccessRow → Bool
rows_meet one other = bounds_meet one.base one.last other.base other.last

-- whether of two kinds at least one writes and not both are atomic
abbrev pub kinds_clash : ℕ → ℕ → Bool
kinds_clash one other = leb 1 (one % 2 + other % 2) && ltb (one / 2 + other / 2) 2

-- whether two accesses hold no lock in common
abbrev pub locks_apart : ℕ → ℕ → Bool
locks_apart one other = not (common_lock one other)

-- whether there is no path either way between two segments
abbrev pub unordered : List ℕ → ℕ → ℕ → Bool
unordered matrix one other = not (bit_at matrix one other) && not (bit_at matrix other one)

-- an access's chunk with its own locks, by its row; and whether two accesses count no lock in common
abbrev pub row_holder : AccessRow → Holder
row_holder r = record { team = r.team; member = r.member; locks = r.locks }

abbrev pub counted_apart : List Fork → AccessRow → AccessRow → Bool
counted_apart fs one other = not (common_counted fs (row_holder one) (row_holder other))

unfoldable pub rows_clash : List ℕ → List Fork → AccessRow → AccessRow → Bool
rows_clash matrix fs one other =
    kinds_clash one.kind other.kind
    && counted_apart fs one other
    && unordered matrix one.segment other.segment

-- what the tests that come first ask: bounds that meet, no lock of the two's own in common, and kinds that clash
unfoldable pub rows_pass : AccessRow → AccessRow → Bool
rows_pass one other = rows_meet one other && (locks_apart one.locks other.locks && kinds_clash one.kind other.kind)

-- the lowest element of a row that covers a byte
abbrev pub row_element : AccessRow → ℕ → ℕ
row_element r byte = element_by (row_range r) byte

-- what a race carries
abbrev pub race_from : AccessRow → AccessRow → ℕ → Race
race_from one other witness =
    record {
      witness = witness;
      first = row_name one;
      first_site = one.site;
      first_element = row_element one witness;
      second = row_name other;
      second_site = other.site;
      second_element = row_element other witness;
    }

-- lower name first
unfoldable pub race_between : AccessRow → AccessRow → ℕ → Race
race_between one other witness =
    cond (name_below (row_name one) (row_name other)) (race_from one other witness) (race_from other one witness)

-- the race of two accesses, or none
abbrev pub race_at_byte : AccessRow → AccessRow → Option ℕ → Option Race
race_at_byte one other byte = from_option none (λ witness. some (race_between one other witness)) byte

unfoldable pub clash_race : List ℕ → List Fork → AccessRow → AccessRow → Option Race
clash_race matrix fs one other =
    cond (rows_clash matrix fs one other) (race_at_byte one other (shared_byte (row_range one) (row_range other))) none

unfoldable pub pair_race : List ℕ → List Fork → AccessRow → AccessRow → Option Race
pair_race matrix fs one other = cond (rows_meet one other) (clash_race matrix fs one other) none

-- whether the race of a witness and two names is above the key; all are where none is given
abbrev pub above_at : Rust.Option Key → ℕ → Name → Name → Bool
above_at None witness first second = true
above_at (Some k) witness first second = lex_less (key_of k.witness k.first k.second) (key_of witness first second)

abbrev pub above_key : Rust.Option Key → Race → Bool
above_key key r = above_at key r.witness r.first r.second

-- whether a race comes before the least so far, if there is one, and takes its place
abbrev pub below_least : Rust.Option Race → Race → Bool
below_least None r = true
below_least (Some least) r = race_below r least

abbrev pub replaces : Rust.Option Key → Tally → Race → Bool
replaces key t r = above_key key r && below_least t.least r

-- whether the race of two accesses comes after the least so far, of which the witness and the first name are given: it does where the
-- witness is above the least's, or is the same and both names are above the least's first
unfoldable pub comes_later : ℕ → Name → Name → Name → ℕ → Bool
comes_later least first one other witness =
    ltb least witness || eqb least witness && (name_below first one && name_below first other)

-- one more race counted, and kept or not
abbrev pub keeping : Tally → Race → Tally
keeping t r = record { count = t.count + 1; least = Some r }

abbrev pub counting : Tally → Tally
counting t = record { count = t.count + 1; least = t.least }

-- the least above the key is kept
unfoldable pub add_race : Rust.Option Key → Tally → Race → Tally
add_race key t r = cond (replaces key t r) (keeping t r) (counting t)

unfoldable pub add_pair : Rust.Option Key → Tally → Option Race → Tally
add_pair key t none = t
add_pair key t (some r) = add_race key t r

-- an access with the first j
unfoldable pub tally_row : List ℕ → List Fork → List ℕ → Rust.Option Key → AccessRow → Tally → ℕ → Tally
tally_row matrix fs rows key one t zero = t
tally_row matrix fs rows key one t (suc j) =
    add_pair key (tally_row matrix fs rows key one t j) (pair_race matrix fs one (access_row_at rows j))

-- the name that stands in a number; a name and another number below 65,536 as one number
abbrev pub name_in : ℕ → Name
name_in side = record { team = side / 1099511627776 % 65536; member = side / 4294967296 % 256; number = side / 65536 % 65536 }

pub record SideOf (name : Name) (rest side : ℕ) : Type 0 where
  pub name_in : name_in side ≡ name
  pub rest_in : side % 65536 ≡ rest

-- what the three numbers of a least race stand for: of each access the name and the place of its row
abbrev pub row_in : List ℕ → ℕ → AccessRow
row_in rows side = access_row_at rows (side % 1024)

abbrev pub least_race : List ℕ → Least → Race
least_race rows l =
    record {
      witness = l.witness;
      first = name_in l.first;
      first_site = (row_in rows l.first).site;
      first_element = row_element (row_in rows l.first) l.witness;
      second = name_in l.second;
      second_site = (row_in rows l.second).site;
      second_element = row_element (row_in rows l.second) l.witness;
    }

abbrev pub tally_in : List ℕ → Sum → Tally
tally_in rows s = record { count = s.count; least = cond s.found (Some (least_race rows s.least)) None }

abbrev pub least_key : Least → Key
least_key l = record { witness = l.witness; first = name_in l.first; second = name_in l.second }

-- one more race, counted and not kept
abbrev pub counted_in : Sum → Sum
counted_in s = record { count = s.count + 1; found = s.found; least = s.least }

-- whether a race comes before the least so far, if there is one; and whether that of two accesses comes after it
abbrev pub before_least : Sum → ℕ → Name → Name → Bool
before_least s witness first second =
    not s.found || lex_less (key_of witness first second) (key_of s.least.witness (name_in s.least.first) (name_in s.least.second))

abbrev pub after_least : Sum → Name → Name → ℕ → Bool
after_least s one other witness = s.found && comes_later s.least.witness (name_in s.least.first) one other witness

-- the race of the i-th and the j-th access, or none, is added
pub record Adds (key : Rust.Option Key) (one : AccessRow) (i : ℕ) (other : AccessRow) (j : ℕ) (race : Option Race) (before after : Sum) : Type 0 where
  pub added :
      (rows : List ℕ)
      → one ≡ access_row_at rows i
      → other ≡ access_row_at rows j
      → tally_in rows after ≡ add_pair key (tally_in rows before) race

-- nothing counted yet
abbrev pub no_sum : Sum
no_sum = record { count = 0; found = false; least = record { witness = 0; first = 0; second = 0 } }

-- each of the first n accesses with those before it
unfoldable pub tally_all : List ℕ → List Fork → List ℕ → Rust.Option Key → ℕ → Tally
tally_all matrix fs rows key zero = tally_in rows no_sum
tally_all matrix fs rows key (suc i) = tally_row matrix fs rows key (access_row_at rows i) (tally_all matrix fs rows key i) i

-- a row that the loops can use
pub record RowFits (r : AccessRow) : Type 0 where
  pub segment : r.segment < 512
  pub range : range_ok (row_range r) ≡ true

-- a whole matrix, and n rows
pub record TablesFit (matrix rows : List ℕ) (n : ℕ) : Type 0 where
  pub whole : length matrix ≡ 8192
  pub rows_whole : 8192 ≤ length rows
  pub few : n ≤ 1024
  pub fit : (i : ℕ) → i < n → RowFits (access_row_at rows i)

-- 32 rows from a first one on
pub record BlockIn (rows : List ℕ) (first : ℕ) : Type 0 where
  pub below : first + 32 ≤ 1024
  pub whole : 8192 ≤ length rows

-- the bounds of the first k of them do not meet those of another
pub record NoneMeet (one : AccessRow) (rows : List ℕ) (first k : ℕ) : Type 0 where
  pub apart : (l : ℕ) → l < k → rows_meet one (access_row_at rows (first + l)) ≡ false

-- the i-th access and those from `first` to `end`, at most 32
pub record RowsFit (matrix rows : List ℕ) (one : AccessRow) (i first end : ℕ) : Type 0 where
  pub tables : TablesFit matrix rows end
  pub row : RowFits one
  pub row_is : one ≡ access_row_at rows i
  pub below : i < 1024
  pub ordered : first ≤ end
  pub short : end ≤ first + 32

-- and after so many races
pub record BlockFits (matrix rows : List ℕ) (one : AccessRow) (i first end count : ℕ) : Type 0 where
  pub rows_fit : RowsFit matrix rows one i first end
  pub few : count + end ≤ 4294967295 + first

-- the i-th access and the j-th, where a lock is held at a REGION
pub record PairFits (matrix rows forks links : List ℕ) (regions : ℕ) (one : AccessRow) (i j : ℕ) : Type 0 where
  pub row-in : RowIn rows j
  pub within : Within matrix one.segment (access_row_at rows j).segment
  pub row_is : one ≡ access_row_at rows i
  pub around : Around rows forks links regions true i (j + 1)

pub record WordFits (matrix rows forks links : List ℕ) (regions : ℕ) (one : AccessRow) (i word first end : ℕ) : Type 0 where
  pub rows_fit : RowsFit matrix rows one i first end
  pub tests : TestWord (λ j. rows_pass one (access_row_at rows j)) first word
  pub around : Around rows forks links regions true i end

-- the bits of the accesses from `first` to `end` say which race with one if they are not ordered and share a byte
pub record ClashWord (matrix : List ℕ) (fs : List Fork) (rows : List ℕ) (one : AccessRow) (first end word : ℕ) : Type 0 where
  pub told :
      (k : ℕ)
      → first + k < end
      → (eqb (word / 2 ^ k % 2) 1 && unordered matrix one.segment (access_row_at rows (first + k)).segment)
      ≡ (rows_meet one (access_row_at rows (first + k)) && rows_clash matrix fs one (access_row_at rows (first + k)))

-- an access with those before `first`, and after it with those before `end`
pub record BlockTallied (matrix : List ℕ) (fs : List Fork) (rows : List ℕ) (key : Rust.Option Key) (one : AccessRow) (first end : ℕ) (before after : Tally) : Type 0 where
  pub more : (t : Tally) → before ≡ tally_row matrix fs rows key one t first → after ≡ tally_row matrix fs rows key one t end
