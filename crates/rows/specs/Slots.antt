-- Inner: the words that hold records, each with the number by which records are ordered.
use Rattle.std.specs.Prelude.{ℕ, ◌+◌, ◌*◌, ◌/◌, ◌%◌, ◌≡◌, List, ◌++◌, length, get_or}
use Rattle.bundle.specs.Index.{parts_of, table}
use Rattle.bundle.specs.declared.index.Parts.{Parts}
use Rattle.rows.specs.declared.row.Row.{Row}
use Rattle.rows.specs.declared.row.TeamRow.{TeamRow}
use Rattle.rows.specs.declared.row.Span.{Span}

-- a record with its number
pub record Slot : Type 0 where
  pub name : ℕ
  pub row : Row

-- the record of a team's interval
unfoldable pub row_made : TeamRow → Span → Row
row_made team i =
    record {
      pid = team.team;
      ppid = team.parent;
      bid = i.interval;
      offset = i.member + team.size * i.joined;
      span = team.size;
      level = team.level;
      begin = i.begin;
      size = i.size;
    }

-- team, member, interval and the place of the record among all as one number
unfoldable pub name_word : ℕ → ℕ → ℕ → ℕ → ℕ
name_word team member interval place = ((team * 256 + member) * 65536 + interval) * 65536 + place

unfoldable pub slot_made : TeamRow → Span → ℕ → Slot
slot_made team i place = record { name = name_word team.team i.member i.interval place; row = row_made team i }

-- the parts of its two words
unfoldable pub first_parts : TeamRow → Span → Parts
first_parts team i =
    record { first = i.interval; second = team.parent; third = team.size; fourth = team.level; fifth = team.team }

unfoldable pub second_parts : Span → Parts
second_parts i =
    record { first = i.begin; second = i.size % 65536; third = i.member; fourth = i.size / 65536; fifth = i.joined }

-- the record that two words hold, and the record of a place with its number
unfoldable pub held_in : Parts → Parts → Row
held_in one other =
    row_made
    (record { team = one.fifth; parent = one.second; size = one.third; level = one.fourth })
    (record { member = other.third; interval = one.first; joined = other.fifth; begin = other.first; size = other.second + 65536 * other.fourth })

unfoldable pub slot_at : List ℕ → ℕ → Slot
slot_at words i =
    record {
      name = get_or words i 0;
      row = held_in (parts_of (get_or words (i + 512) 0)) (parts_of (get_or words (i + 1024) 0));
    }

-- the record whose place the k-th number holds
unfoldable pub row_in : List ℕ → ℕ → Row
row_in words k = (slot_at words (get_or words k 0 % 65536)).row

-- so many records more behind the first n
pub record Grown (words words' : List ℕ) (n : ℕ) (slots : List Slot) : Type 0 where
  pub long : length words' ≡ length words
  pub rows : table (slot_at words') (n + length slots) ≡ table (slot_at words) n ++ slots
