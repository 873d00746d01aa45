-- Inner: the table by which two accesses climb to the team where their lineages part.
use Rattle.std.specs.Prelude.{ℕ, ◌+◌, ◌≤◌, ◌<◌, ◌≡◌, Bool, true, false, length, get_or, eqb, replicate}
use mathlib.Core.List.{List, Memᴰ}
use Rattle.std.specs.Int.Bits.{bit_or}
use Rattle.std.specs.Borrow.{Bor}
use Rattle.std.specs.declared.option.Option as Rust
use Rattle.std.specs.declared.option.Option.TheVariants.{None, Some}
use Rattle.bundle.specs.Index.{fork_row_at, table, index_of}
use Rattle.bundle.specs.declared.index.Fork.{Fork}
use Rattle.verdict.specs.Lineages.{Holder}
use Rattle.verdict.specs.Working.{access_row_at}
use Rattle.verdict.specs.declared.rows.AccessRow.{AccessRow}
use Rattle.verdict.specs.declared.lineage.Side.{Side}

-- the REGIONs that words hold, and the index of the one that forks a team: as many as there are where there is none
abbrev pub forks_in : List ℕ → ℕ → List Fork
forks_in forks regions = table (fork_row_at forks) regions

abbrev pub fork_for : List ℕ → ℕ → ℕ → ℕ
fork_for forks regions team = index_of (λ (f : Fork). eqb f.team team) (forks_in forks regions)

-- REGIONs that lead to the root: team numbers fall, and each forks from the root or from a team that is forked
pub record Rooted (forks : List ℕ) (regions : ℕ) : Type 0 where
  pub falls : (f : Fork) → Memᴰ f (forks_in forks regions) → f.parent < f.team
  pub forked : (k : ℕ) → k < regions → ((fork_row_at forks k).parent ≡ 0 → ⊥) → fork_for forks regions (fork_row_at forks k).parent < regions

-- the teams of the first n accesses are the root or forked
pub record RowsRooted (rows forks : List ℕ) (regions n : ℕ) : Type 0 where
  pub teams : (j : ℕ) → j < n → ((access_row_at rows j).team ≡ 0 → ⊥) → fork_for forks regions (access_row_at rows j).team < regions

-- no lock is held at a REGION
pub record NoneHeld (forks : List ℕ) (regions : ℕ) : Type 0 where
  pub none : (f : Fork) → Memᴰ f (forks_in forks regions) → f.state.locks ≡ 0

-- the links of the first n accesses and of all REGIONs: to the REGION that forks their team
pub record AccessLinks (rows forks links : List ℕ) (regions n : ℕ) : Type 0 where
  pub linked : (j : ℕ) → j < n → get_or links j 0 ≡ fork_for forks regions (access_row_at rows j).team

pub record ForkLinks (forks links : List ℕ) (regions n : ℕ) : Type 0 where
  pub linked : (k : ℕ) → k < n → get_or links (1024 + k) 0 ≡ fork_for forks regions (fork_row_at forks k).parent

-- the links of the first n REGIONs are written, and those of the accesses kept
pub record ForksLinked (forks before after : List ℕ) (regions n : ℕ) : Type 0 where
  pub written : ForkLinks forks after regions n
  pub kept : (j : ℕ) → j < 1024 → get_or after j 0 ≡ get_or before j 0
  pub long : length after ≡ 1536

-- rows and a table for links
pub record Linkable (rows : List ℕ) (n regions : ℕ) (links : List ℕ) : Type 0 where
  pub few : n ≤ 1024
  pub whole : 8192 ≤ length rows
  pub few_regions : regions ≤ 512
  pub long : length links ≡ 1536

-- the links where a lock is held at a REGION; else no link is read, and any words stand for them
abbrev pub links_in : Rust.Option (Bor (List ℕ)) → List ℕ
links_in None = replicate 1536 0
links_in (Some links) = links.now

abbrev pub held_in : Rust.Option (Bor (List ℕ)) → Bool
held_in None = false
held_in (Some links) = true

-- where a lock is held at a REGION the links are there
pub record Linked (rows forks links : List ℕ) (regions n : ℕ) (held : Bool) : Type 0 where
  pub long : length links ≡ 1536
  pub few : regions ≤ 512
  pub unheld : held ≡ false → NoneHeld forks regions
  pub accesses : held ≡ true → AccessLinks rows forks links regions n
  pub regions_up : held ≡ true → ForkLinks forks links regions regions

-- REGIONs and accesses whose lineages lead to the root
pub record LineagesFit (rows forks : List ℕ) (regions n : ℕ) : Type 0 where
  pub few : regions ≤ 512
  pub rooted : Rooted forks regions
  pub rows_rooted : RowsRooted rows forks regions n

-- and with their links
pub record AllAround (rows forks links : List ℕ) (regions : ℕ) (held : Bool) (n : ℕ) : Type 0 where
  pub rooted : Rooted forks regions
  pub rows_rooted : RowsRooted rows forks regions n
  pub linked : Linked rows forks links regions n held

-- what is asked for the i-th access and those before `end`
pub record Around (rows forks links : List ℕ) (regions : ℕ) (held : Bool) (i end : ℕ) : Type 0 where
  pub up_to : ℕ
  pub all : AllAround rows forks links regions held up_to
  pub one_below : i < up_to
  pub end_below : end ≤ up_to
  pub few : up_to ≤ 1024

-- a side of a pair as the chunk that it stands in, with all locks counted so far; the side of an access
abbrev pub side_holder : Side → Holder
side_holder s = record { team = s.team; member = s.member; locks = s.locks }

abbrev pub row_side : List ℕ → ℕ → AccessRow → Side
row_side links j r = record { fork = get_or links j 0; team = r.team; member = r.member; locks = r.locks }

-- a side that can climb: its link is that of its team, which is the root or forked
pub record SideFits (forks : List ℕ) (regions : ℕ) (s : Side) : Type 0 where
  pub link : s.fork ≡ fork_for forks regions s.team
  pub forked : (s.team ≡ 0 → ⊥) → s.fork < regions

-- the tables by which sides climb
pub record Climbs (forks links : List ℕ) (regions : ℕ) : Type 0 where
  pub rooted : Rooted forks regions
  pub up : ForkLinks forks links regions regions
  pub long : length links ≡ 1536
  pub few : regions ≤ 512

pub record SidesFit (forks links : List ℕ) (regions : ℕ) (one other : Side) : Type 0 where
  pub climbs : Climbs forks links regions
  pub side : SideFits forks regions one
  pub other_side : SideFits forks regions other

-- a chunk higher: the locks held there at the REGION are counted too
abbrev pub climbed : Holder → Fork → Holder
climbed h f = record { team = f.parent; member = f.member; locks = bit_or h.locks f.state.locks }

pub record ClimbedFrom (forks : List ℕ) (regions : ℕ) (before after : Side) : Type 0 where
  pub is : side_holder after ≡ climbed (side_holder before) (fork_row_at forks before.fork)
  pub fits : SideFits forks regions after
