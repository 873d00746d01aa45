-- Inner: what the functions of a segment's label ask and promise.
use Rattle.std.specs.Prelude.{ℕ, suc, Bool, ◌+◌, ◌-◌, ◌*◌, ◌≤◌, ◌<◌, cond, ◌&&◌, eqb, ltb, set}
use mathlib.Core.List.{List, Memᴰ}
use Rattle.std.proofs.Math.Option.{Option, none, some}
use Rattle.bundle.specs.Answer.{Answer, gives, refuses}
use Rattle.bundle.specs.Lists.{first, from_option}
use Rattle.bundle.specs.Check.{size_of, depth_of}
use Rattle.bundle.specs.Index.{is_row, total}
use Rattle.bundle.specs.declared.chunk.ChunkState.{ChunkState}
use Rattle.bundle.specs.declared.index.ChunkRow.{ChunkRow}
use Rattle.bundle.specs.declared.index.Fork.{Fork}
use Rattle.order.specs.Labels.{fork_label, segment_label, holding}
use Rattle.order.specs.declared.label.Triple.{Triple}
use Rattle.order.specs.declared.label.Label.{Label}
use Rattle.order.specs.declared.climb.ChunkLabel.{ChunkLabel}

-- whether a REGION is of a member's chunk and stands before the segment of a number is opened: each barrier and each region opens
-- a segment; as a count, 1 or 0; and how many there are
abbrev pub is_joined_before : ℕ → ℕ → ℕ → Fork → Bool
is_joined_before t m number f = (eqb f.parent t && eqb f.member m) && ltb (f.state.barriers + f.state.regions) number

unfoldable pub joins_before : ℕ → ℕ → ℕ → Fork → ℕ
joins_before t m number f = cond (is_joined_before t m number f) 1 0

unfoldable pub joined_before : List Fork → ℕ → ℕ → ℕ → ℕ
joined_before fs t m number = total (joins_before t m number) fs

-- the state in which the segment of a number is opened, without the locks, in a chunk that passes so many barriers and joins so many
-- regions before it; and by the rows of a bundle
unfoldable pub opened_in : ℕ → ℕ → ℕ → Option ChunkState
opened_in barriers regions number =
    cond (ltb barriers (number - regions)) none (some (record { barriers = number - regions; regions = regions; locks = 0 }))

unfoldable pub state_by_rows : List ChunkRow → List Fork → ℕ → ℕ → ℕ → Option ChunkState
state_by_rows rs fs t m number =
    from_option none (λ (r : ChunkRow). opened_in r.barriers (joined_before fs t m number) number) (first (is_row t m) rs)

-- REGIONs that lead to the root: team numbers fall, "Teams nest at most 4 deep below the root"
pub record Climbable (fs : List Fork) : Type 0 where
  pub falls : (f : Fork) → Memᴰ f fs → f.parent < f.team
  pub shallow : (f : Fork) → Memᴰ f fs → depth_of fs f.team ≤ 4

-- the regions that a member joins before a segment are few, and each opens a segment before it
pub record Joinable (fs : List Fork) (t m number : ℕ) : Type 0 where
  pub few : joined_before fs t m number ≤ 65536
  pub earlier : joined_before fs t m number ≤ number

-- the last triple of a segment's label, and a label with one triple more
unfoldable pub triple_of : ℕ → ChunkState → ℕ → Triple
triple_of m k size = record { offset = m + size * k.regions; span = size; interval = k.barriers }

unfoldable pub extended : Label → Triple → Label
extended l t = record { count = l.count + 1; triples = set l.triples l.count t }

-- what the labels of a chunk's segments have in common
unfoldable pub chunk_label_of : List Fork → ℕ → ChunkLabel
chunk_label_of fs team = record { label = holding (fork_label (suc team) fs team); size = size_of fs team }

-- the label of the segment that is opened in a state, or 14
abbrev pub label_in : List Fork → ℕ → ℕ → Option ChunkState → Answer (List Triple)
label_in fs t m = from_option (refuses 14 0) (λ (k : ChunkState). gives (segment_label fs t m k))

abbrev pub label_by_rows : List ChunkRow → List Fork → ℕ → ℕ → ℕ → Answer (List Triple)
label_by_rows rs fs t m number = label_in fs t m (state_by_rows rs fs t m number)
