-- What a race is. The list that computes a bundle's races stands in `RaceLists`.
use Rattle.std.specs.Prelude.{ℕ, ◌<◌, ◌≡◌, ◌⊎◌, true}
use mathlib.Core.List.{List, Memᴰ}
use Rattle.bundle.specs.Chunks.{Chunk}
use Rattle.bundle.specs.Walk.{forks_of}
use Rattle.order.specs.Ranges.{LeastShared, LowestElement}
use Rattle.verdict.specs.Graph.{GraphPath, segments_of}
use Rattle.verdict.specs.Accesses.{writes, atomic, race_at}
use Rattle.verdict.specs.Lineages.{holder_of, counts_lock}
use Rattle.verdict.specs.declared.race.Race.{Race}
-- here and in the layers above
pub use Rattle.verdict.specs.Accesses.{NamedAccess}
unfoldable pub use Rattle.verdict.specs.Accesses.{accesses_of, lex_less, name_key, name_below, key_of, race_key, race_below}
unfoldable pub use Rattle.verdict.specs.RaceLists.{race_of, races_among, races_of}

-- demand 3: "a race is two different accesses that share a byte, at least one writing, not both atomic, holding no common lock, with no
-- path either way in document 01's fork-join graph", lower name first; "its witness is the lowest shared byte, and it carries both sites"; and
-- for each of the two ranges "the lowest element number covering that byte" (A.2). The locks that an access holds are those that it counts
-- against the other (A.3)
pub record IsRace (chunks : List Chunk) (r : Race) : Type 0 where
  pub one : NamedAccess
  pub other : NamedAccess
  pub one_in : Memᴰ one (accesses_of chunks)
  pub other_in : Memᴰ other (accesses_of chunks)
  pub lower : name_below one.name other.name ≡ true
  pub writing : (writes one.access.kind ≡ true) ⊎ (writes other.access.kind ≡ true)
  pub not_atomic : atomic one.access.kind ≡ true → atomic other.access.kind ≡ true → ⊥
  pub no_lock :
      (lock : ℕ)
      → lock < 64
      → counts_lock (forks_of chunks) (holder_of one) (holder_of other) lock ≡ true
      → counts_lock (forks_of chunks) (holder_of other) (holder_of one) lock ≡ true
      → ⊥
  pub no-path : GraphPath (segments_of chunks) one.node other.node → ⊥
  pub no_path_back : GraphPath (segments_of chunks) other.node one.node → ⊥
  pub shared : LeastShared one.access.range other.access.range r.witness
  pub element : LowestElement one.access.range r.witness r.first_element
  pub other_element : LowestElement other.access.range r.witness r.second_element
  pub carried : r ≡ race_at one other r.witness r.first_element r.second_element
