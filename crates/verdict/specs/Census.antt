-- Inner: what the judge's parts give: the tables in the work area, and the counts of an accepted bundle.
use Rattle.std.specs.Prelude.{ℕ, ◌<◌, ◌≤◌, ◌≡◌, List, length, take, drop, replicate}
use Rattle.std.proofs.Math.Option.{Option}
use Rattle.std.specs.declared.option.Option as Rust
use Rattle.bundle.specs.Lists.{first, option_of}
use Rattle.std.specs.declared.result.Result.{Result}
use Rattle.std.specs.declared.result.Result.TheVariants.{Ok, Err}
use Rattle.bundle.specs.Answer.{refuses, number_of, answer_of}
use Rattle.bundle.specs.Check.{check_of, Accepted}
use Rattle.bundle.specs.Chunks.{chunks_of}
use Rattle.bundle.specs.declared.refusal.Refusal.{Refusal}
use Rattle.bundle.specs.Walk.{forks_of}
use Rattle.verdict.specs.Graph.{segments_of}
use Rattle.verdict.specs.Accesses.{accesses_of}
use Rattle.verdict.specs.RaceLists.{races_of}
use Rattle.verdict.specs.Matrix.{PathBits}
use Rattle.verdict.specs.Working.{AccessTable}
use Rattle.verdict.specs.Linking.{forks_in}
use Rattle.verdict.specs.Tallying.{above_key}
use Rattle.verdict.specs.Edges.{Reached}
use Rattle.verdict.specs.declared.race.Race.{Race}
use Rattle.verdict.specs.declared.pairs.Key.{Key}
use Rattle.verdict.specs.declared.pairs.Tally.{Tally}
use Rattle.verdict.specs.declared.judge.Census.{Census}

-- the two halves of the work area
abbrev pub matrix_part : List ℕ → List ℕ
matrix_part area = take 8192 area

abbrev pub rows_part : List ℕ → List ℕ
rows_part area = take 8192 (drop 8192 area)

-- the words hold the REGIONs of a bundle
pub record RegionsOf (s forks : List ℕ) (regions : ℕ) : Type 0 where
  pub few : regions ≤ 512
  pub rows : forks_in forks regions ≡ forks_of (chunks_of s)

-- the first half of the area is filled with the paths between segments, and the second half is kept
pub record MatrixFilled (ends opens nodes : List ℕ) (n : ℕ) (before after : List ℕ) : Type 0 where
  pub len : length after ≡ length before
  pub reached : Reached ends opens nodes n (matrix_part before) (matrix_part after)
  pub kept : rows_part after ≡ rows_part before

-- the work area holds the tables of a bundle
pub record AreaFilled (s area : List ℕ) (segments accesses : ℕ) : Type 0 where
  pub paths : PathBits (segments_of (chunks_of s)) (matrix_part area)
  pub few_segments : segments ≤ 512
  pub segment_count : segments ≡ length (segments_of (chunks_of s))
  pub rows : AccessTable (segments_of (chunks_of s)) (accesses_of (chunks_of s)) (rows_part area)
  pub access_count : accesses ≡ length (accesses_of (chunks_of s))

-- the least race that was kept
abbrev pub least_of : Tally → Option Race
least_of t = option_of t.least

-- the races of a list are counted, and the first of them above the key is kept
pub record Tallies (races : List Race) (key : Rust.Option Key) (t : Tally) : Type 0 where
  pub race_count : t.count ≡ length races
  pub least : least_of t ≡ first (above_key key) races

-- the counts of a bundle
pub record Counted (s : List ℕ) (key : Rust.Option Key) (n : Census) : Type 0 where
  pub chunk_count : n.chunks ≡ length (chunks_of s)
  pub segment_count : n.segments ≡ length (segments_of (chunks_of s))
  pub access_count : n.accesses ≡ length (accesses_of (chunks_of s))
  pub tally : Tallies (races_of (chunks_of s)) key n.tally

-- the counts of an accepted bundle, or why it is refused
abbrev pub CountedAs : List ℕ → Rust.Option Key → Result Census Refusal → Type 0
CountedAs s key (Ok n) = Accepted s × Counted s key n
CountedAs s key (Err r) = check_of s ≡ refuses (number_of r.cause) r.place

-- the same over a work area: one under 16,384 words is refused and stays as it is, another is 0 afterwards
pub record CensusOver (s : List ℕ) (key : Rust.Option Key) (work : List ℕ) (r : Result Census Refusal) (after : List ℕ) : Type 0 where
  pub small : length work < 16384 → (answer_of r ≡ refuses 13 0) × (after ≡ work)
  pub large : 16384 ≤ length work → CountedAs s key r × (after ≡ replicate (length work) 0)

-- the least race of a tally: the verdict, and the next race above a key
abbrev pub verdict_in : Tally → Rust.Option Race
verdict_in t = t.least
