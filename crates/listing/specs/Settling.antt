-- Inner: what stands in the lent memory at the end.
use Rattle.std.specs.Prelude.{ℕ, ◌*◌, ◌/◌, ◌≡◌, Bool, true, cond, ◌&&◌, List, ◌++◌, map, leb, length, take, drop}
use Rattle.sorting.specs.Order.{sorted}
use Rattle.bundle.specs.Index.{table}
use Rattle.bundle.specs.Chunks.{chunks_of}
use Rattle.verdict.specs.Graph.{segments_of}
use Rattle.verdict.specs.Races.{accesses_of, races_of}
use Rattle.listing.specs.Listing.{zeros, over, names_of, numbers_of, race_in, fits_in}
use Rattle.listing.specs.Ranking.{word_of}
use Rattle.listing.specs.declared.list.Totals.{Totals}
use Rattle.listing.specs.declared.list.Found.{Found}
use Rattle.listing.specs.declared.list.Listed.{Listed}
use Rattle.listing.specs.declared.list.Listed.TheVariants as Lis

-- whether so many accesses and races fit
abbrev pub fitting : ℕ → ℕ → List ℕ → List ℕ → List ℕ → Bool
fitting accesses races names numbers spare =
    leb (2 * accesses) (length names) && (leb races (length numbers) && leb (races / 2) (length spare))

-- the names of the rows, and the first numbers sorted
pub record AllPut (rows : List ℕ) (accesses races : ℕ) (names numbers spare names' numbers' spare' : List ℕ) : Type 0 where
  pub names_are : names' ≡ table (word_of rows) (2 * accesses) ++ drop (2 * accesses) names
  pub numbers_are : numbers' ≡ sorted (take races numbers) ++ drop races numbers
  pub spare_is : spare' ≡ zeros spare

-- the same, or nothing
pub record Settled (rows : List ℕ) (accesses races : ℕ) (whole : Bool) (names numbers spare names' numbers' spare' : List ℕ) : Type 0 where
  pub test : whole ≡ fitting accesses races names numbers spare
  pub names_are : names' ≡ cond whole (table (word_of rows) (2 * accesses) ++ drop (2 * accesses) names) (zeros names)
  pub numbers_are : numbers' ≡ cond whole (sorted (take races numbers) ++ drop races numbers) (zeros numbers)
  pub spare_is : spare' ≡ zeros spare

-- the races of a bundle
pub record Kept (s : List ℕ) (r : Found) (names numbers spare names' numbers' spare' : List ℕ) : Type 0 where
  pub segment_count : r.segments ≡ length (segments_of (chunks_of s))
  pub access_count : r.accesses ≡ length (accesses_of (chunks_of s))
  pub race_count : r.races ≡ length (races_of (chunks_of s))
  pub test : r.whole ≡ fits_in (chunks_of s) names numbers spare
  pub names_are : names' ≡ cond r.whole (over (names_of (chunks_of s)) names) (zeros names)
  pub numbers_are : numbers' ≡ cond r.whole (over (numbers_of (chunks_of s)) numbers) (zeros numbers)
  pub spare_is : spare' ≡ zeros spare
  pub read_back : r.whole ≡ true → map (race_in names') (take r.races numbers') ≡ races_of (chunks_of s)

-- the answer with the number of chunks
abbrev pub listed_in : ℕ → Found → Listed
listed_in chunks f =
    let totals : Totals = record { chunks = chunks; segments = f.segments; accesses = f.accesses; races = f.races } in
    cond f.whole (Lis.Whole totals) (Lis.TooMany totals)
