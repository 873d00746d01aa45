-- Inner: the tests 8 to 12 and 19 over the rows of a bundle's chunks, and by the tables of the code.
use Rattle.std.specs.Prelude.{ℕ, zero, suc, ◌+◌, ◌-◌, ◌*◌, ◌/◌, ◌%◌, ◌^◌, ◌≤◌, ◌<◌, ◌≡◌, ◌⊎◌, Bool, true, false, cond, not, ◌&&◌, ◌||◌, eqb, ltb, leb, length, get_or, set, replicate}
use mathlib.Core.List.{List, [], ◌∷◌, Memᴰ}
use Rattle.std.specs.Int.Bits.{bit_or}
use Rattle.std.specs.declared.option.Option.{Option}
use Rattle.std.specs.declared.option.Option.TheVariants.{Some, None}
use Rattle.sorting.specs.Searching.{first_with_key}
use Rattle.bundle.specs.Answer.{Answer, gives}
use Rattle.bundle.specs.Lists.{up_to, any, all}
use Rattle.bundle.specs.Check.{size_of, depth_of, failing, forked_before, refused_at}
use Rattle.bundle.specs.Index.{chunk_row_at, fork_row_at, chunk_rows_in, fork_rows_in, table, is_row, index_of}
use Rattle.bundle.specs.declared.index.ChunkRow.{ChunkRow}
use Rattle.bundle.specs.declared.index.Fork.{Fork}
use Rattle.bundle.specs.declared.index.Chunks.{Chunks}
use Rattle.bundle.specs.declared.index.Forks.{Forks}

unfoldable pub stray_row : List Fork → List ChunkRow → ChunkRow → Bool
stray_row fs before r = leb (size_of fs r.team) r.member || any (is_row r.team r.member) before

unfoldable pub lacks_row : List ChunkRow → ℕ → ℕ → Bool
lacks_row rs t size = not (all (λ m. any (is_row t m) rs) (up_to size))

unfoldable pub complete_row : ℕ → ChunkRow → Bool
complete_row t r = eqb r.team t && r.complete

unfoldable pub lowest_row : List ChunkRow → ℕ → ChunkRow → Bool
lowest_row rs t r = complete_row t r && not (any (λ (q : ChunkRow). complete_row t q && ltb q.member r.member) rs)

unfoldable pub unlike_row : List ChunkRow → ChunkRow → Bool
unlike_row rs r = r.complete && any (λ (q : ChunkRow). lowest_row rs r.team q && not (eqb r.barriers q.barriers)) rs

unfoldable pub beyond_row : List ChunkRow → ChunkRow → Bool
beyond_row rs r = not r.complete && any (λ (q : ChunkRow). complete_row r.team q && ltb q.barriers r.barriers) rs

-- 12 and 19
unfoldable pub barriers_by_rows : List ChunkRow → Answer (Unit {0})
barriers_by_rows rs =
    let at_row : ChunkRow → ℕ = λ r. r.place in
    refused_at 12 (failing at_row (λ before r. unlike_row rs r) [] rs)
    (refused_at 19 (failing at_row (λ before r. beyond_row rs r) [] rs)
    (gives tt))

-- 10 to 12 and 19, past 8 and 9
unfoldable pub settled_by_rows : List ChunkRow → List Fork → Answer (Unit {0})
settled_by_rows rs fs =
    let atFork : Fork → ℕ = λ f. f.place in
    refused_at 10 (cond (lacks_row rs 0 1) (0 ∷ []) [])
    (refused_at 10 (failing atFork (λ before f. lacks_row rs f.team f.size) [] fs)
    (refused_at 11 (failing atFork (λ before f. ltb 4 (depth_of fs f.team)) [] fs)
    (barriers_by_rows rs)))

unfoldable pub shape_by_rows : List ChunkRow → List Fork → Answer (Unit {0})
shape_by_rows rs fs =
    refused_at 8 (failing (λ (f : Fork). f.place) forked_before [] fs)
    (refused_at 9 (failing (λ (r : ChunkRow). r.place) (stray_row fs) [] rs)
    (settled_by_rows rs fs))

-- a test of the i-th element of a table, which sees the elements before too, the last first
unfoldable pub passed : {A : Type 0} → (ℕ → A) → ℕ → List A
passed f zero = []
passed f (suc i) = f i ∷ passed f i

abbrev pub fails_at : {A : Type 0} → (List A → A → Bool) → (ℕ → A) → ℕ → Bool
fails_at fails f i = fails (passed f i) (f i)

-- what a search front to back finds below n, by the answers that a test gives
unfoldable pub FoundFirst : (ℕ → Bool → Type 0) → ℕ → Option ℕ → Type 0
FoundFirst answers n None = (i : ℕ) → i < n → answers i false
FoundFirst answers n (Some r) = (r < n) × answers r true × ((i : ℕ) → i < r → answers i false)

-- what was found, as an index; n for none
abbrev pub index_or : ℕ → Option ℕ → ℕ
index_or n None = n
index_or n (Some r) = r

-- the first index below n that fails a test; n where there is none
pub record FirstFailing (fails : ℕ → Bool) (n r : ℕ) : Type 0 where
  pub within : r ≤ n
  pub before : (i : ℕ) → i < r → fails i ≡ false
  pub here : r < n → fails r ≡ true

-- the slot of a team: the index of the REGION that forks it, the number of REGIONs where none does
unfoldable pub slot_of : List Fork → ℕ → ℕ
slot_of fs t = index_of (λ (f : Fork). eqb f.team t) fs

-- in these words a team's slot is found by the search for its number
pub record ByTeam (order : List ℕ) (fs : List Fork) : Type 0 where
  pub few : length order ≤ 512
  pub long : length order ≡ length fs
  pub slot : (t : ℕ) → first_with_key order t ≡ slot_of fs t

-- the members that were met of the team of a slot: a bit for each, in four words
unfoldable pub met_at : List ℕ → ℕ → ℕ → Bool
met_at masks slot m = eqb (get_or masks (4 * slot + m / 64) 0 / 2 ^ (m % 64) % 2) 1

unfoldable pub marked_at : List ℕ → ℕ → ℕ → List ℕ
marked_at masks slot m = set masks (4 * slot + m / 64) (bit_or (get_or masks (4 * slot + m / 64) 0) (2 ^ (m % 64)))

-- the root, or a team that is forked
abbrev pub Known : List Fork → ℕ → Type 0
Known fs t = length fs ≤ slot_of fs t → t ≡ 0

-- a complete chunk as a number, from which its barriers are read; of two members the one of the lower number has the greater
unfoldable pub lead_word : ChunkRow → ℕ
lead_word r = (256 - r.member) * 65536 + r.barriers % 65536

-- the greatest number of a team's complete chunks among these, 0 where none is complete
pub record Lead (rs : List ChunkRow) (t w : ℕ) : Type 0 where
  pub greatest : (r : ChunkRow) → Memᴰ r rs → complete_row t r ≡ true → lead_word r ≤ w
  pub reached : (w ≡ 0) ⊎ ((r : ChunkRow) × Memᴰ r rs × (complete_row t r ≡ true) × (lead_word r ≡ w))

-- the table of these numbers with one chunk more
unfoldable pub noted_lead : ChunkRow → List ℕ → ℕ → List ℕ
noted_lead r leads slot = cond (r.complete && ltb (get_or leads slot 0) (lead_word r)) (set leads slot (lead_word r)) leads

-- the tables by slot after these chunks: the members met, and the lowest-numbered complete one
pub record Met (fs : List Fork) (rs : List ChunkRow) (masks leads : List ℕ) : Type 0 where
  pub masks_long : 4 * length fs + 3 < length masks
  pub leads_long : length fs < length leads
  pub members : (t m : ℕ) → Known fs t → m < 256 → met_at masks (slot_of fs t) m ≡ any (is_row t m) rs
  pub lowest : (t : ℕ) → Known fs t → Lead rs t (get_or leads (slot_of fs t) 0)

-- tables for so many REGIONs, all 0 but for their order
pub record Blank (order masks leads : List ℕ) (regions : ℕ) : Type 0 where
  pub few : regions ≤ 512
  pub order_long : length order ≡ regions
  pub masks_long : 4 * regions + 3 < length masks
  pub masks_clear : masks ≡ replicate (length masks) 0
  pub leads_long : regions < length leads
  pub leads_clear : leads ≡ replicate (length leads) 0

-- so many REGIONs have tables of these lengths
pub record WithinTables (n regions masks leads : ℕ) : Type 0 where
  pub few : n ≤ regions
  pub regions_few : regions ≤ 512
  pub masks_long : 4 * regions + 3 < masks
  pub masks_few : masks ≤ 2052
  pub leads_long : regions < leads
  pub leads_few : leads ≤ 513

-- the tables where no chunk was met, and where those before the first stray one were
pub record Ready (chunks forks order masks leads : List ℕ) (regions : ℕ) : Type 0 where
  pub by_team : ByTeam order (table (fork_row_at forks) regions)
  pub met : Met (table (fork_row_at forks) regions) (table (chunk_row_at chunks) 0) masks leads

pub record MetTo (chunks : Chunks) (forks : Forks) (found : Option ℕ) (masks leads : List ℕ) : Type 0 where
  pub first : FoundFirst (λ i b. b ≡ fails_at (stray_row (fork_rows_in forks)) (chunk_row_at chunks.words.now) i) chunks.count found
  pub met : Met (fork_rows_in forks) (table (chunk_row_at chunks.words.now) (index_or chunks.count found)) masks leads

-- what is known past 8 and 9
pub record Settled (chunks forks order masks leads : List ℕ) (count regions : ℕ) : Type 0 where
  pub by_team : ByTeam order (table (fork_row_at forks) regions)
  pub once_forked : (i : ℕ) → i < regions → fails_at forked_before (fork_row_at forks) i ≡ false
  pub no_stray : (i : ℕ) → i < count → fails_at (stray_row (table (fork_row_at forks) regions)) (chunk_row_at chunks) i ≡ false
  pub met : Met (table (fork_row_at forks) regions) (table (chunk_row_at chunks) count) masks leads

-- the tests by these tables; 11: whether so many REGIONs can be climbed from a team
unfoldable pub climbs : ℕ → List ℕ → List ℕ → ℕ → Bool
climbs zero forks order t = true
climbs (suc n) forks order t =
    let slot = first_with_key order t in
    cond (leb (length order) slot) false (climbs n forks order (fork_row_at forks slot).parent)

-- the team number falls at each climb, so a team below 4 is not deeper than 4
unfoldable pub deep_by : List ℕ → List ℕ → ℕ → Bool
deep_by forks order t = cond (ltb t 4) false (climbs 5 forks order t)

unfoldable pub lacks_by : List ℕ → ℕ → ℕ → Bool
lacks_by masks slot size = not (all (λ m. met_at masks slot m) (up_to size))

-- 12 and 19, by the number of the lowest-numbered complete member
unfoldable pub unlike_by : ChunkRow → ℕ → Bool
unlike_by r lead = r.complete && not (eqb r.barriers (lead % 65536))

unfoldable pub beyond_by : ChunkRow → ℕ → Bool
beyond_by r lead = not r.complete && (leb 1 lead && ltb (lead % 65536) r.barriers)

-- the one or the other
unfoldable pub uneven_by : ChunkRow → ℕ → Bool
uneven_by r lead = cond r.complete (not (eqb r.barriers (lead % 65536))) (leb 1 lead && ltb (lead % 65536) r.barriers)

-- the tests of the i-th REGION, 8, 10 and 11, and of the i-th chunk, 12 and 19
abbrev pub forked_by : (forks order : List ℕ) → ℕ → Bool
forked_by forks order i = ltb (first_with_key order (fork_row_at forks i).team) i

abbrev pub lacks_at : (forks masks : List ℕ) → ℕ → Bool
lacks_at forks masks i = lacks_by masks i (fork_row_at forks i).size

abbrev pub deep_at : (forks order : List ℕ) → ℕ → Bool
deep_at forks order i = deep_by forks order (fork_row_at forks i).team

abbrev pub unlike_at : (chunks order leads : List ℕ) → ℕ → Bool
unlike_at chunks order leads i = unlike_by (chunk_row_at chunks i) (get_or leads (first_with_key order (chunk_row_at chunks i).team) 0)

abbrev pub uneven_at : (chunks order leads : List ℕ) → ℕ → Bool
uneven_at chunks order leads i = uneven_by (chunk_row_at chunks i) (get_or leads (first_with_key order (chunk_row_at chunks i).team) 0)
