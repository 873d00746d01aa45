-- Races, judgements and the counts of a listing as words.
use Rattle.std.specs.Prelude.{ℕ, ◌≡◌, Bool, true, false, List, [], ◌∷◌, map, get_or, take}
use Rattle.std.proofs.Math.Option.{Option}
use Rattle.std.specs.declared.option.Option as Code
use Rattle.std.specs.declared.option.Option.TheVariants.{Some, None}
use Rattle.bundle.specs.Commands.{Lent}
use Rattle.bundle.specs.Chunks.{chunks_of}
use Rattle.verdict.specs.Races.{races_of}
use Rattle.verdict.specs.declared.race.Name.{Name}
use Rattle.verdict.specs.declared.race.Race.{Race}
use Rattle.verdict.specs.declared.race.Judgement.{Judgement}
use Rattle.listing.specs.declared.list.Totals.{Totals}
use Rattle.listing.specs.Listing.{Outcome, race_in}
use Rattle.exports.specs.Told.{Told, told, Left, left, Perhaps, perhaps, zero_words}

abbrev pub name_of : ℕ → ℕ → ℕ → Name
name_of team member number = record { team = team; member = member; number = number }

-- team, member, number, site and element, before other words
abbrev pub access_words : Name → ℕ → ℕ → List ℕ → List ℕ
access_words name site element rest = name.team ∷ name.member ∷ name.number ∷ site ∷ element ∷ rest

-- the witness and both accesses: 11 words
abbrev pub race_words : Race → List ℕ
race_words r =
    r.witness
    ∷ access_words r.first r.first_site r.first_element
    (access_words r.second r.second_site r.second_element [])

-- judge: the four counts, 1 for a race or 0 for race-free, and the least race: 16 words
abbrev pub least_words : Code.Option Race → List ℕ
least_words None = zero_words 12
least_words (Some r) = 1 ∷ race_words r

abbrev pub judgement_words : Judgement → List ℕ
judgement_words j = j.chunks ∷ j.segments ∷ j.accesses ∷ j.races ∷ least_words j.least

abbrev pub judge_told : Lent Judgement → Left (List ℕ)
judge_told = left (zero_words 16) judgement_words

-- next race
abbrev pub next_told : Lent (Option Race) → Left (Perhaps (List ℕ))
next_told = left (record { found = 0; value = zero_words 11 }) (perhaps (zero_words 11) race_words)

-- list races: the four counts, and 1 where all races stand in the lent memory, else 0
abbrev pub whole_number : Bool → ℕ
whole_number true = 1
whole_number false = 0

abbrev pub totals_words : ℕ → Totals → List ℕ
totals_words whole t = t.chunks ∷ t.segments ∷ t.accesses ∷ t.races ∷ whole ∷ []

-- .. and what each lent memory holds afterwards
pub record ListLeft : Type 0 where
  pub told : Told (List ℕ)
  pub work : List ℕ
  pub names : List ℕ
  pub numbers : List ℕ
  pub spare : List ℕ

abbrev pub list_told : Outcome → ListLeft
list_told o =
    record {
      told = told (zero_words 5) (λ (a : Bool × Totals). totals_words (whole_number a.0) a.1) o.answer;
      work = o.work;
      names = o.names;
      numbers = o.numbers;
      spare = o.spare;
    }

-- where the totals say that all races stand in the memory, it reads as the bundle's races, in their order
pub record ReadsAsRaces (s totals names numbers : List ℕ) : Type 0 where
  pub reads : get_or totals 4 0 ≡ 1 → map (race_in names) (take (get_or totals 3 0) numbers) ≡ races_of (chunks_of s)
