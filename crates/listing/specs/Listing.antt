-- All races of a bundle, in their order, as numbers.
use Rattle.std.specs.Prelude.{ℕ, ◌+◌, ◌*◌, ◌/◌, ◌%◌, ◌≡◌, Bool, true, false, cond, ◌&&◌, List, [], ◌∷◌, ◌++◌, map, eqb, ltb, leb, length, get_or, take, drop, replicate}
use Rattle.std.specs.declared.result.Result.{Result}
use Rattle.std.specs.declared.result.Result.TheVariants.{Ok, Err}
use Rattle.sorting.specs.Order.{sorted}
use Rattle.sorting.specs.Searching.{index_of}
use Rattle.bundle.specs.Answer.{Answer, gives, refuses, number_of}
use Rattle.bundle.specs.Lists.{concat_map}
use Rattle.bundle.specs.Chunks.{Chunk, chunks_of}
use Rattle.bundle.specs.Check.{check_of}
use Rattle.bundle.specs.declared.refusal.Refusal.{Refusal}
use Rattle.order.specs.Pairs.{element_from}
use Rattle.verdict.specs.Graph.{segments_of}
use Rattle.verdict.specs.Races.{NamedAccess, accesses_of, races_of}
use Rattle.verdict.specs.Tallying.{packed, name_in}
use Rattle.verdict.specs.declared.race.Name.{Name}
use Rattle.verdict.specs.declared.race.Race.{Race}
use Rattle.listing.specs.declared.list.Totals.{Totals}
use Rattle.listing.specs.declared.list.Listed.{Listed}
use Rattle.listing.specs.declared.list.Listed.TheVariants as Lis

-- an access in two words of 64 bits: its name with the size and the stride of its range; the range's base with its site
abbrev pub side_of : NamedAccess → ℕ
side_of x = packed x.name * 16777216 + x.access.range.size * 65536 + x.access.range.stride

abbrev pub spot_of : NamedAccess → ℕ
spot_of x = x.access.range.base * 4294967296 + x.access.site

-- both as one number of 128 bits; the order of these numbers is that of the names
abbrev pub double_word : NamedAccess → ℕ
double_word x = side_of x * 18446744073709551616 + spot_of x

-- all accesses, in the order of their names
unfoldable pub double_words : List Chunk → List ℕ
double_words cs = sorted (map double_word (accesses_of cs))

-- the two words of each
unfoldable pub names_of : List Chunk → List ℕ
names_of cs = concat_map (λ double. double / 18446744073709551616 ∷ double % 18446744073709551616 ∷ []) (double_words cs)

-- the rank of a name: its place among them
unfoldable pub rank_in : List ℕ → Name → ℕ
rank_in doubles n = index_of (eqb (packed n)) (map (λ double. double / 18446744073709551616 / 16777216) doubles)

-- a race as one number: its witness, and the ranks of its names
abbrev pub number_for : ℕ → ℕ → ℕ → ℕ
number_for witness first second = witness * 1048576 + first * 1024 + second

unfoldable pub race_number : List ℕ → Race → ℕ
race_number doubles r = number_for r.witness (rank_in doubles r.first) (rank_in doubles r.second)

-- what stands in the two words of an access: its name, its site, and the lowest element that covers a byte
abbrev pub name_of : ℕ → Name
name_of side = name_in (side / 256)

abbrev pub site_of : ℕ → ℕ
site_of spot = spot % 4294967296

abbrev pub element_in : ℕ → ℕ → ℕ → ℕ
element_in side spot byte = element_from (spot / 4294967296 + side / 65536 % 256) (side % 65536) byte

-- the race that a number stands for
unfoldable pub race_in : List ℕ → ℕ → Race
race_in names number =
    let one = number / 1024 % 1024 in
    let other = number % 1024 in
    let witness = number / 1048576 % 4294967296 in
    record {
      witness = witness;
      first = name_of (get_or names (2 * one) 0);
      first_site = site_of (get_or names (2 * one + 1) 0);
      first_element = element_in (get_or names (2 * one) 0) (get_or names (2 * one + 1) 0) witness;
      second = name_of (get_or names (2 * other) 0);
      second_site = site_of (get_or names (2 * other + 1) 0);
      second_element = element_in (get_or names (2 * other) 0) (get_or names (2 * other + 1) 0) witness;
    }

-- the numbers of all races, in the order of the races
unfoldable pub numbers_of : List Chunk → List ℕ
numbers_of cs = map (race_number (double_words cs)) (races_of cs)

unfoldable pub totals_of : List Chunk → Totals
totals_of cs =
    record {
      chunks = length cs;
      segments = length (segments_of cs);
      accesses = length (accesses_of cs);
      races = length (races_of cs);
    }

-- what a listing gives, and what the lent memory holds afterwards
pub record Outcome : Type 0 where
  pub answer : Answer (Bool × Totals)
  pub work : List ℕ
  pub names : List ℕ
  pub numbers : List ℕ
  pub spare : List ℕ

-- every word is 0
abbrev pub zeros : List ℕ → List ℕ
zeros words = replicate (length words) 0

-- numbers written over the front of lent memory
abbrev pub over : List ℕ → List ℕ → List ℕ
over xs words = xs ++ drop (length xs) words

-- whether all races fit into the lent memory, with room to sort them
unfoldable pub fits_in : List Chunk → List ℕ → List ℕ → List ℕ → Bool
fits_in cs names numbers spare =
    let races = length (races_of cs) in
    leb (2 * length (accesses_of cs)) (length names) && (leb races (length numbers) && leb (races / 2) (length spare))

-- an accepted bundle: all its races, or nothing where they do not fit
unfoldable pub all_races : List Chunk → List ℕ → List ℕ → List ℕ → List ℕ → Outcome
all_races cs work names numbers spare =
    let fit = fits_in cs names numbers spare in
    record {
      answer = gives (fit, totals_of cs);
      work = work;
      names = cond fit (over (names_of cs) names) (zeros names);
      numbers = cond fit (over (numbers_of cs) numbers) (zeros numbers);
      spare = zeros spare;
    }

-- a refusal leaves the lent memory as it was
abbrev pub refused_with : ℕ → ℕ → List ℕ → List ℕ → List ℕ → List ℕ → Outcome
refused_with number place work names numbers spare =
    record { answer = refuses number place; work = work; names = names; numbers = numbers; spare = spare }

-- what is made of an answer, and what of a refusal
abbrev pub whichever : {A B : Type 0} → Answer A → (A → B) → (ℕ → ℕ → B) → B
whichever (gives a) f g = f a
whichever (refuses n p) f g = g n p

-- as check, else all races
unfoldable pub listed_of : List ℕ → List ℕ → List ℕ → List ℕ → List ℕ → Outcome
listed_of s work names numbers spare =
    whichever (check_of s)
    (λ u. all_races (chunks_of s) work names numbers spare)
    (λ n p. refused_with n p work names numbers spare)

-- 13 as for the judge, with all memory untouched; after every other outcome the work area is 0
unfoldable pub listing_of : List ℕ → List ℕ → List ℕ → List ℕ → List ℕ → Outcome
listing_of s work names numbers spare =
    cond (ltb (length work) 16384)
    (refused_with 13 0 work names numbers spare)
    (listed_of s (zeros work) names numbers spare)

-- what the code's answer says: whether all races stand in the lent memory, and the counts
abbrev pub report_of : Result Listed Refusal → Answer (Bool × Totals)
report_of (Ok (Lis.Whole t)) = gives (true, t)
report_of (Ok (Lis.TooMany t)) = gives (false, t)
report_of (Err r) = refuses (number_of r.cause) r.place

abbrev pub outcome_of : Result Listed Refusal → List ℕ → List ℕ → List ℕ → List ℕ → Outcome
outcome_of r work names numbers spare =
    record { answer = report_of r; work = work; names = names; numbers = numbers; spare = spare }

-- the races that stand in the lent memory, where it holds them all
abbrev pub races_in : Totals → List ℕ → List ℕ → List Race
races_in t names numbers = map (race_in names) (take t.races numbers)

-- a whole listing reads as the bundle's races, in their order
abbrev pub Readable : List ℕ → Result Listed Refusal → List ℕ → List ℕ → Type 0
Readable s (Ok (Lis.Whole t)) names numbers = races_in t names numbers ≡ races_of (chunks_of s)
Readable s (Ok (Lis.TooMany t)) names numbers = Unit {0}
Readable s (Err r) names numbers = Unit {0}
