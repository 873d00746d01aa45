-- The listing of a bundle: what the program racelist prints (docs/FORMAT.md, "The listing"): "First the counts; then for each race in
-- order [..]; then the race count. [..] Without races the second and only other line is `race-free`. A refusal prints just `refused N at
-- P`, number and offset."
use Rattle.std.specs.Prelude.{ℕ, ◌+◌, ◌-◌, true, false, cond, List, [], ◌∷◌, ◌++◌, map, eqb, leb, length, drop}
use Rattle.bundle.specs.Lists.{back_to_back}
use Rattle.bundle.specs.Answer.{gives, refuses}
use Rattle.bundle.specs.Chunks.{chunks_of}
use Rattle.bundle.specs.Check.{check_of}
use Rattle.verdict.specs.Races.{races_of}
use Rattle.verdict.specs.declared.race.Race.{Race}
use Rattle.text.specs.Lines.{counts_line, race_line, pairs_line, race_free_line, refused_line}
use Rattle.listing.specs.Listing.{races_in, totals_of, over}
use Rattle.listing.specs.declared.list.Totals.{Totals}
use Rattle.pages.specs.declared.fill.Page.{Page}

-- "then the race count"; "Without races [..] `race-free`"
unfoldable pub last_line : ℕ → List ℕ
last_line races = cond (eqb races 0) race_free_line (pairs_line races)

-- "First the counts; then for each race in order [..]; then the race count"
unfoldable pub lines_of : Totals → List Race → List (List ℕ)
lines_of t races = counts_line t.chunks t.segments t.accesses ∷ map race_line races ++ (last_line (length races) ∷ [])

-- all that racelist prints for the bytes of a bundle
unfoldable pub listing_text : List ℕ → List ℕ
listing_text s =
    elim (check_of s) [
      | gives u ↦ back_to_back (lines_of (totals_of (chunks_of s)) (races_of (chunks_of s)))
      | refuses n p ↦ refused_line n p
    ]

-- the lines of the listing that stands in lent memory
unfoldable pub lines_in : Totals → List ℕ → List ℕ → List (List ℕ)
lines_in t names numbers = lines_of t (races_in t names numbers)

-- the lines, from the first on, that fit one after another into so many bytes
unfoldable pub page_of : ℕ → List (List ℕ) → List (List ℕ)
page_of room [] = []
page_of room (line ∷ lines) = elim (leb (length line) room) [ true ↦ line ∷ page_of (room - length line) lines | false ↦ [] ]

-- a page, and the lent buffer afterwards
pub record Filled : Type 0 where
  pub page : Page
  pub buffer : List ℕ

-- the lines from an index on in a lent buffer, one after another; what stands behind them stays
unfoldable pub page_from : List (List ℕ) → ℕ → List ℕ → Filled
page_from lines from buffer =
    let page = page_of (length buffer) (drop from lines) in
    record {
      page = record { next = from + length page; size = length (back_to_back page) };
      buffer = over (back_to_back page) buffer;
    }
