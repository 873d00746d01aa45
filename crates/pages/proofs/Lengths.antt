-- How long the lines are: 96 bytes at most. Assumes nothing.
use mathlib.Core.Path.{◌≡◌, refl}
use mathlib.Core.List.{List, []}
use Prim.Native.Nat.{ℕ, ◌+◌, ◌-◌, ◌*◌, ◌/◌, ◌%◌, ◌≤◌, ◌<◌}
use native.Mathlib.Decide.{ℕ_discrete, dec_le}
use native.Mathlib.Nat.{mod-lt}
use native.Mathlib.Omega.{arith}
use lib.Dec.{eqb}
use lib.ListN.{length, get_or, take, length-take}
use Rattle.bundle.proofs.Tests.{cond-elim}
use Rattle.text.specs.Lines.{race_line, pairs_line, race_free_line}
use Rattle.text.proofs.LineLengths.{Within, ◌then◌, within, word, end, Named, access-length, race-length, counts-length, pairs-length}
use Rattle.listing.specs.Listing.{name_of, site_of, race_in}
use Rattle.listing.specs.declared.list.Totals.{Totals}
use Rattle.pages.specs.Listings.{last_line, lines_in}
use Rattle.pages.specs.Inner.{text_of}
use Rattle.pages.proofs.Indexing.{lines-count, line_first, line-race, line-last}

named : (side : ℕ) → Named (name_of side)
named side = record { team = mod-lt _ (omega arith); member = mod-lt _ (omega arith); number = mod-lt _ (omega arith) }

-- the text of an access
pub text-within : (names : List ℕ) (i : ℕ) → Within 29 (text_of names i)
text-within names i =
    access-length (name_of (get_or names (2 * i) 0)) (site_of (get_or names (2 * i + 1) 0)) (named (get_or names (2 * i) 0)) (mod-lt _ (omega arith))

race : (names : List ℕ) (number : ℕ) → Within 72 (race_line (race_in names number))
unfolding race_in
race names number =
    race-length (race_in names number) (named (get_or names (2 * (number / 1024 % 1024)) 0)) (mod-lt _ (omega arith))
    (named (get_or names (2 * (number % 1024)) 0)) (mod-lt _ (omega arith))

last : (n : ℕ) → n < 4294967296 → Within 17 (last_line n)
unfolding last_line race_free_line
last n h =
    cond-elim (Within 17) (eqb n 0) race_free_line (pairs_line n) (λ e. within 17 (omega arith) (word "race-free" 9 refl then end))
    (λ e. pairs-length n h)

-- counts of 32 bits, as the code has them
pub record Small (t : Totals) : Type 0 where
  pub chunks : t.chunks < 4294967296
  pub segments : t.segments < 4294967296
  pub accesses : t.accesses < 4294967296
  pub races : t.races < 4294967296

pub line-within : (t : Totals) (names numbers : List ℕ) → Small t → (i : ℕ) → i < length (lines_in t names numbers) → length (get_or (lines_in t names numbers) i []) ≤ 96
line-within t names numbers small i h = go (ℕ_discrete i 0) (dec_le i (length (take t.races numbers)))
  where
    go : Dec (i ≡ 0) → Dec (i ≤ length (take t.races numbers)) → length (get_or (lines_in t names numbers) i []) ≤ 96
    go (yes e) d =
        rw (e, line_first t names numbers) (omega (arith, (counts-length t.chunks t.segments t.accesses small.chunks small.segments small.accesses).most))
    go (no e) (yes l) = rw (line-race t names numbers i (omega (arith, e)) l) (omega (arith, (race names (get_or numbers (i - 1) 0)).most))
    go (no e) (no l) =
        rw (line-last t names numbers i (omega (arith, lines-count t names numbers)))
        (omega (arith, (last (length (take t.races numbers)) (omega (arith, small.races, length-take t.races numbers))).most))
