-- The lines of a listing by their index, and that none is empty. Assumes nothing.
use mathlib.Core.Path.{◌≡◌, refl, sym, ap, ◌∙◌}
use mathlib.Core.List.{List, [], ◌∷◌, ◌++◌, map, append-nil}
use Prim.Native.Nat.{ℕ, zero, suc, ◌+◌, ◌-◌, ◌≤◌, ◌<◌}
use native.Mathlib.Nat.{le_of_suc-le-suc, not-suc-le-zero, min-eq_left, min-eq_right, add-zero}
use native.Mathlib.Decide.{ℕ_discrete, dec_le}
use native.Mathlib.Numerals.{add-one}
use native.Mathlib.Omega.{arith}
use borrow.Author.Tests.{eq-eqb, ne_eqb, le-leb}
use lib.Dec.{eqb}
use lib.ListN.{length, get_or, take, drop, length-map, length-append, length-take, get_or-append, get_or-eq_default, take-append-drop}
use lib.Seq.{get_or-take, get_or_at}
use Rattle.bundle.specs.Answer.{gives}
use Rattle.bundle.specs.Commands.{written}
use Rattle.bundle.proofs.Tests.{cond-elim}
use Rattle.text.specs.Lines.{counts_line, race_line, pairs_line, race_free_line, printed_at}
use Rattle.text.proofs.LineEnds.{line-some, counts-ends, race-ends, pairs-ends, race-free-ends}
use Rattle.listing.specs.Listing.{races_in, race_in}
use Rattle.listing.specs.declared.list.Totals.{Totals}
use Rattle.pages.specs.Listings.{last_line, lines_of, lines_in}

-- how many of the races have a number
pub shown-few : (races : ℕ) (numbers : List ℕ) → length numbers < races → length numbers ≡ length (take races numbers)
shown-few races numbers h = sym (length-take races numbers ∙ min-eq_right (omega arith))

pub shown-all : (races : ℕ) (numbers : List ℕ) → races ≤ length numbers → races ≡ length (take races numbers)
shown-all races numbers h = sym (length-take races numbers ∙ min-eq_left h)

-- an element of a mapped list
map_at : {A B : Type 0} (f : A → B) (xs : List A) (i : ℕ) (d : A) (e : B) → i < length xs → get_or (map f xs) i e ≡ f (get_or xs i d)
map_at f [] i d e h = absurd (not-suc-le-zero h)
map_at f (x ∷ xs) zero d e h = refl
map_at f (x ∷ xs) (suc i) d e h = map_at f xs i d e (le_of_suc-le-suc h)

module _ (t : Totals) (names numbers : List ℕ) where
  abbrev held : List ℕ
  held = take t.races numbers

  abbrev race_lines : List (List ℕ)
  race_lines = map race_line (races_in t names numbers)

  held-lines : length race_lines ≡ length held
  held-lines = length-map (races_in t names numbers) race_line ∙ length-map held (race_in names)

  pub lines-count : length (lines_in t names numbers) ≡ length held + 2
  unfolding lines_in lines_of
  lines-count = omega (arith, length-append race_lines (last_line (length (races_in t names numbers)) ∷ []), held-lines)

  pub line_first : get_or (lines_in t names numbers) 0 [] ≡ counts_line t.chunks t.segments t.accesses
  unfolding lines_in lines_of
  line_first = refl

  race-after : (j : ℕ) → j < length held → get_or (lines_in t names numbers) (suc j) [] ≡ race_line (race_in names (get_or numbers j 0))
  unfolding lines_in lines_of
  race-after j h =
      get_or-append race_lines _ [] j (omega (arith, held-lines))
      ∙ map_at race_line (races_in t names numbers) j (race_in names 0) [] (omega (arith, length-map held (race_in names)))
      ∙ ap race_line (map_at (race_in names) held j 0 (race_in names 0) h)
      ∙ ap (λ (n : ℕ). race_line (race_in names n)) (get_or-take t.races numbers j 0 (omega (arith, length-take t.races numbers)))

  pub line-race : (i : ℕ) → 1 ≤ i → i ≤ length held → get_or (lines_in t names numbers) i [] ≡ race_line (race_in names (get_or numbers (i - 1) 0))
  line-race zero l h = absurd (not-suc-le-zero l)
  line-race (suc j) l h = race-after j h ∙ ap (λ (k : ℕ). race_line (race_in names (get_or numbers k 0))) (omega arith)

  pub line-last : (i : ℕ) → i ≡ length held + 1 → get_or (lines_in t names numbers) i [] ≡ last_line (length held)
  unfolding lines_in lines_of
  line-last i e =
      ap (λ (k : ℕ). get_or (lines_in t names numbers) k []) (e ∙ add-one (length held))
      ∙ get_or_at race_lines (last_line (length (races_in t names numbers))) [] [] (length held) held-lines
      ∙ ap last_line (length-map held (race_in names))

  pub line-none : (i : ℕ) → length held + 2 ≤ i → get_or (lines_in t names numbers) i [] ≡ []
  line-none i h = get_or-eq_default (lines_in t names numbers) [] (omega (arith, lines-count))

  last_some : (n : ℕ) → 1 ≤ length (last_line n)
  unfolding last_line
  last_some n = cond-elim (λ (l : List ℕ). 1 ≤ length l) (eqb n 0) race_free_line (pairs_line n) (λ e. line-some race-free-ends) (λ e. line-some (pairs-ends n))

  pub line-some-at : (i : ℕ) → i < length held + 2 → 1 ≤ length (get_or (lines_in t names numbers) i [])
  line-some-at i h = go (ℕ_discrete i 0) (dec_le i (length held))
    where
      go : Dec (i ≡ 0) → Dec (i ≤ length held) → 1 ≤ length (get_or (lines_in t names numbers) i [])
      go (yes e) d = rw (e, line_first) (line-some (counts-ends t.chunks t.segments t.accesses))
      go (no e) (yes l) = rw (line-race i (omega (arith, e)) l) (line-some (race-ends (race_in names (get_or numbers (i - 1) 0))))
      go (no e) (no l) = rw (line-last i (omega arith)) (last_some (length held))

-- the last line
pub last-free : (n : ℕ) → n ≡ 0 → last_line n ≡ race_free_line
unfolding last_line
last-free n e = rw (eq-eqb n 0 e)

pub last-pairs : (n : ℕ) → (n ≡ 0 → ⊥) → last_line n ≡ pairs_line n
unfolding last_line
last-pairs n e = rw (ne_eqb n 0 e)

-- an empty line is put anywhere
pub printed-none : (s : List ℕ) (at : ℕ) → printed_at [] s at ≡ record { answer = gives at; buffer = s }
unfolding printed_at written
printed-none s at =
    let none : take at s ++ [] ++ drop (at + 0) s ≡ s = rw (add-zero at, append-nil (take at s)) (take-append-drop at s) in
    rw (le-leb 0 (length s - at) (omega arith), none, add-zero at)

-- the same at the numbers of the code: `r` races are shown
pub race-read : (races : ℕ) (numbers : List ℕ) (i r : ℕ) → r ≡ length (take races numbers) → (i ≡ 0 → ⊥) → i ≤ r → i - 1 < length numbers
race-read races numbers i r e some h = omega (arith, some, e, length-take races numbers)

module _ (t : Totals) (names numbers : List ℕ) (i r : ℕ) (e : r ≡ length (take t.races numbers)) where
  pub at-race : (i ≡ 0 → ⊥) → i ≤ r → get_or (lines_in t names numbers) i [] ≡ race_line (race_in names (get_or numbers (i - 1) 0))
  at-race some h = line-race t names numbers i (omega (arith, some)) (omega (arith, e))

  pub at_last : i ≡ r + 1 → get_or (lines_in t names numbers) i [] ≡ last_line r
  at_last h = line-last t names numbers i (h ∙ ap (λ (k : ℕ). k + 1) e) ∙ ap last_line (sym e)

  pub at_none : r < i → (i ≡ r + 1 → ⊥) → get_or (lines_in t names numbers) i [] ≡ []
  at_none h other = line-none t names numbers i (omega (arith, e, other))
