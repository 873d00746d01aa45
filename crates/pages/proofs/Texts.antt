-- The table of texts: filled name by name, and the line of a race by it. Assumes nothing.
use mathlib.Core.Path.{◌≡◌, sym, ap, ap₂, ◌∙◌}
use mathlib.Core.List.{List, [], ◌∷◌, ◌++◌}
use Prim.Native.Nat.{ℕ, ◌+◌, ◌/◌, ◌%◌, ◌<◌}
use native.Mathlib.Nat.{mod-eq_of_lt}
use native.Mathlib.Decide.{dec_lt}
use native.Mathlib.Omega.{arith}
use lib.ListN.{length, get_or, length-append}
use lib.Seq.{get_or_at}
use Rattle.std.proofs.lemmas.List.{get_or_append_left}
use Rattle.verdict.specs.declared.race.Race.{Race}
use Rattle.text.specs.Lines.{race_line}
use Rattle.text.specs.Inner.{access_text}
use Rattle.text.specs.Sides.{sides_line}
use Rattle.text.proofs.SideTable.{race-sides}
use Rattle.listing.specs.Listing.{race_in}
use Rattle.pages.specs.Inner.{text_of, AreTexts}

-- the second access of the race whose number is a rank
second-text : (names : List ℕ) (rank : ℕ) → rank < 1024 → access_text (race_in names rank).second (race_in names rank).second_site ≡ text_of names rank
unfolding race_in
second-text names rank h = ap (text_of names) (mod-eq_of_lt h)

-- one text more
pub one-longer : {all : List (List ℕ)} (texts : List (List ℕ)) (text : List ℕ) (rank : ℕ) → length texts ≡ rank → all ≡ texts ++ text ∷ [] → length all ≡ rank + 1
one-longer texts text rank e a = omega (arith, ap length a, length-append texts (text ∷ []), e)

pub texts-more : (names : List ℕ) (texts all : List (List ℕ)) (rank : ℕ) (r : Race) → rank < 1024 → length texts ≡ rank → AreTexts names texts
    → r ≡ race_in names rank → all ≡ texts ++ access_text r.second r.second_site ∷ [] → AreTexts names all
texts-more names texts all rank r h e p q a i l = go (dec_lt i rank)
  where
    text : access_text r.second r.second_site ≡ text_of names rank
    text = ap (λ (x : Race). access_text x.second x.second_site) q ∙ second-text names rank h

    go : Dec (i < rank) → get_or all i [] ≡ text_of names i
    go (yes b) = rw a (get_or_append_left _ _ [] i (omega (arith, e)) ∙ p i (omega (arith, e)))
    go (no b) =
        let last : i ≡ rank = omega (arith, e, ap length a, length-append texts (access_text r.second r.second_site ∷ [])) in
        rw (a, last) (get_or_at texts (access_text r.second r.second_site) [] [] rank e ∙ text)

-- a race whose accesses both have a text
pub made-line : (names : List ℕ) (texts : List (List ℕ)) (number : ℕ) → AreTexts names texts → number / 1024 % 1024 < length texts → number % 1024 < length texts
    → race_line (race_in names number)
    ≡ sides_line (number / 1048576 % 4294967296) (get_or texts (number / 1024 % 1024) []) (get_or texts (number % 1024) [])
unfolding race_in
made-line names texts number p f g =
    race-sides (race_in names number)
    ∙ ap₂ (sides_line (number / 1048576 % 4294967296)) (sym (p (number / 1024 % 1024) f)) (sym (p (number % 1024) g))
