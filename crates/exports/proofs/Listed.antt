-- A listing told: where the totals say that all races stand in the memory, it reads as the bundle's races.
-- Assumes nothing.
use Prim.Native.Nat.{ℕ}
use mathlib.Core.Path.{◌≡◌, subst, sym}
use mathlib.Core.List.{List}
use native.Mathlib.Omega.{arith}
use lib.ListN.{get_or}
use Rattle.std.specs.declared.result.Result.{Result}
use Rattle.std.specs.declared.result.Result.TheVariants.{Ok}
use Rattle.bundle.specs.declared.refusal.Refusal.{Refusal}
use Rattle.listing.specs.Listing.{Readable}
use Rattle.listing.specs.declared.list.Totals.{Totals}
use Rattle.listing.specs.declared.list.Listed.{Listed}
use Rattle.listing.specs.declared.list.Listed.TheVariants as Lis
use Rattle.exports.specs.RaceWords.{totals_words, ReadsAsRaces}

pub whole-reads :
    (s names numbers : List ℕ) {r : Result Listed Refusal} {t : Totals} {totals : List ℕ}
    → Readable s r names numbers
    → r ≡ Ok (Lis.Whole t)
    → totals ≡ totals_words 1 t
    → ReadsAsRaces s totals names numbers
whole-reads s names numbers {r} {t} {totals} h e w =
    subst (λ (words : List ℕ). ReadsAsRaces s words names numbers) (sym w)
    (record { reads = λ _. subst (λ (x : Result Listed Refusal). Readable s x names numbers) e h })

pub not-whole : (s names numbers : List ℕ) {totals : List ℕ} → get_or totals 4 0 ≡ 0 → ReadsAsRaces s totals names numbers
not-whole s names numbers e = record { reads = λ q. absurd (omega (arith, e, q)) }
