-- What stands in the lent memory at the end, case by case.
use Prim.Native.Nat.{ℕ, ◌*◌, ◌/◌, ◌≤◌}
use mathlib.Core.Path.{◌≡◌, sym, ◌∙◌, ap}
use mathlib.Core.Bool.{Bool, true, false, ◌&&◌}
use mathlib.Core.List.{List, ◌++◌}
use native.Mathlib.Omega.{arith}
use lib.Dec.{leb}
use lib.ListN.{length, take, drop, replicate}
use lib.Seq.{length-take-le}
use borrow.Author.Tests.{leb-true}
use Rattle.sorting.specs.Order.{sorting}
use Rattle.bundle.specs.Index.{table}
use Rattle.bundle.proofs.Tests.{and_left, and_right}
use Rattle.listing.specs.Listing.{zeros}
use Rattle.listing.specs.Ranking.{RowsIn, word_of}
use Rattle.listing.specs.Settling.{AllPut, Settled}
use Rattle.listing.proofs.RankLaws.{sorting-part}

module _ (rows : List ℕ) (accesses races : ℕ) (names numbers spare : List ℕ) where
  pub all-put :
      races ≤ length numbers
      → races / 2 ≤ length spare
      → {names' : List ℕ}
      → names' ≡ table (word_of rows) (2 * accesses) ++ drop (2 * accesses) names
      → {done : Bool} {part : List ℕ}
      → ◌≡◌ {A = Bool × List ℕ} (done, part) (sorting (take races numbers) (length spare))
      → {k : ℕ} {spare' : List ℕ}
      → k ≡ length spare
      → spare' ≡ replicate k 0
      → AllPut rows accesses races names numbers spare names' (part ++ drop races numbers) spare'
  all-put h l n s u c =
      let long : length (take races numbers) ≡ races = length-take-le races numbers h in
      record {
        names_are = n;
        numbers_are = ap (λ (x : List ℕ). x ++ drop races numbers) (sorting-part (take races numbers) (length spare) s (omega arith));
        spare_is = c ∙ ap (λ (x : ℕ). replicate x 0) u;
      }

  module _ {t : Bool} (e : t ≡ (leb (2 * accesses) (length names) && (leb races (length numbers) && leb (races / 2) (length spare)))) where
    pub settled-none :
        t ≡ false
        → {names' numbers' spare' : List ℕ}
        → (names' ≡ zeros names) × (numbers' ≡ zeros numbers) × (spare' ≡ zeros spare)
        → Settled rows accesses races false names numbers spare names' numbers' spare'
    settled-none h z = record { test = sym h ∙ e; names_are = z.0; numbers_are = z.1; spare_is = z.2 }

    pub settled-all :
        t ≡ true
        → {names' numbers' spare' : List ℕ}
        → AllPut rows accesses races names numbers spare names' numbers' spare'
        → Settled rows accesses races true names numbers spare names' numbers' spare'
    settled-all h a = record { test = sym h ∙ e; names_are = a.names_are; numbers_are = a.numbers_are; spare_is = a.spare_is }

    pub fitting-parts : {n : ℕ} → RowsIn rows n → t ≡ true → RowsIn rows n × (2 * accesses ≤ length names) × (races ≤ length numbers) × (races / 2 ≤ length spare)
    fitting-parts i h =
        let a : Bool = leb (2 * accesses) (length names) in
        let b : Bool = leb races (length numbers) in
        let d : Bool = leb (races / 2) (length spare) in
        let all : (a && (b && d)) ≡ true = sym e ∙ h in
        let rest = and_right a (b && d) all in (
          i,
          leb-true (2 * accesses) (length names) (and_left a (b && d) all),
          leb-true races (length numbers) (and_left b d rest),
          leb-true (races / 2) (length spare) (and_right b d rest),
        )
