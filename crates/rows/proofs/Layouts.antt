-- The records of a bundle laid out: what the functions of the plan need of each other.
use Prim.Native.Nat.{ℕ, ◌≤◌}
use mathlib.Core.Path.{◌≡◌, ◌∙◌, ap}
use mathlib.Core.Bool.{Bool}
use mathlib.Core.List.{List, ◌++◌}
use native.Mathlib.Omega.{arith}
use lib.ListN.{length, take, drop}
use lib.Seq.{length-take-le, length_front}
use Rattle.sorting.specs.Order.{sorted, sorting}
use Rattle.sorting.proofs.Insertion.{sorted-length}
use Rattle.bundle.specs.Check.{Accepted}
use Rattle.bundle.specs.Index.{fork_row_at, table, Indexed}
use Rattle.bundle.proofs.TeamOrder.{sorting-sorts}
use Rattle.rows.specs.Passing.{Listable, Listed, Sorted}
use Rattle.rows.specs.Planning.{RowsHeld}
use Rattle.rows.proofs.IntervalOrder.{rows-laid}

pub front-sorted :
    (words : List ℕ) (n room : ℕ) {r : Bool} {after words' : List ℕ}
    → length words ≡ 1536
    → n ≤ 512
    → 256 ≤ room
    → (r, after) ≡ sorting (take n words) room
    → words' ≡ after ++ drop n words
    → Sorted words words' n
front-sorted words n room {r} {after} long few most e q =
    let short = length-take-le n words (omega (arith, long, few)) in
    let done = sorting-sorts r (take n words) after room e (omega (arith, short, few, most)) in
    record { is = q ∙ ap (λ (ws : List ℕ). ws ++ drop n words) done }

pub rows-held :
    (s words after : List ℕ) {n : ℕ}
    → Accepted s
    → Listed s n words
    → Sorted words after n
    → RowsHeld s n after
rows-held s words after {n} a x y =
    record {
      accepted = a;
      few = x.few;
      long = ap (λ (ws : List ℕ). length ws) y.is ∙ length_front words (sorted (take n words)) n (sorted-length (take n words)) ∙ x.long;
      rows = rows-laid s words n a x after y;
    }

-- by the index of an accepted bundle
module _ {s chunks forks : List ℕ} {n m : ℕ} (k : Indexed s n m chunks forks) where
  pub listable : (words : List ℕ) → length words ≡ 1536 → Listable s (table (fork_row_at forks) m) words
  listable words long = record { accepted = k.accepted; forks = k.fork_rows; long = long }

  pub few_regions : m ≤ 512
  few_regions = omega (arith, k.few)
