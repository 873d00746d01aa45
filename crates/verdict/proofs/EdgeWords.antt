-- The edges word by word and row by row: what each loop has done so far.
use Prim.Native.Nat.{ℕ, ◌+◌, ◌*◌, ◌/◌, ◌%◌, ◌≤◌, ◌<◌}
use mathlib.Core.Path.{◌≡◌, refl, ◌∙◌, ap}
use mathlib.Core.Bool.{Bool}
use mathlib.Core.List.{List}
use native.Mathlib.Omega.{arith}
use lib.ListN.{length, get_or, set}
use lib.Seq.{get_or-set_same, get_or-set_other}
use borrow.Author.Count.{below_more}
use Rattle.verdict.specs.Matrix.{bit_at}
use Rattle.verdict.specs.Edges.{RowFilled, Filled}
use Rattle.verdict.proofs.WordBits.{bit_of}

-- the first w words of row i have the tests of their columns, the others are as before
pub record CellsTo (test : ℕ → Bool) (i : ℕ) (before now : List ℕ) (w : ℕ) : Type 0 where
  pub done : (v : ℕ) → v < w → (k : ℕ) → k < 32 → bit_of (get_or now (16 * i + v) 0) k ≡ test (32 * v + k)
  pub rest : (p : ℕ) → (16 * i ≤ p → p < 16 * i + w → ⊥) → get_or now p 0 ≡ get_or before p 0

pub cells-none : (test : ℕ → Bool) (i : ℕ) (m : List ℕ) → CellsTo test i m m 0
cells-none test i m = record { done = λ v h. absurd (omega arith); rest = λ p ne. refl }

pub cells-more :
    {test : ℕ → Bool} {i : ℕ} {before : List ℕ} (m : List ℕ) (w x : ℕ)
    → CellsTo test i before m w
    → 16 * i + w < length m
    → ((k : ℕ) → k < 32 → bit_of x k ≡ test (32 * w + k))
    → CellsTo test i before (set m (16 * i + w) x) (w + 1)
cells-more {test} {i} m w x t l word =
    record {
      done =
          below_more (λ (v : ℕ). (k : ℕ) → k < 32 → bit_of (get_or (set m (16 * i + w) x) (16 * i + v) 0) k ≡ test (32 * v + k)) w
          (λ v a k b. rw (get_or-set_other m (16 * i + w) (16 * i + v) x 0 (λ q. omega arith)) (t.done v a k b))
          (λ k b. rw (get_or-set_same m (16 * i + w) x 0 l) (word k b));
      rest = λ p ne. get_or-set_other m (16 * i + w) p x 0 (λ q. ne (omega arith) (omega arith)) ∙ t.rest p (λ a b. ne a (omega arith));
    }

pub cells-all :
    {test : ℕ → Bool} {before m : List ℕ} (n i w : ℕ)
    → w ≤ 16
    → n ≤ 32 * w
    → length m ≡ length before
    → CellsTo test i before m w
    → RowFilled test n i before m
unfolding bit_at
cells-all {test} n i w low high len t =
    record {
      len = len;
      row = λ c h.
          let whole : 32 * (c / 32) + c % 32 ≡ c = omega arith in
          t.done (c / 32) (omega arith) (c % 32) (omega arith) ∙ ap test whole;
      others = λ r c b ne. rw (t.rest (16 * r + c / 32) (λ l g. ne (omega arith)));
    }

-- the rows below i have the tests of the columns below n
pub record FilledTo (test : ℕ → ℕ → Bool) (n : ℕ) (now : List ℕ) (i : ℕ) : Type 0 where
  pub bits : (r : ℕ) → r < i → (c : ℕ) → c < n → bit_at now r c ≡ test r c

pub filled_none : (test : ℕ → ℕ → Bool) (n : ℕ) (m : List ℕ) → FilledTo test n m 0
filled_none test n m = record { bits = λ r h. absurd (omega arith) }

pub filled_more :
    {test : ℕ → ℕ → Bool} {n : ℕ} {m after : List ℕ} (i : ℕ)
    → FilledTo test n m i
    → n ≤ 512
    → RowFilled (test i) n i m after
    → FilledTo test n after (i + 1)
filled_more {test} {n} {after = after} i t small s =
    record {
      bits =
          below_more (λ (r : ℕ). (c : ℕ) → c < n → bit_at after r c ≡ test r c) i
          (λ r a c b. s.others r c (omega arith) (λ q. omega arith) ∙ t.bits r a c b)
          s.row;
    }

pub filled-all :
    {test : ℕ → ℕ → Bool} {n : ℕ} {before m : List ℕ} (i : ℕ) → n ≤ i → length m ≡ length before → FilledTo test n m i → Filled test n before m
filled-all i h len t = record { len = len; bits = λ r c a b. t.bits r (omega arith) c b }
