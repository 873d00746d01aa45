-- The search by halves: what it answers in ascending words.
use Prim.Native.Nat.{ℕ, zero, suc, ◌+◌, ◌-◌, ◌/◌, ◌≤◌, ◌<◌}
use mathlib.Core.Path.{◌≡◌, refl, sym, ◌∙◌}
use mathlib.Core.List.{List}
use native.Mathlib.Omega.{arith}
use native.Mathlib.Decide.{dec_lt}
use lib.ListN.{length, get_or}
use borrow.Author.Tests.{lt-ltb, le-ltb}
use Rattle.sorting.specs.Order.{Ascending}
use Rattle.sorting.specs.Searching.{halving, lower_bound, LowerBound}
use Rattle.sorting.proofs.Insertion.{ascending-at}

abbrev pub middle_of : ℕ → ℕ → ℕ
middle_of low high = low + (high - low) / 2

-- one turn
module _ (fuel : ℕ) (words : List ℕ) (word low high : ℕ) where
  halving-up :
      low < high
      → get_or words (middle_of low high) 0 < word
      → halving (suc fuel) words word low high ≡ halving fuel words word (middle_of low high + 1) high
  unfolding halving
  halving-up h l = rw (lt-ltb low high h, lt-ltb (get_or words (middle_of low high) 0) word l)

  halving-down :
      low < high
      → word ≤ get_or words (middle_of low high) 0
      → halving (suc fuel) words word low high ≡ halving fuel words word low (middle_of low high)
  unfolding halving
  halving-down h l = rw (lt-ltb low high h, le-ltb (get_or words (middle_of low high) 0) word l)

halving-ends : (fuel : ℕ) (words : List ℕ) (word low high : ℕ) → high ≤ low → halving fuel words word low high ≡ low
unfolding halving
halving-ends zero words word low high h = refl
halving-ends (suc fuel) words word low high h = rw (le-ltb low high h)

-- the words before `low` are below, those from `high` on are not
pub record Bracket (words : List ℕ) (word low high : ℕ) : Type 0 where
  pub order : low ≤ high
  pub within : high ≤ length words
  pub below : (k : ℕ) → k < low → get_or words k 0 < word
  pub above : (k : ℕ) → high ≤ k → k < length words → word ≤ get_or words k 0

module _ (words : List ℕ) (word : ℕ) (a : Ascending words) where
  module _ {low high : ℕ} (b : Bracket words word low high) (h : low < high) where
    bracket-up : get_or words (middle_of low high) 0 < word → Bracket words word (middle_of low high + 1) high
    bracket-up l =
        record {
          order = omega arith;
          within = b.within;
          below = λ k m. omega (arith, ascending-at words a k (middle_of low high) (omega arith) (omega arith));
          above = b.above;
        }

    bracket-down : word ≤ get_or words (middle_of low high) 0 → Bracket words word low (middle_of low high)
    bracket-down l =
        record {
          order = omega arith;
          within = omega arith;
          below = b.below;
          above = λ k m n. omega (arith, ascending-at words a (middle_of low high) k m n);
        }

  bracket-ends : {low high : ℕ} → Bracket words word low high → high ≤ low → LowerBound words word low
  bracket-ends b h = record { within = omega arith; below = b.below; above = λ k l m. b.above k (omega arith) m }

  halving-bracket :
      (fuel low high : ℕ)
      → high ≤ low + fuel
      → Bracket words word low high
      → LowerBound words word (halving fuel words word low high)
  halving-bracket zero low high enough b = rw (halving-ends 0 words word low high (omega arith)) (bracket-ends b (omega arith))
  halving-bracket (suc n) low high enough b = go (halving-bracket n) (dec_lt low high) (dec_lt (get_or words (middle_of low high) 0) word)
    where
      go :
          ((l h : ℕ) → h ≤ l + n → Bracket words word l h → LowerBound words word (halving n words word l h))
          → Dec (low < high)
          → Dec (get_or words (middle_of low high) 0 < word)
          → LowerBound words word (halving (suc n) words word low high)
      go ih (no h) t = let l : high ≤ low = omega arith in rw (halving-ends (suc n) words word low high l) (bracket-ends b l)
      go ih (yes h) (yes l) = rw (halving-up n words word low high h l) (ih (middle_of low high + 1) high (omega arith) (bracket-up b h l))
      go ih (yes h) (no l) =
          let m : word ≤ get_or words (middle_of low high) 0 = omega arith in
          rw (halving-down n words word low high h m) (ih low (middle_of low high) (omega arith) (bracket-down b h m))

  -- in ascending words it is the number of words below
  pub lower-bound : LowerBound words word (lower_bound words word)
  unfolding lower_bound
  lower-bound =
      halving-bracket (length words) 0 (length words) (omega arith)
      (record { order = omega arith; within = omega arith; below = λ k h. absurd (omega arith); above = λ k h l. absurd (omega arith) })

-- the loop: the fuel left is enough, and the search goes on to the answer
pub record Halved (words : List ℕ) (word low high : ℕ) : Type 0 where
  pub fuel : ℕ
  pub enough : high ≤ low + fuel
  pub within : high ≤ length words
  pub answer : lower_bound words word ≡ halving fuel words word low high

pub halved_none : (words : List ℕ) (word : ℕ) → Halved words word 0 (length words)
unfolding lower_bound
halved_none words word = record { fuel = length words; enough = omega arith; within = omega arith; answer = refl }

module _ {words : List ℕ} {word low high : ℕ} (s : Halved words word low high) where
  pub halved-up : low < high → get_or words (middle_of low high) 0 < word → Halved words word (middle_of low high + 1) high
  halved-up h l = go s.fuel s.enough s.answer
    where
      go : (n : ℕ) → high ≤ low + n → lower_bound words word ≡ halving n words word low high → Halved words word (middle_of low high + 1) high
      go zero e q = absurd (omega arith)
      go (suc n) e q = record { fuel = n; enough = omega arith; within = s.within; answer = q ∙ halving-up n words word low high h l }

  pub halved-down : low < high → word ≤ get_or words (middle_of low high) 0 → Halved words word low (middle_of low high)
  halved-down h l = go s.fuel s.enough s.answer
    where
      go : (n : ℕ) → high ≤ low + n → lower_bound words word ≡ halving n words word low high → Halved words word low (middle_of low high)
      go zero e q = absurd (omega arith)
      go (suc n) e q = record { fuel = n; enough = omega arith; within = omega arith; answer = q ∙ halving-down n words word low high h l }

  pub halved-all : high ≤ low → low ≡ lower_bound words word
  halved-all h = sym (s.answer ∙ halving-ends s.fuel words word low high h)
