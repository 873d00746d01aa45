-- The search by halves, and the search for a key in sorted words that hold a key and an index.
use Rattle.std.specs.Prelude.{ℕ, zero, suc, ◌+◌, ◌-◌, ◌*◌, ◌/◌, ◌%◌, ◌≤◌, ◌<◌, ◌≡◌, Bool, cond, ◌&&◌, List, [], ◌∷◌, eqb, ltb, length, get_or}
use Rattle.sorting.specs.Order.{sorted}

-- the search in the words from `low` up to `high`; the fuel is at least their number
unfoldable pub halving : ℕ → List ℕ → ℕ → ℕ → ℕ → ℕ
halving zero words word low high = low
halving (suc fuel) words word low high =
    let middle = low + (high - low) / 2 in
    let less = ltb (get_or words middle 0) word in
    cond (ltb low high) (halving fuel words word (cond less (middle + 1) low) (cond less high middle)) low

unfoldable pub lower_bound : List ℕ → ℕ → ℕ
lower_bound words word = halving (length words) words word 0 (length words)

-- what that is where the words are ascending: the number of words below `word`
pub record LowerBound (words : List ℕ) (word r : ℕ) : Type 0 where
  pub within : r ≤ length words
  pub below : (k : ℕ) → k < r → get_or words k 0 < word
  pub above : (k : ℕ) → r ≤ k → k < length words → word ≤ get_or words k 0

-- key * 65536 + index, for each row's key
unfoldable pub keyed_from : ℕ → List ℕ → List ℕ
keyed_from i [] = []
keyed_from i (k ∷ ks) = (k * 65536 + i) ∷ keyed_from (suc i) ks

-- these words are those of the rows with these keys, sorted
pub record Keyed (keys words : List ℕ) : Type 0 where
  pub few : length keys ≤ 65536
  pub small : (i : ℕ) → i < length keys → get_or keys i 0 < 281474976710656
  pub order : words ≡ sorted (keyed_from 0 keys)

-- the index that the first word of a key holds; the number of words where there is none. A key fits 48 bits.
unfoldable pub first_with_key : List ℕ → ℕ → ℕ
first_with_key words key =
    let at = lower_bound words (key * 65536) in
    let word = get_or words at 0 in
    cond (ltb key 281474976710656 && ltb at (length words) && eqb (word / 65536) key) (word % 65536) (length words)

-- the index of the first element that passes; the length where there is none
unfoldable pub index_of : {A : Type 0} → (A → Bool) → List A → ℕ
index_of p [] = 0
index_of p (x ∷ xs) = cond (p x) 0 (suc (index_of p xs))
