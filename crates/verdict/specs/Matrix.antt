-- Inner: reachability as bits: 512 rows of 512 bits in 8,192 words of 32 bits, 16 words a row.
use Rattle.std.specs.Prelude.{ℕ, zero, suc, ◌+◌, ◌*◌, ◌/◌, ◌%◌, ◌^◌, ◌≤◌, ◌<◌, ◌≡◌, ◌↔◌, Bool, true, ◌&&◌, ◌||◌, List, eqb, length, get_or}
use Rattle.std.proofs.Math.Option.{some}
use Rattle.std.proofs.Math.ListN.{get_elem?}
use Rattle.verdict.specs.Graph.{Segment}
use Rattle.verdict.specs.GraphTests.{joins, closure_of, reaches}

-- the bit in row i and column j
unfoldable pub bit_at : List ℕ → ℕ → ℕ → Bool
bit_at m i j = eqb (get_or m (16 * i + j / 32) 0 / 2 ^ (j % 32) % 2) 1

-- the tests of 32 columns in a word, the first of them lowest
pub record TestWord (test : ℕ → Bool) (first word : ℕ) : Type 0 where
  pub bits : (k : ℕ) → k < 32 → eqb (word / 2 ^ k % 2) 1 ≡ test (first + k)

-- a whole matrix, and a row and column of it
pub record Within (m : List ℕ) (i j : ℕ) : Type 0 where
  pub whole : length m ≡ 8192
  pub row : i < 512
  pub column : j < 512

-- a whole matrix, of which the rows and columns below n are used
pub record Square (m : List ℕ) (n : ℕ) : Type 0 where
  pub whole : length m ≡ 8192
  pub small : n ≤ 512

-- one bit is set
pub record BitSet (i j : ℕ) (before after : List ℕ) : Type 0 where
  pub len : length after ≡ length before
  pub here : bit_at after i j ≡ true
  pub others : (r c : ℕ) → r < 512 → c < 512 → (r ≡ i → c ≡ j → ⊥) → bit_at after r c ≡ bit_at before r c

-- the bits on the diagonal are set
pub record DiagonalSet (n : ℕ) (before after : List ℕ) : Type 0 where
  pub len : length after ≡ length before
  pub bits : (r c : ℕ) → r < n → c < 512 → bit_at after r c ≡ (eqb r c || bit_at before r c)

-- the bits of row k are set in row i too
pub record RowJoined (i k : ℕ) (before after : List ℕ) : Type 0 where
  pub len : length after ≡ length before
  pub row : (c : ℕ) → c < 512 → bit_at after i c ≡ (bit_at before i c || bit_at before k c)
  pub others : (r c : ℕ) → r < 512 → c < 512 → (r ≡ i → ⊥) → bit_at after r c ≡ bit_at before r c

-- the same where row i has bit k
pub record RowRelaxed (i k : ℕ) (before after : List ℕ) : Type 0 where
  pub len : length after ≡ length before
  pub row : (c : ℕ) → c < 512 → bit_at after i c ≡ (bit_at before i c || bit_at before i k && bit_at before k c)
  pub others : (r c : ℕ) → r < 512 → c < 512 → (r ≡ i → ⊥) → bit_at after r c ≡ bit_at before r c

-- the same for every row: the pass of Warshall's algorithm for the node k
pub record Passed (n k : ℕ) (before after : List ℕ) : Type 0 where
  pub len : length after ≡ length before
  pub bits : (r c : ℕ) → r < n → c < 512 → bit_at after r c ≡ (bit_at before r c || bit_at before r k && bit_at before k c)

-- the passes for the nodes below k, from an edge test
unfoldable pub stage : (ℕ → ℕ → Bool) → ℕ → ℕ → ℕ → Bool
stage edge zero i j = edge i j
stage edge (suc k) i j = stage edge k i j || stage edge k i k && stage edge k k j

pub record Staged (n : ℕ) (before after : List ℕ) : Type 0 where
  pub len : length after ≡ length before
  pub bits : (r c : ℕ) → r < n → c < 512 → bit_at after r c ≡ stage (bit_at before) n r c

-- a walk of any length, none too, along edges from nodes below n
pub data Walk (n : ℕ) (edge : ℕ → ℕ → Bool) (i : ℕ) : ℕ → Type 0 where
  stay : Walk n edge i i
  along : {j k : ℕ} → Walk n edge i j → j < n → edge j k ≡ true → Walk n edge i k

-- a bit is set where there is a walk along the bits that were set
pub record Closed (n : ℕ) (before after : List ℕ) : Type 0 where
  pub len : length after ≡ length before
  pub walks : (i j : ℕ) → i < n → j < n → bit_at after i j ≡ true ↔ Walk n (bit_at before) i j

-- the bits say which segments of a list have an edge, by their places in the list
pub record EdgeBits (segments : List Segment) (m : List ℕ) : Type 0 where
  pub bits : (i j : ℕ) {a b : Segment} → get_elem? segments i ≡ some a → get_elem? segments j ≡ some b → bit_at m i j ≡ joins a b

-- the bits say which segments reach which
pub record PathBits (segments : List Segment) (m : List ℕ) : Type 0 where
  pub bits :
      (i j : ℕ) {a b : Segment}
      → get_elem? segments i ≡ some a
      → get_elem? segments j ≡ some b
      → bit_at m i j ≡ reaches (closure_of segments) a.node b.node
