-- The matrix word by word and row by row: what a store changes, and what each loop has done so far.
use Prim.Native.Nat.{ℕ, ◌+◌, ◌*◌, ◌/◌, ◌%◌, ◌^◌, ◌≤◌, ◌<◌}
use mathlib.Core.Path.{◌≡◌, refl, sym, ◌∙◌}
use mathlib.Core.Bool.{Bool, true, false, ◌&&◌, ◌||◌, or-true, or-false}
use mathlib.Core.List.{List}
use native.Mathlib.Decide.{ℕ_discrete, dec_lt}
use native.Mathlib.Numerals.{add-one}
use native.Mathlib.Omega.{arith}
use lib.Bits.{bit_or}
use lib.Dec.{eqb}
use lib.ListN.{length, get_or, set, length-set}
use lib.Seq.{get_or-set_same, get_or-set_other}
use borrow.Author.Count.{below_more}
use borrow.Author.Tests.{eq-eqb, ne_eqb}
use Rattle.verdict.specs.Matrix.{bit_at, Within, BitSet, DiagonalSet, RowJoined, RowRelaxed, Passed, stage, Staged, Closed}
use Rattle.verdict.proofs.WordBits.{bit_of, bit-or, one_shifted, bit-itself, bit-other}
use Rattle.verdict.proofs.Warshall.{with_self, stage-same, stage-walk, walk-stage}

-- a word of the matrix that x is joined to
module _ (m : List ℕ) (p x : ℕ) where
  abbrev word_joined : List ℕ
  word_joined = set m p (bit_or (get_or m p 0) x)

  word-joined : (r c : ℕ) → p < length m → 16 * r + c / 32 ≡ p → bit_at word_joined r c ≡ (bit_at m r c || bit_of x (c % 32))
  unfolding bit_at
  word-joined r c h e = rw (e, get_or-set_same m p (bit_or (get_or m p 0) x) 0) (bit-or (get_or m p 0) x (c % 32))

  word-other : (r c : ℕ) → (16 * r + c / 32 ≡ p → ⊥) → bit_at word_joined r c ≡ bit_at m r c
  unfolding bit_at
  word-other r c ne = rw (get_or-set_other m p (16 * r + c / 32) (bit_or (get_or m p 0) x) 0 ne)

-- what `set_bit` stores
pub bit-set :
    (m : List ℕ) (i j : ℕ)
    → Within m i j
    → BitSet i j m (set m (16 * i + j / 32) (bit_or (get_or m (16 * i + j / 32) 0) (1 * 2 ^ (j % 32) % 4294967296)))
bit-set m i j w =
    rw
    (one_shifted (j % 32) (omega arith))
    record {
      len = length-set m p (bit_or (get_or m p 0) x);
      here = word-joined m p x i j (omega arith) refl ∙ rw (bit-itself (j % 32), or-true);
      others = λ r c a b ne. go r c ne b (ℕ_discrete (16 * r + c / 32) p);
    }
  where
    p : ℕ
    p = 16 * i + j / 32

    x : ℕ
    x = 2 ^ (j % 32)

    go :
        (r c : ℕ)
        → (r ≡ i → c ≡ j → ⊥)
        → c < 512
        → Dec (16 * r + c / 32 ≡ p)
        → bit_at (word_joined m p x) r c ≡ bit_at m r c
    go r c ne b (yes e) =
        word-joined m p x r c (omega arith) e
        ∙ rw (bit-other (j % 32) (c % 32) (λ q. ne (omega arith) (omega arith)), or-false)
    go r c ne b (no g) = word-other m p x r c g

-- the first w words of row i are joined with those of row k
pub record WordsTo (i k : ℕ) (before now : List ℕ) (w : ℕ) : Type 0 where
  pub done : (v : ℕ) → v < w → get_or now (16 * i + v) 0 ≡ bit_or (get_or before (16 * i + v) 0) (get_or before (16 * k + v) 0)
  pub rest : (p : ℕ) → (16 * i ≤ p → p < 16 * i + w → ⊥) → get_or now p 0 ≡ get_or before p 0

pub words-none : (i k : ℕ) (m : List ℕ) → WordsTo i k m m 0
words-none i k m = record { done = λ v h. absurd (omega arith); rest = λ p ne. refl }

pub words_more :
    (i k : ℕ) {before : List ℕ} (m : List ℕ) (w : ℕ)
    → WordsTo i k before m w
    → w < 16
    → 16 * i + w < length m
    → WordsTo i k before (set m (16 * i + w) (bit_or (get_or m (16 * i + w) 0) (get_or m (16 * k + w) 0))) (w + 1)
words_more i k {before} m w t h l =
    record {
      done =
          below_more _ w
          (λ v a. get_or-set_other m p (16 * i + v) y 0 (λ q. omega arith) ∙ t.done v a)
          (get_or-set_same m p y 0 l ∙ rw (t.rest p (λ a b. omega arith), t.rest (16 * k + w) (λ a b. omega arith)));
      rest = λ q ne. get_or-set_other m p q y 0 (λ e. ne (omega arith) (omega arith)) ∙ t.rest q (λ a b. ne a (omega arith));
    }
  where
    p : ℕ
    p = 16 * i + w

    y : ℕ
    y = bit_or (get_or m p 0) (get_or m (16 * k + w) 0)

pub words-all :
    (i k : ℕ) {before m : List ℕ} (w : ℕ)
    → w ≤ 16
    → 16 ≤ w
    → length m ≡ length before
    → WordsTo i k before m w
    → RowJoined i k before m
unfolding bit_at
words-all i k {before} {m} w low high len t =
    record {
      len = len;
      row = λ c h.
          rw (t.done (c / 32) (omega arith)) (bit-or (get_or before (16 * i + c / 32) 0) (get_or before (16 * k + c / 32) 0) (c % 32));
      others = λ r c a b ne. rw (t.rest (16 * r + c / 32) (λ l g. ne (omega arith)));
    }

-- where the bit is set and the row joined, or it is not and nothing is done
pub relaxed : (i k : ℕ) {before m : List ℕ} → bit_at before i k ≡ true → RowJoined i k before m → RowRelaxed i k before m
relaxed i k e t = record { len = t.len; row = λ c h. rw e (t.row c h); others = t.others }

pub not-relaxed : (i k : ℕ) (m : List ℕ) → bit_at m i k ≡ false → RowRelaxed i k m m
not-relaxed i k m e = record { len = refl; row = λ c h. rw (e, or-false); others = λ r c a b ne. refl }

-- the rows below i are as wanted, and the others as before
pub record RowsTo (want : ℕ → ℕ → Bool) (before now : List ℕ) (i : ℕ) : Type 0 where
  pub done : (r c : ℕ) → r < i → c < 512 → bit_at now r c ≡ want r c
  pub rest : (r c : ℕ) → i ≤ r → r < 512 → c < 512 → bit_at now r c ≡ bit_at before r c

module _ (want : ℕ → ℕ → Bool) where
  pub rows_none : (m : List ℕ) → RowsTo want m m 0
  rows_none m = record { done = λ r c h l. absurd (omega arith); rest = λ r c a b d. refl }

  rows_more :
      {before m after : List ℕ} (i : ℕ)
      → RowsTo want before m i
      → i < 512
      → ((c : ℕ) → c < 512 → bit_at after i c ≡ want i c)
      → ((r c : ℕ) → r < 512 → c < 512 → (r ≡ i → ⊥) → bit_at after r c ≡ bit_at m r c)
      → RowsTo want before after (i + 1)
  rows_more {after = after} i t small row others =
      record {
        done = λ r c h b.
            below_more (λ (r : ℕ). bit_at after r c ≡ want r c) i
            (λ r a. others r c (omega arith) b (λ q. omega arith) ∙ t.done r c a b)
            (row c b)
            r h;
        rest = λ r c a l b. others r c l b (λ q. omega arith) ∙ t.rest r c (omega arith) l b;
      }

-- the diagonal, row by row
pub diagonal-more :
    {before m after : List ℕ} (i : ℕ)
    → RowsTo (with_self (bit_at before)) before m i
    → i < 512
    → BitSet i i m after
    → RowsTo (with_self (bit_at before)) before after (i + 1)
diagonal-more {before} {m} {after} i t small s =
    rows_more (with_self (bit_at before)) i t small (λ c b. go c b (ℕ_discrete i c)) (λ r c a b ne. s.others r c a b (λ q p. ne q))
  where
    go : (c : ℕ) → c < 512 → Dec (i ≡ c) → bit_at after i c ≡ (eqb i c || bit_at before i c)
    go c b (yes q) = rw (← q, eq-eqb i i refl) s.here
    go c b (no g) = rw (ne_eqb i c g) (s.others i c small b (λ p q. g (sym q)) ∙ t.rest i c (omega arith) small b)

pub diagonal-all :
    {before m : List ℕ} (n i : ℕ) → n ≤ i → length m ≡ length before → RowsTo (with_self (bit_at before)) before m i → DiagonalSet n before m
diagonal-all n i h len t = record { len = len; bits = λ r c a b. t.done r c (omega arith) b }

-- a pass, row by row
abbrev pub or_via : (ℕ → ℕ → Bool) → ℕ → ℕ → ℕ → Bool
or_via edge k r c = edge r c || edge r k && edge k c

-- row k stays as it is
via-self : (edge : ℕ → ℕ → Bool) (k c : ℕ) → or_via edge k k c ≡ edge k c
via-self edge k c = go (edge k c) (edge k k)
  where
    go : (a b : Bool) → (a || b && a) ≡ a
    go true b = refl
    go false true = refl
    go false false = refl

pub pass-more :
    {before m after : List ℕ} (k i : ℕ)
    → RowsTo (or_via (bit_at before) k) before m i
    → k < 512
    → i < 512
    → RowRelaxed i k m after
    → RowsTo (or_via (bit_at before) k) before after (i + 1)
pass-more {before} {m} {after} k i t l small s =
    rows_more (or_via (bit_at before) k) i t small
    (λ c b. s.row c b ∙ rw (t.rest i c (omega arith) small b, t.rest i k (omega arith) small l, row-k c b (dec_lt k i)))
    s.others
  where
    row-k : (c : ℕ) → c < 512 → Dec (k < i) → bit_at m k c ≡ bit_at before k c
    row-k c b (yes h) = t.done k c h b ∙ via-self (bit_at before) k c
    row-k c b (no g) = t.rest k c (omega arith) l b

pub pass_all :
    {before m : List ℕ} (n k i : ℕ) → n ≤ i → length m ≡ length before → RowsTo (or_via (bit_at before) k) before m i → Passed n k before m
pass_all n k i h len t = record { len = len; bits = λ r c a b. t.done r c (omega arith) b }

-- the passes for the nodes below k are done
pub record StagesTo (n : ℕ) (before now : List ℕ) (k : ℕ) : Type 0 where
  pub bits : (r c : ℕ) → r < n → c < 512 → bit_at now r c ≡ stage (bit_at before) k r c

pub stages-none : (n : ℕ) (m : List ℕ) → StagesTo n m m 0
unfolding stage
stages-none n m = record { bits = λ r c a b. refl }

pub stages-more :
    {n : ℕ} {before m after : List ℕ} (k : ℕ)
    → StagesTo n before m k
    → n ≤ 512
    → k < n
    → Passed n k m after
    → StagesTo n before after (k + 1)
unfolding stage
stages-more k t small h s =
    rw add-one
    record {
      bits = λ r c a b. s.bits r c a b ∙ rw (t.bits r c a b, t.bits r k a (omega arith), t.bits k c h b);
    }

pub stages-all :
    {n : ℕ} {before m : List ℕ} (k : ℕ) → k ≤ n → n ≤ k → length m ≡ length before → StagesTo n before m k → Staged n before m
stages-all {n} k low high len t = let q : k ≡ n = omega arith in record { len = len; bits = rw q at t.bits }

-- the diagonal and all passes close the matrix
pub matrix-closed : {n : ℕ} {before m after : List ℕ} → n ≤ 512 → DiagonalSet n before m → Staged n m after → Closed n before after
matrix-closed {n} {before} {m} {after} small d s =
    record {
      len = s.len ∙ d.len;
      walks = λ i j a b. (
        λ e. stage-walk n (omega arith) i j a (sym (same i j a b) ∙ e),
        λ w. same i j a b ∙ walk-stage w,
      );
    }
  where
    same : (i j : ℕ) → i < n → j < n → bit_at after i j ≡ stage (with_self (bit_at before)) n i j
    same i j a b =
        s.bits i j a (omega arith) ∙ stage-same n (λ r c h l. d.bits r c h (omega arith)) n (omega arith) i j a b
