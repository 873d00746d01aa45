-- The chunks in the order of their words are the chunks by team, then member.
use Prim.Native.Nat.{ℕ, zero, suc, ◌+◌, ◌*◌, ◌%◌, ◌≤◌, ◌<◌}
use mathlib.Core.Path.{◌≡◌, refl, sym, ◌∙◌, ap, subst}
use mathlib.Core.Logic.{◌⊎◌, ⊎_elim}
use mathlib.Core.Bool.{true}
use mathlib.Core.List.Memᴰ
use mathlib.Core.List.{List, [], ◌∷◌, map, Memᴰ}
use native.Mathlib.Omega.{arith}
use native.Mathlib.Decide.{ℕ_discrete}
use lib.ListN.{length}
use lib.Dec.{eqb, leb}
use borrow.Author.Tests.{le-leb, lt-leb, le-ltb, lt-ltb, eq-eqb, eqb-true}
use Rattle.sorting.specs.Order.{sorted, All}
use Rattle.sorting.proofs.Insertion.{all-at, sorted_all}
use Rattle.bundle.specs.Answer.{gives, refuses}
use Rattle.bundle.specs.Lists.{back_to_back}
use Rattle.bundle.specs.Commands.{Bytes, written}
use Rattle.bundle.specs.Chunks.{Chunk, chunks_of, part_of, is_of, chunk_of}
use Rattle.bundle.specs.Walk.{opens_segment, adds_access}
use Rattle.bundle.specs.Check.{check_of, Accepted}
use Rattle.bundle.specs.Find.{ends_of}
use Rattle.bundle.specs.Index.{chunk_row_at, chunk_row_of, table_from, table, total, log_of, chunk_row, rows_from, chunk_rows, Indexed}
use Rattle.bundle.specs.declared.index.ChunkRow.{ChunkRow}
use Rattle.bundle.proofs.Tests.{false-is-true, is_false, both, and_left, and_right}
use Rattle.bundle.proofs.ListLaws.{any-intro, first_of, first_some, Distinct, distinct_head, distinct_tail}
use Rattle.bundle.proofs.Keys.{distinct-key}
use Rattle.bundle.proofs.CheckCases.{ends-within}
use Rattle.verdict.specs.Accesses.{lex_less}
use Rattle.verdict.proofs.Lexical.{Compared, less, same, more, compare, less-elim, less-asymmetric}
use Rattle.rewrite.specs.Rewriting.{sorted_by, chunk_name, rewritten, filling_of, rewrite_as, rewrite_of}
use Rattle.rewrite.specs.FixedOrder.{chunk_bytes}
use Rattle.rewrite.specs.Words.{chunk_word, row_part, piece_at, pieces, RowFits, PiecesFit, ByIndex}
use Rattle.rewrite.proofs.KeySort.{Agreeing, agreeing_nil, agreeing_cons, sort-words}
use Rattle.rewrite.proofs.ChunkBytes.{part_name, part-name, names-distinct}
use Rattle.rewrite.proofs.FixedChunks.{rewritten-parts, fixed-order}

-- team and member as one number
module _ (t m t' m' : ℕ) (small : m < 256) (small' : m' < 256) where
  pair-less : lex_less (t ∷ m ∷ []) (t' ∷ m' ∷ []) ≡ true → t * 256 + m < t' * 256 + m'
  pair-less e =
      ⊎_elim
      (λ (h : t < t'). omega arith)
      (λ h. second h.0 (less-elim m m' [] [] h.1))
      (less-elim t t' (m ∷ []) (m' ∷ []) e)
    where
      second : t ≡ t' → (m < m') ⊎ ((m ≡ m') × (lex_less [] [] ≡ true)) → t * 256 + m < t' * 256 + m'
      second q d = ⊎_elim (λ (h : m < m'). omega arith) (λ (h : (m ≡ m') × (lex_less [] [] ≡ true)). false-is-true (unfold lex_less in h.1)) d

module _ (t m t' m' i j : ℕ) (small : m < 256) (small' : m' < 256) (index : i < 65536) (index' : j < 65536) where
  words-agree :
      (t ∷ m ∷ [] ≡ t' ∷ m' ∷ [] → ⊥)
      → leb ((t * 256 + m) * 65536 + i) ((t' * 256 + m') * 65536 + j) ≡ lex_less (t ∷ m ∷ []) (t' ∷ m' ∷ [])
  words-agree apart = go (compare (t ∷ m ∷ []) (t' ∷ m' ∷ []))
    where
      word : ℕ
      word = (t * 256 + m) * 65536 + i

      word' : ℕ
      word' = (t' * 256 + m') * 65536 + j

      go : Compared (t ∷ m ∷ []) (t' ∷ m' ∷ []) → leb ((t * 256 + m) * 65536 + i) ((t' * 256 + m') * 65536 + j) ≡ lex_less (t ∷ m ∷ []) (t' ∷ m' ∷ [])
      go (less h) = le-leb word word' (omega (arith, pair-less t m t' m' small small' h)) ∙ sym h
      go (same h) = absurd (apart h)
      go (more h) =
          lt-leb word word' (omega (arith, pair-less t' m' t m small' small h))
          ∙ sym (is_false (lex_less (t ∷ m ∷ []) (t' ∷ m' ∷ [])) (λ e. less-asymmetric (t ∷ m ∷ []) (t' ∷ m' ∷ []) e h))

word-index : (k i : ℕ) → i < 65536 → (k * 65536 + i) % 65536 ≡ i
word-index k i h = omega arith

row-member : (chunks : List ℕ) (i : ℕ) → (chunk_row_at chunks i).member < 256
unfolding chunk_row_at chunk_row_of
row-member chunks i = omega arith

abbrev row_name : ChunkRow → List ℕ
row_name r = r.team ∷ r.member ∷ []

-- the elements of a table
module _ {A : Type 0} (f : ℕ → A) where
  pub from-elim : (i k : ℕ) {y : A} → Memᴰ y (table_from f i k) → (j : ℕ) × (i ≤ j) × (j < i + k) × (y ≡ f j)
  unfolding table_from
  from-elim i zero m = absurd (Memᴰ.not-nil m)
  from-elim i (suc k) {y} m =
      ⊎_elim
      (λ (e : y ≡ f i). (i, omega arith, omega arith, e))
      (λ l. let r = from-elim (suc i) k l in (r.0, omega (arith, r.1), omega (arith, r.2), r.3))
      (Memᴰ.cases_cons m)

  pub from-intro : (i k j : ℕ) → i ≤ j → j < i + k → Memᴰ (f j) (table_from f i k)
  unfolding table_from
  from-intro i zero j h l = absurd (omega arith)
  from-intro i (suc k) j h l = go (from-intro (suc i) k j) (ℕ_discrete j i)
    where
      go : (suc i ≤ j → j < suc i + k → Memᴰ (f j) (table_from f (suc i) k)) → Dec (j ≡ i) → Memᴰ (f j) (f i ∷ table_from f (suc i) k)
      go ih (yes e) = Memᴰ.head (ap f e)
      go ih (no e) = Memᴰ.tail (ih (omega arith) (omega arith))

-- rows and chunks
rows-parts : (s : List ℕ) (g n : ℕ) (cs : List Chunk) → map (row_part s) (rows_from g n cs) ≡ map (part_of s) cs
unfolding rows_from chunk_row part_of
rows-parts s g n [] = refl
rows-parts s g n (c ∷ cs) = ap (λ (l : List (List ℕ)). part_of s c ∷ l) (rows-parts s (g + total opens_segment (log_of c)) (n + total adds_access (log_of c)) cs)

rows-names : (g n : ℕ) (cs : List Chunk) → map row_name (rows_from g n cs) ≡ map chunk_name cs
unfolding rows_from chunk_row chunk_name
rows-names g n [] = refl
rows-names g n (c ∷ cs) = ap (λ (l : List (List ℕ)). chunk_name c ∷ l) (rows-names (g + total opens_segment (log_of c)) (n + total adds_access (log_of c)) cs)

record OfChunk (cs : List Chunk) (r : ChunkRow) : Type 0 where
  chunk : Chunk
  present : Memᴰ chunk cs
  segments : ℕ
  accesses : ℕ
  is : r ≡ chunk_row segments accesses chunk

rows-elim : (g n : ℕ) (cs : List Chunk) {r : ChunkRow} → Memᴰ r (rows_from g n cs) → OfChunk cs r
unfolding rows_from
rows-elim g n [] m = absurd (Memᴰ.not-nil m)
rows-elim g n (c ∷ cs) {r} m =
    ⊎_elim
    (λ e. record { chunk = c; present = Memᴰ.head refl; segments = g; accesses = n; is = e })
    (λ l. behind (rows-elim (g + total opens_segment (log_of c)) (n + total adds_access (log_of c)) cs l))
    (Memᴰ.cases_cons m)
  where
    behind : OfChunk cs r → OfChunk (c ∷ cs) r
    behind o = record { chunk = o.chunk; present = Memᴰ.tail o.present; segments = o.segments; accesses = o.accesses; is = o.is }

own : (c : Chunk) → is_of c.team c.member c ≡ true
unfolding is_of
own c = both (eq-eqb c.team c.team refl) (eq-eqb c.member c.member refl)

same_name : (d c : Chunk) → is_of c.team c.member d ≡ true → chunk_name d ≡ chunk_name c
unfolding is_of chunk_name
same_name d c e =
    rw (
      eqb-true d.team c.team (and_left (eqb d.team c.team) (eqb d.member c.member) e),
      eqb-true d.member c.member (and_right (eqb d.team c.team) (eqb d.member c.member) e),
    )

module _ (s chunks : List ℕ) (n : ℕ) (bytes : Bytes s) (x : ByIndex s n chunks) where
  abbrev row_at : ℕ → ChunkRow
  row_at = chunk_row_at chunks

  row_of : (i : ℕ) → i < n → OfChunk (chunks_of s) (row_at i)
  row_of i h =
      rows-elim 0 0 (chunks_of s)
      (unfold chunk_rows in (subst (Memᴰ (row_at i)) x.rows (unfold table in (from-intro row_at 0 n i (omega arith) (omega arith)))))

  row-name : (i : ℕ) → i < n → part_name (row_part s (row_at i)) ≡ row_name (row_at i)
  unfolding chunk_row
  row-name i h =
      let o = row_of i h in
      rw o.is (unfold part_of chunk_name in (part-name s bytes x.accepted o.chunk o.present))

  -- a chunk's ends lie within the bundle, since finding it gives them
  chunk-fits : (c : Chunk) → Memᴰ c (chunks_of s) → (c.place ≤ c.past) × (c.past ≤ length s)
  unfolding ends_of chunk_of
  chunk-fits c m =
      let f = first_of (is_of c.team c.member) (chunks_of s) (any-intro (is_of c.team c.member) m (own c)) in
      let e = first_some (is_of c.team c.member) (chunks_of s) f.1 in
      let q : f.0 ≡ c = distinct-key chunk_name (names-distinct s bytes x.accepted) e.0 m (same_name f.0 c e.1) in
      ends-within s c.team c.member (record { start = c.place; end = c.past }) bytes (rw (x.accepted, f.1, q))

  row_fits : (i : ℕ) → i < n → RowFits s (row_at i)
  unfolding chunk_row
  row_fits i h =
      let o = row_of i h in
      let w = chunk-fits o.chunk o.present in
      rw o.is (record { ordered = w.0; within = w.1 })

  piece-at : (i : ℕ) → i < n → piece_at s chunks (chunk_word chunks i) ≡ row_part s (row_at i)
  unfolding piece_at chunk_word
  piece-at i h = rw (word-index ((row_at i).team * 256 + (row_at i).member) i (omega (arith, x.few)))

  piece-name : (i : ℕ) → i < n → part_name (piece_at s chunks (chunk_word chunks i)) ≡ row_name (row_at i)
  piece-name i h = ap part_name (piece-at i h) ∙ row-name i h

  agreeing : (i k : ℕ) → i + k ≤ n → Distinct (map row_name (table_from row_at i k)) → Agreeing part_name (piece_at s chunks) (table_from (chunk_word chunks) i k)
  unfolding table_from
  agreeing i zero h d = agreeing_nil
  agreeing i (suc k) h d =
      agreeing_cons
      (λ y m.
      let r = from-elim (chunk_word chunks) (suc i) k m in
      behind r.0 y r.1 r.2 r.3)
      (agreeing (suc i) k (omega arith) (distinct_tail d))
    where
      behind : (j y : ℕ) → suc i ≤ j → j < suc i + k → y ≡ chunk_word chunks j
          → leb (chunk_word chunks i) y ≡ lex_less (part_name (piece_at s chunks (chunk_word chunks i))) (part_name (piece_at s chunks y))
      behind j y l u e =
          rw (e, piece-name i (omega arith), piece-name j (omega arith))
          (unfold chunk_word in
          (words-agree (row_at i).team (row_at i).member (row_at j).team (row_at j).member i j (row-member chunks i) (row-member chunks j) (omega (arith, x.few)) (omega (arith, x.few))
          (λ q. distinct_head d (Memᴰ.cast q (Memᴰ.map row_name (from-intro row_at (suc i) k j l u))))))

  pieces-parts : (i k : ℕ) → i + k ≤ n → map (piece_at s chunks) (table_from (chunk_word chunks) i k) ≡ map (row_part s) (table_from row_at i k)
  unfolding table_from
  pieces-parts i zero h = refl
  pieces-parts i (suc k) h = rw (piece-at i (omega arith), pieces-parts (suc i) k (omega arith))

  parts : map (piece_at s chunks) (table (chunk_word chunks) n) ≡ chunk_bytes s
  unfolding chunk_bytes chunk_rows
  parts =
      unfold table in (pieces-parts 0 n (omega arith))
      ∙ ap (map (row_part s)) x.rows
      ∙ rows-parts s 0 0 (chunks_of s)

  names : Distinct (map row_name (table row_at n))
  unfolding chunk_rows
  names = rw (x.rows, rows-names 0 0 (chunks_of s)) (names-distinct s bytes x.accepted)

  pieces-rewritten : pieces s chunks (sorted (table (chunk_word chunks) n)) ≡ rewritten s
  unfolding pieces
  pieces-rewritten =
      ap back_to_back
      (sort-words part_name (piece_at s chunks) (unfold table in (agreeing 0 n (omega arith) (unfold table in names)))
      ∙ ap (sorted_by part_name) parts)
      ∙ sym (rewritten-parts s bytes x.accepted)

  abbrev Fits : ℕ → Type 0
  Fits word = RowFits s (row_at (word % 65536))

  all_fit : (i k : ℕ) → i + k ≤ n → All Fits (table_from (chunk_word chunks) i k)
  unfolding table_from chunk_word
  all_fit i zero h = tt
  all_fit i (suc k) h = (
    rw (word-index ((row_at i).team * 256 + (row_at i).member) i (omega (arith, x.few))) (row_fits i (omega arith)),
    all_fit (suc i) k (omega arith),
  )

  pieces-fit : (room : ℕ) → length s ≤ room → PiecesFit s chunks (sorted (table (chunk_word chunks) n)) room
  pieces-fit room h =
      let words = table (chunk_word chunks) n in
      record {
        each = all-at Fits (sorted words) (sorted_all Fits words (unfold table in (all_fit 0 n (omega arith))));
        all = rw (pieces-rewritten, (fixed-order s bytes x.accepted).as_long) h;
      }

  -- by words that are in order
  module _ {order : List ℕ} (e : order ≡ sorted (table (chunk_word chunks) n)) where
    pub ordered-fit : (room : ℕ) → length s ≤ room → PiecesFit s chunks order room
    ordered-fit room h = subst (λ (ws : List ℕ). PiecesFit s chunks ws room) (sym e) (pieces-fit room h)

    pub ordered-put : (buffer : List ℕ) {after : List ℕ} → after ≡ written buffer 0 (pieces s chunks order) → after ≡ written buffer 0 (rewritten s)
    ordered-put buffer w = w ∙ ap (written buffer 0) (ap (pieces s chunks) e ∙ pieces-rewritten)

pub for-length : (s chunks : List ℕ) {n k : ℕ} → n ≡ k → ByIndex s n chunks → ByIndex s k chunks
for-length s chunks e x = subst (λ (k : ℕ). ByIndex s k chunks) e x

-- what the answer is
module _ (s : List ℕ) (bytes : Bytes s) (ok : Accepted s) (buffer : List ℕ) where
  pub filling-short : length buffer < length s → record { answer = refuses 17 0; buffer = buffer } ≡ filling_of buffer (rewritten s)
  unfolding filling_of
  filling-short h = rw ((fixed-order s bytes ok).as_long, lt-ltb (length buffer) (length s) h)

  pub filling-written :
      {after : List ℕ}
      → length s ≤ length buffer
      → after ≡ written buffer 0 (rewritten s)
      → record { answer = gives (length s); buffer = after } ≡ filling_of buffer (rewritten s)
  unfolding filling_of
  filling-written h e = rw ((fixed-order s bytes ok).as_long, le-ltb (length buffer) (length s) h, e)

pub rewrite-accepted : (s buffer : List ℕ) → check_of s ≡ gives tt → filling_of buffer (rewritten s) ≡ rewrite_of s buffer
unfolding rewrite_of rewrite_as
rewrite-accepted s buffer e = rw e

pub rewrite-refused : (s buffer : List ℕ) {n p : ℕ} → check_of s ≡ refuses n p → record { answer = refuses n p; buffer = buffer } ≡ rewrite_of s buffer
unfolding rewrite_of rewrite_as
rewrite-refused s buffer e = rw e

pub by_index : (s : List ℕ) {n m : ℕ} (chunks forks : List ℕ) → Indexed s n m chunks forks → ByIndex s n chunks
by_index s chunks forks x = record { accepted = x.accepted; few = omega (arith, x.few); rows = x.chunk-rows }
