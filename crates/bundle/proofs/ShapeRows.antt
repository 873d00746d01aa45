-- The tests 8 to 12 and 19 over the rows of a bundle's chunks are those over the chunks.
use Prim.Native.Nat.{ℕ, ◌+◌}
use mathlib.Core.Path.{◌≡◌, refl, ap}
use mathlib.Core.Bool.{Bool, not, ◌&&◌}
use mathlib.Core.List.{List, [], ◌∷◌}
use lib.Dec.{eqb, ltb}
use Rattle.bundle.specs.Lists.{up_to, any}
use Rattle.bundle.specs.Chunks.{Chunk, complete, is_of}
use Rattle.bundle.specs.Walk.{opens_segment, adds_access, barriers_of, forks_of}
use Rattle.bundle.specs.Check.{Fork, failing, stray, lacks_chunk, complete_in, lowest_complete, unlike_lowest, beyond_complete, shape_of}
use Rattle.bundle.specs.Index.{total, log_of, is_row, chunk_row, rows_from, chunk_rows}
use Rattle.bundle.specs.Shape.{stray_row, lacks_row, complete_row, lowest_row, unlike_row, beyond_row, barriers_by_rows, settled_by_rows, shape_by_rows}
use Rattle.bundle.specs.declared.index.ChunkRow.{ChunkRow}
use Rattle.bundle.proofs.Keys.{all_same}

-- rows of chunks, with any numbers of segments and accesses before them
data RowsOf : List ChunkRow → List Chunk → Type 0 where
  no_rows : RowsOf [] []
  one_more : {rs : List ChunkRow} {cs : List Chunk} (g n : ℕ) (c : Chunk) → RowsOf rs cs → RowsOf (chunk_row g n c ∷ rs) (c ∷ cs)

rows_of : (g n : ℕ) (cs : List Chunk) → RowsOf (rows_from g n cs) cs
unfolding rows_from
rows_of g n [] = no_rows
rows_of g n (c ∷ cs) =
    one_more g n c (rows_of (g + total opens_segment (log_of c)) (n + total adds_access (log_of c)) cs)

any-by :
    (p : ChunkRow → Bool) (q : Chunk → Bool)
    → ((g n : ℕ) (c : Chunk) → p (chunk_row g n c) ≡ q c)
    → {rs : List ChunkRow} {cs : List Chunk}
    → RowsOf rs cs
    → any p rs ≡ any q cs
any-by p q same no_rows = refl
any-by p q same (one_more g n c r) = rw (same g n c, any-by p q same r)

any-rows : (t m : ℕ) {rs : List ChunkRow} {cs : List Chunk} → RowsOf rs cs → any (is_row t m) rs ≡ any (is_of t m) cs
unfolding is_row is_of chunk_row
any-rows t m r = any-by (is_row t m) (is_of t m) (λ g n c. refl) r

failing-rows :
    (test : List ChunkRow → ChunkRow → Bool) (test' : List Chunk → Chunk → Bool)
    → ((g n : ℕ) (c : Chunk) (before : List ChunkRow) (before' : List Chunk) → RowsOf before before' → test before (chunk_row g n c) ≡ test' before' c)
    → {before rs : List ChunkRow} {before' cs : List Chunk}
    → RowsOf before before'
    → RowsOf rs cs
    → failing (λ (r : ChunkRow). r.place) test before rs ≡ failing (λ (c : Chunk). c.place) test' before' cs
unfolding failing chunk_row
failing-rows test test' same b no_rows = refl
failing-rows test test' same {before = before} {before' = before'} b (one_more {rs = rs} {cs = cs} g n c r) =
    rw (same g n c _ _ b, failing-rows test test' same {before = chunk_row g n c ∷ before} {before' = c ∷ before'} (one_more g n c b) r)

module _ {rs : List ChunkRow} {cs : List Chunk} (r : RowsOf rs cs) where
  lacks-rows : (t size : ℕ) → lacks_row rs t size ≡ lacks_chunk cs t size
  unfolding lacks_row lacks_chunk
  lacks-rows t size = ap not (all_same (λ m. any (is_row t m) rs) (λ m. any (is_of t m) cs) (up_to size) (λ m. any-rows t m r))

  stray-rows : (fs : List Fork) → failing (λ (q : ChunkRow). q.place) (stray_row fs) [] rs ≡ failing (λ (c : Chunk). c.place) (stray fs) [] cs
  unfolding stray_row stray chunk_row
  stray-rows fs = failing-rows (stray_row fs) (stray fs) (λ g n c before before' b. rw (any-rows c.team c.member b)) no_rows r

  complete-row : (t g n : ℕ) (c : Chunk) → complete_row t (chunk_row g n c) ≡ complete_in t c
  unfolding complete_row complete_in chunk_row
  complete-row t g n c = refl

  lowest-row : (t g n : ℕ) (c : Chunk) → lowest_row rs t (chunk_row g n c) ≡ lowest_complete cs t c
  unfolding lowest_row lowest_complete
  lowest-row t g n c =
      rw (complete-row t g n c)
      (ap (λ (b : Bool). complete_in t c && not b)
      (any-by (λ (q : ChunkRow). complete_row t q && ltb q.member (chunk_row g n c).member) (λ (d : Chunk). complete_in t d && ltb d.member c.member)
      (λ h m d. rw (complete-row t h m d) (unfold chunk_row in refl)) r))

  unlike-row : (g n : ℕ) (c : Chunk) → unlike_row rs (chunk_row g n c) ≡ unlike_lowest cs c
  unfolding unlike_row unlike_lowest
  unlike-row g n c =
      unfold chunk_row in
      (ap (λ (b : Bool). complete c && b)
      (any-by (λ (q : ChunkRow). lowest_row rs c.team q && not (eqb (barriers_of c) q.barriers))
      (λ (d : Chunk). lowest_complete cs c.team d && not (eqb (barriers_of c) (barriers_of d)))
      (λ h m d. rw (lowest-row c.team h m d)) r))

  beyond-row : (g n : ℕ) (c : Chunk) → beyond_row rs (chunk_row g n c) ≡ beyond_complete cs c
  unfolding beyond_row beyond_complete
  beyond-row g n c =
      unfold chunk_row in
      (ap (λ (b : Bool). not (complete c) && b)
      (any-by (λ (q : ChunkRow). complete_row c.team q && ltb q.barriers (barriers_of c))
      (λ (d : Chunk). complete_in c.team d && ltb (barriers_of d) (barriers_of c))
      (λ h m d. rw (complete-row c.team h m d)) r))

  unlike-rows :
      failing (λ (q : ChunkRow). q.place) (λ before q. unlike_row rs q) [] rs ≡ failing (λ (c : Chunk). c.place) (λ before c. unlike_lowest cs c) [] cs
  unlike-rows = failing-rows (λ before q. unlike_row rs q) (λ before c. unlike_lowest cs c) (λ g n c before before' b. unlike-row g n c) no_rows r

  beyond-rows :
      failing (λ (q : ChunkRow). q.place) (λ before q. beyond_row rs q) [] rs ≡ failing (λ (c : Chunk). c.place) (λ before c. beyond_complete cs c) [] cs
  beyond-rows = failing-rows (λ before q. beyond_row rs q) (λ before c. beyond_complete cs c) (λ g n c before before' b. beyond-row g n c) no_rows r

pub shape-rows : (cs : List Chunk) → shape_by_rows (chunk_rows cs) (forks_of cs) ≡ shape_of cs
unfolding shape_by_rows settled_by_rows barriers_by_rows shape_of chunk_rows
shape-rows cs =
    let r = rows_of 0 0 cs in
    simp (lacks-rows r) (rw (stray-rows r (forks_of cs), unlike-rows r, beyond-rows r))
