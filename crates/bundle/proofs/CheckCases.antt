-- What check and find answer, case by case; and where the chunks of an accepted bundle stand.
use Prim.Native.Nat.{ℕ, ◌+◌, ◌-◌, ◌≤◌, ◌<◌}
use mathlib.Core.Path.{◌≡◌, refl, sym, ◌∙◌, ap, ap₂, subst}
use mathlib.Core.Logic.{⊎_elim}
use mathlib.Core.Bool.{Bool, true, false, cond}
use mathlib.Core.List.Memᴰ
use mathlib.Core.List.{List, [], ◌∷◌, map, Memᴰ}
use mathlib.Core.Option.{Option, none, some}
use native.Mathlib.Omega.{arith}
use native.Mathlib.Nat.{add_assoc}
use lib.ListN.{length, take, drop, length-append}
use borrow.Author.Tests.{lt-ltb, le-ltb}
use Rattle.bundle.specs.Answer.{Answer, gives, refuses, when_given, number_of}
use Rattle.bundle.specs.Lists.{first, concat_map, from_option}
use Rattle.bundle.specs.Commands.{Bytes, bytes_of}
use Rattle.bundle.specs.Chunks.{Placed, Front, Chunk, front_of, gather, chunks_of, part_of, is_of, chunk_of}
use Rattle.bundle.specs.Walk.{opens_segment, adds_access}
use Rattle.bundle.specs.Check.{shape_of, check_of, find_of}
use Rattle.bundle.specs.Scan.{start, scan_of}
use Rattle.bundle.specs.Index.{chunk_row_at, fork_row_at, table, is_row, total, log_of, chunk_row, rows_from, chunk_rows, index_of, Indexed}
use Rattle.bundle.specs.Shape.{shape_by_rows}
use Rattle.bundle.specs.Survey.{InTables, Surveyed}
use Rattle.bundle.specs.Find.{Ends, ends_of}
use Rattle.bundle.specs.ByRows.{ends_by_rows}
use Rattle.bundle.specs.declared.refusal.Cause.{Cause}
use Rattle.bundle.specs.declared.scan.Scan.{Scan}
use Rattle.bundle.specs.declared.index.ChunkRow.{ChunkRow}
use Rattle.bundle.proofs.ListLaws.{concat_map-append, first_some}
use Rattle.bundle.proofs.Tables.{first-at, first_past}
use Rattle.bundle.proofs.Gathering.{placed_of, all-in-chunks}
use Rattle.bundle.proofs.ScanChunks.{commands-of-chunks}
use Rattle.bundle.proofs.Printing.{printed, placed_from, prints-front, front-of-printed}
use Rattle.bundle.proofs.Settling.{settled, settle, gather-settle}
use Rattle.bundle.proofs.ShapeRows.{shape-rows}
use Rattle.bundle.proofs.Reorder.{checked, scan-passed, orderly-range}

-- check
module _ (s : List ℕ) where
  pub check-long : 65536 < length s → check_of s ≡ refuses 1 0
  unfolding check_of
  check-long h = rw (lt-ltb 65536 (length s) h)

  pub check-refused : (n p : ℕ) → length s ≤ 65536 → scan_of s ≡ refuses n p → check_of s ≡ refuses n p
  unfolding check_of
  check-refused n p h e = rw (le-ltb 65536 (length s) h, e)

  check-shape : (k : Scan) → length s ≤ 65536 → scan_of s ≡ gives k → check_of s ≡ shape_of (chunks_of s)
  unfolding check_of
  check-shape k h e = rw (le-ltb 65536 (length s) h, e)

  -- the shape by the rows in the tables
  pub check-rows :
      (n m : ℕ) (chunks forks : List ℕ) {a : Answer (Unit {0})}
      → length s ≤ 65536
      → InTables s n m chunks forks
      → a ≡ shape_by_rows (table (chunk_row_at chunks) n) (table (fork_row_at forks) m)
      → check_of s ≡ a
  check-rows n m chunks forks h t e =
      check-shape t.scan h t.passes ∙ sym (shape-rows (chunks_of s)) ∙ ap₂ shape_by_rows (sym t.chunk-rows) (sym t.fork_rows) ∙ sym e

  pub indexed :
      (n m : ℕ) (chunks forks : List ℕ)
      → length s ≤ 65536
      → InTables s n m chunks forks
      → gives tt ≡ shape_by_rows (table (chunk_row_at chunks) n) (table (fork_row_at forks) m)
      → Indexed s n m chunks forks
  indexed n m chunks forks h t e =
      record { accepted = check-rows n m chunks forks h t e; few = t.few; chunk_table = t.chunk_table; fork_table = t.fork_table; chunk-rows = t.chunk-rows; fork_rows = t.fork_rows }

-- the ends of a chunk by the index of its row
module _ (f : ℕ → ChunkRow) (n t m i : ℕ) (e : i ≡ index_of (is_row t m) (table f n)) where
  pub ends-none : n ≤ i → refuses 14 0 ≡ ends_by_rows (table f n) t m
  unfolding ends_by_rows
  ends-none h = rw (first_past (is_row t m) f n i e h)

  pub ends_some : i < n → {r : ChunkRow} → r ≡ f i → gives (record { start = r.place; end = r.past }) ≡ ends_by_rows (table f n) t m
  unfolding ends_by_rows
  ends_some h q = rw (first-at (is_row t m) f n i e h, q)

-- and by the chunks
abbrev ends_in : Option Chunk → Answer Ends
ends_in o = from_option (refuses 14 0) (λ (c : Chunk). gives (record { start = c.place; end = c.past })) o

ends-rows : (t m g n : ℕ) (cs : List Chunk) → ends_by_rows (rows_from g n cs) t m ≡ ends_in (first (is_of t m) cs)
unfolding ends_by_rows rows_from chunk_row is_row is_of
ends-rows t m g n [] = refl
ends-rows t m g n (c ∷ cs) = go (is_of t m c) (ends-rows t m (g + total opens_segment (log_of c)) (n + total adds_access (log_of c)) cs)
  where
    rows : List ChunkRow
    rows = rows_from (g + total opens_segment (log_of c)) (n + total adds_access (log_of c)) cs

    go :
        (b : Bool)
        → ends_by_rows rows t m ≡ ends_in (first (is_of t m) cs)
        → from_option (refuses 14 0) (λ (r : ChunkRow). gives (record { start = r.place; end = r.past })) (cond b (some (chunk_row g n c)) (first (is_row t m) rows))
        ≡ ends_in (cond b (some c) (first (is_of t m) cs))
    go true ih = refl
    go false ih = ih

ends-chunks : (t m : ℕ) (cs : List Chunk) → ends_by_rows (chunk_rows cs) t m ≡ ends_in (chunk_of cs t m)
unfolding chunk_rows chunk_of
ends-chunks t m cs = ends-rows t m 0 0 cs

pub find-rows :
    (s : List ℕ) (n m : ℕ) (chunks forks : List ℕ) (team member : ℕ)
    → Indexed s n m chunks forks
    → ends_by_rows (table (chunk_row_at chunks) n) team member ≡ ends_of s team member
unfolding ends_of
find-rows s n m chunks forks team member x = rw (x.chunk-rows, x.accepted) (ends-chunks team member (chunks_of s))

pub find-refused : (s : List ℕ) (t m n p : ℕ) → check_of s ≡ refuses n p → refuses n p ≡ ends_of s t m
unfolding ends_of
find-refused s t m n p e = rw e

-- chunks one after another
settle-end : (at : ℕ) (d : Chunk) (ds : List Chunk) → at + length (printed (concat_map log_of (d ∷ ds))) ≡ at + length (printed (log_of d)) + length (printed (concat_map log_of ds))
unfolding printed
settle-end at d ds =
    ap (λ (l : List ℕ). at + length l) (concat_map-append bytes_of (log_of d) (concat_map log_of ds))
    ∙ ap (λ (n : ℕ). at + n) (length-append (concat_map bytes_of (log_of d)) (concat_map bytes_of (concat_map log_of ds)))
    ∙ sym (add_assoc at (length (concat_map bytes_of (log_of d))) (length (concat_map bytes_of (concat_map log_of ds))))

-- the chunks of a bundle that passes the scan stand one after another
pub record OneAfterAnother (s : List ℕ) : Type 0 where
  pub chunks : chunks_of s ≡ settle 0 (chunks_of s)
  pub bytes : s ≡ printed (concat_map log_of (chunks_of s))
  pub placed : (front_of s).placed ≡ concat_map placed_of (chunks_of s)

pub one-after-another : (s : List ℕ) (k : Scan) → Bytes s → scan_of s ≡ gives k → OneAfterAnother s
unfolding chunks_of
one-after-another s k b e =
    let p = scan-passed s k e in
    let ps = (front_of s).placed in
    let commands = map (λ (q : Placed). q.command) ps in
    let cs = (gather ps).chunks in
    let ranged = orderly-range start commands p.order in
    let whole = prints-front s p.past b p.ended ranged in
    let out = all-in-chunks ps p.order in
    let logs : commands ≡ concat_map log_of cs = ap (map (λ (q : Placed). q.command)) out.parts ∙ commands-of-chunks cs in
    let placed : ps ≡ placed_from 0 commands = ap (λ (x : List ℕ). (front_of x).placed) whole ∙ ap (λ (f : Front). f.placed) (front-of-printed commands ranged) in
    record {
      chunks = ap (λ (l : List Placed). (gather l).chunks) (placed ∙ ap (placed_from 0) logs) ∙ gather-settle 0 cs out.formed;
      bytes = whole ∙ ap printed logs;
      placed = out.parts;
    }

pub accepted-chunks : (s : List ℕ) → Bytes s → check_of s ≡ gives tt → OneAfterAnother s
accepted-chunks s b e = let k = checked s e in one-after-another s k.scan b k.scan_ok

-- the part between the ends of a chunk
find-ends-part : (s : List ℕ) (t m : ℕ) → find_of s t m ≡ when_given (ends_of s t m) (λ (e : Ends). gives (take (e.end - e.start) (drop e.start s)))
unfolding find_of ends_of part_of
find-ends-part s t m = go (check_of s) (chunk_of (chunks_of s) t m)
  where
    go :
        (a : Answer (Unit {0})) (o : Option Chunk)
        → when_given a (λ u. from_option (refuses 14 0) (λ (c : Chunk). gives (take (c.past - c.place) (drop c.place s))) o)
        ≡ when_given (when_given a (λ u. ends_in o)) (λ (e : Ends). gives (take (e.end - e.start) (drop e.start s)))
    go (refuses n p) o = refl
    go (gives u) none = refl
    go (gives u) (some c) = refl

pub found_part :
    (s : List ℕ) (t m : ℕ) (e : Ends)
    → gives e ≡ ends_of s t m
    → gives (take (e.end - e.start) (drop e.start s)) ≡ find_of s t m
found_part s t m e q = rw (find-ends-part s t m, ← q)

pub refused-part :
    (s : List ℕ) (t m n p : ℕ) → refuses n p ≡ ends_of s t m → refuses n p ≡ find_of s t m
refused-part s t m n p q = rw (find-ends-part s t m, ← q)

-- the ends lie within the bundle
settle-within :
    (at : ℕ) (ds : List Chunk) (c : Chunk)
    → Memᴰ c (settle at ds)
    → (c.place ≤ c.past) × (c.past ≤ at + length (printed (concat_map log_of ds)))
unfolding settle settled
settle-within at [] c m = absurd (Memᴰ.not-nil m)
settle-within at (d ∷ ds) c m =
    let n = length (printed (log_of d)) in
    let l = settle-end at d ds in
    ⊎_elim
    (λ e. rw e (omega arith, omega arith))
    (λ k. let w = settle-within (at + n) ds c k in (w.0, omega (arith, w.1)))
    (Memᴰ.cases_cons m)

pub ends-within :
    (s : List ℕ) (t m : ℕ) (e : Ends) → Bytes s → gives e ≡ ends_of s t m → (e.start ≤ e.end) × (e.end ≤ length s)
unfolding ends_of chunk_of
ends-within s t m e b q = go (check_of s) refl (first (is_of t m) (chunks_of s)) refl q
  where
    go :
        (a : Answer (Unit {0}))
        → check_of s ≡ a
        → (o : Option Chunk)
        → first (is_of t m) (chunks_of s) ≡ o
        → gives e ≡ when_given a (λ u. ends_in o)
        → (e.start ≤ e.end) × (e.end ≤ length s)
    go (refuses n p) h o f r = let z : ◌≡◌ {A = ℕ} 0 1 = cc in absurd (omega arith)
    go (gives u) h none f r = let z : ◌≡◌ {A = ℕ} 0 1 = cc in absurd (omega arith)
    go (gives u) h (some c) f r =
        let o = accepted-chunks s b h in
        let c-in = rw o.chunks at (first_some (is_of t m) (chunks_of s) f).0 in
        let w = settle-within 0 (chunks_of s) c c-in in
        let x : e ≡ record { start = c.place; end = c.past } = cc in
        rw x (w.0, omega (arith, w.1, ap length o.bytes))
