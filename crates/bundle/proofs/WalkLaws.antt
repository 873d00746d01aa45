-- The walk counted: a chunk has a segment for each command that opens one, and so a bundle that is accepted has at most 512.
use Prim.Native.Nat.{ℕ, suc, ◌+◌, ◌≤◌}
use mathlib.Core.Path.{◌≡◌, refl, sym, ◌∙◌, ap}
use mathlib.Core.List.{List, [], ◌∷◌, map}
use native.Mathlib.Omega.{arith}
use lib.ListN.{length, length-append, length-map}
use Rattle.bundle.specs.Lists.{concat_map}
use Rattle.bundle.specs.Cases.{on_opening}
use Rattle.bundle.specs.Chunks.{Placed, Chunk, fresh, after_command, chunks_of, commands_of}
use Rattle.bundle.specs.Walk.{Border, of_chunk, borders, opens_segment, adds_access, entries_from, entries_of, Segment, Opening, opening_at, segments_from, segments_in, segments_of}
use Rattle.bundle.specs.Scan.{start}
use Rattle.bundle.specs.Index.{total, log_of}
use Rattle.bundle.specs.Check.{Accepted}
use Rattle.bundle.specs.declared.chunk.ChunkState.{ChunkState}
use Rattle.bundle.specs.declared.command.Command.{Command}
use Rattle.bundle.specs.declared.command.Command.TheVariants as Com
use Rattle.bundle.proofs.Scanning.{total-append, Room}
use Rattle.bundle.proofs.ScanChunks.{commands-of-chunks}
use Rattle.bundle.proofs.Reorder.{checked, scan-passed}
use Rattle.bundle.proofs.Onward.{legible}

-- what is made of the answer to the question whether a command opens a segment
pub opening-along :
    {A B : Type 0} (f : A → B) (other member : A) (region : ℕ → A) (barrier : A) (c : Command)
    → f (on_opening other member region barrier c) ≡ on_opening (f other) (f member) (λ t. f (region t)) (f barrier) c
opening-along f other member region barrier (Com.Member t m) = refl
opening-along f other member region barrier Com.End = refl
opening-along f other member region barrier (Com.Region t z) = refl
opening-along f other member region barrier Com.Barrier = refl
opening-along f other member region barrier (Com.Acquire l) = refl
opening-along f other member region barrier (Com.Release l) = refl
opening-along f other member region barrier (Com.Access a) = refl
opening-along f other member region barrier Com.Cut = refl

length-borders : (k : ChunkState) (c : Command) → length (borders k c) ≡ opens_segment c
unfolding borders opens_segment
length-borders k c = opening-along (λ (bs : List Border). length bs) _ _ _ _ c

openings-count :
    (k : ChunkState) (g n : ℕ) (ps : List Placed)
    → length (concat_map opening_at (entries_from k g n ps)) ≡ total opens_segment (map (λ (p : Placed). p.command) ps)
unfolding entries_from total opening_at
openings-count k g n [] = refl
openings-count k g n (p ∷ ps) =
    let c = p.command in
    let k' = after_command k c in
    let es = entries_from k' (g + opens_segment c) (n + adds_access c) ps in
    length-append (map (λ (b : Border). record { border = b; state = k' }) (borders k c)) (concat_map opening_at es)
    ∙ ap (λ (x : ℕ). x + length (concat_map opening_at es)) (length-map (borders k c) _ ∙ length-borders k c)
    ∙ ap (λ (x : ℕ). opens_segment c + x) (openings-count k' (g + opens_segment c) (n + adds_access c) ps)

from-count : (t m n : ℕ) (o : Opening) (os : List Opening) → length (segments_from t m n o os) ≡ suc (length os)
unfolding segments_from
from-count t m n o [] = refl
from-count t m n o (q ∷ os) = ap suc (from-count t m (n + 1) q os)

pub chunk-segments : (c : Chunk) → length (segments_in c) ≡ total opens_segment (log_of c)
unfolding segments_in entries_of log_of commands_of total
chunk-segments c =
    let os = concat_map opening_at (entries_from fresh 0 0 c.body) in
    let first : Opening = record { border = of_chunk; state = fresh } in
    let all = from-count c.team c.member 0 first os in
    let count = openings-count fresh 0 0 c.body in
    let one : opens_segment (Com.Member c.team c.member) ≡ 1 = unfold opens_segment in refl in
    omega arith

-- a count over the commands of chunks
pub chunks-total :
    {A : Type 0} (f : Chunk → List A) (g : Command → ℕ)
    → ((c : Chunk) → length (f c) ≡ total g (log_of c))
    → (cs : List Chunk)
    → length (concat_map f cs) ≡ total g (concat_map log_of cs)
unfolding total
chunks-total f g e [] = refl
chunks-total f g e (c ∷ cs) =
    length-append (f c) (concat_map f cs)
    ∙ ap (λ (x : ℕ). x + length (concat_map f cs)) (e c)
    ∙ ap (λ (x : ℕ). total g (log_of c) + x) (chunks-total f g e cs)
    ∙ sym (total-append g (log_of c) (concat_map log_of cs))

-- 7's limits hold of an accepted bundle
pub accepted-room : (s : List ℕ) → Accepted s → Room start (concat_map log_of (chunks_of s))
accepted-room s a =
    let k = checked s a in
    let logs = ap (map (λ (q : Placed). q.command)) (legible s a).parts ∙ commands-of-chunks (chunks_of s) in
    rw logs at (scan-passed s k.scan k.scan_ok).room

pub few_segments : (s : List ℕ) → Accepted s → length (segments_of (chunks_of s)) ≤ 512
unfolding segments_of
few_segments s a =
    let count = chunks-total segments_in opens_segment chunk-segments (chunks_of s) in
    let room : start.segments + total opens_segment (concat_map log_of (chunks_of s)) ≤ 512 = (accepted-room s a).segments in
    omega arith

-- the first of a chunk's segments from an opening on
pub record First (t m n : ℕ) (o : Opening) (ss : List Segment) : Type 0 where
  pub segment : Segment
  pub more : List Segment
  pub parts : ss ≡ segment ∷ more
  pub node : segment.node ≡ record { team = t; member = m; number = n }

pub first-segment : (t m n : ℕ) (o : Opening) (os : List Opening) → First t m n o (segments_from t m n o os)
unfolding segments_from
first-segment t m n o [] = record { segment = _; more = _; parts = refl; node = refl }
first-segment t m n o (q ∷ os) = record { segment = _; more = _; parts = refl; node = refl }
