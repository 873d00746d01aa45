-- The segments of a bundle: within a chunk they are numbered on from 0, MEMBER opens the first and no other, and a barrier's number is below
-- that of the segment it opens.
use Prim.Native.Nat.{ℕ, suc, ◌+◌, ◌≤◌, ◌<◌}
use mathlib.Core.Path.{◌≡◌, refl, ap, subst}
use mathlib.Core.Logic.{◌⊎◌, inl, inr, ⊎_elim}
use mathlib.Core.Bool.{true, ◌&&◌}
use mathlib.Core.List.Memᴰ
use mathlib.Core.List.{List, [], ◌∷◌, ◌++◌, map, Memᴰ}
use native.Mathlib.Omega.{arith}
use lib.Dec.{ltb}
use lib.ListN.{length, length-append}
use borrow.Author.Tests.{ltb-true}
use Rattle.bundle.specs.Lists.{concat_map}
use Rattle.bundle.specs.Commands.{form_of, code_of, widths_of, fit_widths, operands_ok, in_range}
use Rattle.bundle.specs.Chunks.{Placed, Chunk, fresh, after_command, chunks_of}
use Rattle.bundle.specs.Walk.{Border, of_chunk, of_barrier, of_region, borders, opens_segment, adds_access, Entry, entries_from, entries_of, Node, Segment, Opening, opening_at, segments_from, segments_in, segments_of}
use Rattle.bundle.specs.Check.{Accepted}
use Rattle.bundle.specs.Scan.{start}
use Rattle.bundle.specs.declared.chunk.ChunkState.{ChunkState}
use Rattle.bundle.specs.declared.command.Command.{Command}
use Rattle.bundle.specs.declared.command.Command.TheVariants as Com
use Rattle.bundle.proofs.Tests.{false-is-true, and_left, and_right}
use Rattle.bundle.proofs.ListLaws.{concat_map-elim, concat_map-intro, Distinct, distinct_nil, distinct_cons, distinct-concat_map}
use Rattle.bundle.proofs.Delimiters.{Opens, opens_member, opens_region, opens_barrier, opens_none, openings, on-no-opening, state-counts}
use Rattle.bundle.proofs.Places.{member_key}
use Rattle.bundle.proofs.Gathering.{plain, closes, Body, ends, goes, Formed, log_of}
use Rattle.bundle.proofs.Reorder.{orderly-range, distinct-members}
use Rattle.bundle.proofs.Onward.{legible}

-- what opens the segment of a number
pub data Begins : ℕ → Border → Type 0 where
  with_chunk : {n : ℕ} → n ≡ 0 → Begins n of_chunk
  at-barrier : {n i : ℕ} → i < n → Begins n (of_barrier i)
  after_region : {n t : ℕ} → 0 < n → Begins n (of_region t)

-- what opens the segments from a number on
pub data Openings : ℕ → List Opening → Type 0 where
  opens_no_more : {n : ℕ} → Openings n []
  opens_next : {n : ℕ} {o : Opening} {os : List Opening} → Begins n o.border → Openings (n + 1) os → Openings n (o ∷ os)

module _ (p : Placed) (k : ChunkState) (g n : ℕ) where
  abbrev entry_of : Command → Entry
  entry_of c = record { at = p.at; command = c; state = k; segment = g; accesses = n }

  -- a command and those behind it
  opening-first :
      (c : Command)
      → Opens c
      → (plain c ≡ true) ⊎ (closes c ≡ true)
      → k.barriers + k.regions ≤ g
      → (os : List Opening)
      → Openings (g + opens_segment c + 1) os
      → Openings (g + 1) (opening_at (entry_of c) ++ os)
  unfolding opening_at borders opens_segment plain closes
  opening-first c (opens_member t m) d h os r = ⊎_elim false-is-true false-is-true d
  opening-first c (opens_region t z) d h os r = opens_next (after_region {n = g + 1} (omega arith)) r
  opening-first c opens_barrier d h os r = opens_next (at-barrier {n = g + 1} {i = k.barriers} (omega arith)) r
  opening-first c (opens_none e) d h os r =
      let none : opening_at (entry_of c) ≡ [] =
      ap (map (λ (b : Border). record { border = b; state = after_command k c })) (on-no-opening [] (of_chunk ∷ []) (λ t. of_region t ∷ []) (of_barrier k.barriers ∷ []) c e)
      in
      let still : g + opens_segment c + 1 ≡ g + 1 = let z = on-no-opening {A = ℕ} 0 1 (λ t. 1) 1 c e in omega arith in
      rw none (subst (λ (i : ℕ). Openings i os) still r)

body-opens :
    (k : ChunkState) (g n : ℕ) {ps : List Placed}
    → Body ps
    → k.barriers + k.regions ≤ g
    → Openings (g + 1) (concat_map opening_at (entries_from k g n ps))
unfolding entries_from
body-opens k g n (ends {p = p} e) h = opening-first p k g n p.command (openings p.command) (inr e) h [] opens_no_more
body-opens k g n (goes {p = p} {ps = ps} e b) h =
    let c = p.command in
    let s = state-counts k c in
    opening-first p k g n c (openings c) (inl e) h
    (concat_map opening_at (entries_from (after_command k c) (g + opens_segment c) (n + adds_access c) ps))
    (body-opens (after_command k c) (g + opens_segment c) (n + adds_access c) b (omega arith))

-- one of a chunk's segments from a number on, of which there are so many
pub record Numbered (t m n count : ℕ) (s : Segment) : Type 0 where
  pub team : s.node.team ≡ t
  pub member : s.node.member ≡ m
  pub from : n ≤ s.node.number
  pub below : s.node.number < n + count

-- what opens and ends a segment
pub record Bordered (s : Segment) : Type 0 where
  pub opened : Begins s.node.number s.opened
  pub ended : (i : ℕ) → s.ended ≡ of_barrier i → i ≤ s.node.number

no-barrier : (n i : ℕ) → of_chunk ≡ of_barrier i → i ≤ n
no-barrier n i e = absurd (let z : ◌≡◌ {A = ℕ} 0 1 = cc in omega arith)

next-barrier : {n : ℕ} {b : Border} → Begins (n + 1) b → (i : ℕ) → b ≡ of_barrier i → i ≤ n
next-barrier {n} (with_chunk q) i e = no-barrier n i e
next-barrier {n} (at-barrier {i = j} h) i e = let q : j ≡ i = cc in omega arith
next-barrier (after_region h) i e = absurd (let z : ◌≡◌ {A = ℕ} 0 1 = cc in omega arith)

abbrev pub node_of : Segment → Node
node_of s = s.node

module _ (t m : ℕ) where
  -- the segment of a number that is opened and ended by borders
  abbrev segment_of : ℕ → Opening → Border → Segment
  segment_of n o b = record { node = record { team = t; member = m; number = n }; opened = o.border; state = o.state; ended = b }

  numbered-first : (n count : ℕ) (o : Opening) (b : Border) {s : Segment} → s ≡ segment_of n o b → Numbered t m n (suc count) s
  numbered-first n count o b e = rw e record { team = refl; member = refl; from = omega arith; below = omega arith }

  pub segment-numbered :
      (n : ℕ) (o : Opening) (os : List Opening) {s : Segment} → Memᴰ s (segments_from t m n o os) → Numbered t m n (suc (length os)) s
  unfolding segments_from
  segment-numbered n o [] l =
      ⊎_elim (numbered-first n 0 o of_chunk) (λ k. absurd (Memᴰ.not-nil k)) (Memᴰ.cases_cons l)
  segment-numbered n o (p ∷ ps) l =
      ⊎_elim
      (numbered-first n (length (p ∷ ps)) o p.border)
      (λ k.
      let r = segment-numbered (n + 1) p ps k in
      record { team = r.team; member = r.member; from = omega (arith, r.from); below = omega (arith, r.below) })
      (Memᴰ.cases_cons l)

  pub segments-length : (n : ℕ) (o : Opening) (os : List Opening) → length (segments_from t m n o os) ≡ suc (length os)
  unfolding segments_from
  segments-length n o [] = refl
  segments-length n o (p ∷ ps) = ap suc (segments-length (n + 1) p ps)

  segments-apart : (n : ℕ) (o : Opening) (os : List Opening) → Distinct (map node_of (segments_from t m n o os))
  unfolding segments_from
  segments-apart n o [] = distinct_cons Memᴰ.not-nil distinct_nil
  segments-apart n o (p ∷ ps) = distinct_cons later (segments-apart (n + 1) p ps)
    where
      later : Memᴰ (record { team = t; member = m; number = n }) (map node_of (segments_from t m (n + 1) p ps)) → ⊥
      later l =
          let s = Memᴰ.of_map node_of (segments_from t m (n + 1) p ps) l in
          let r = segment-numbered (n + 1) p ps s.1 in
          let same : s.0.node.number ≡ n = ap (λ (d : Node). d.number) s.2 in
          omega (arith, r.from)

  bordered-first :
      (n : ℕ) (o : Opening) (b : Border) {s : Segment}
      → Begins n o.border
      → ((i : ℕ) → b ≡ of_barrier i → i ≤ n)
      → s ≡ segment_of n o b
      → Bordered s
  bordered-first n o b h l e = rw e record { opened = h; ended = l }

  segment-bordered-at :
      (n : ℕ) (o : Opening) (os : List Opening) {s : Segment} {next : ℕ}
      → Begins n o.border
      → Openings next os
      → next ≡ n + 1
      → Memᴰ s (segments_from t m n o os)
      → Bordered s
  unfolding segments_from
  segment-bordered-at n o os b opens_no_more q l =
      ⊎_elim
      (bordered-first n o of_chunk b (no-barrier n))
      (λ k. absurd (Memᴰ.not-nil k))
      (Memᴰ.cases_cons l)
  segment-bordered-at n o os b (opens_next {o = p} {os = ps} c r) q l =
      let c' : Begins (n + 1) p.border = subst (λ (x : ℕ). Begins x p.border) q c in
      ⊎_elim
      (bordered-first n o p.border b (next-barrier c'))
      (λ k. segment-bordered-at (n + 1) p ps c' r (ap (λ (x : ℕ). x + 1) q) k)
      (Memᴰ.cases_cons l)

  pub segment-bordered :
      (n : ℕ) (o : Opening) (os : List Opening) {s : Segment}
      → Begins n o.border
      → Openings (n + 1) os
      → Memᴰ s (segments_from t m n o os)
      → Bordered s
  segment-bordered n o os b r l = segment-bordered-at n o os b r refl l

-- a chunk's segments
abbrev opens_as : Opening
opens_as = record { border = of_chunk; state = fresh }

pub chunk-numbered : (c : Chunk) {s : Segment} → Memᴰ s (segments_in c) → Numbered c.team c.member 0 (length (segments_in c)) s
unfolding segments_in
chunk-numbered c l =
    let os = concat_map opening_at (entries_of c) in
    rw (segments-length c.team c.member 0 opens_as os) (segment-numbered c.team c.member 0 opens_as os l)

pub chunk-bordered : (c : Chunk) {s : Segment} → Formed c → Memᴰ s (segments_in c) → Bordered s
unfolding segments_in entries_of fresh
chunk-bordered c f l =
    segment-bordered c.team c.member 0 opens_as (concat_map opening_at (entries_of c))
    (with_chunk refl)
    (body-opens fresh 0 0 f.body_ok (omega arith))
    l

-- no two segments are one node, if no two chunks are of one member
nodes-distinct : (cs : List Chunk) → Distinct (map member_key cs) → Distinct (map node_of (segments_of cs))
unfolding segments_of member_key
nodes-distinct cs d = distinct-concat_map member_key segments_in node_of each tells cs d
  where
    each : (c : Chunk) → Distinct (map node_of (segments_in c))
    each c = unfold segments_in in (segments-apart c.team c.member 0 opens_as (concat_map opening_at (entries_of c)))

    tells :
        (c d : Chunk) (u v : Segment)
        → Memᴰ u (segments_in c)
        → Memᴰ v (segments_in d)
        → node_of u ≡ node_of v
        → member_key c ≡ member_key d
    tells c d u v l k e = go (chunk-numbered c l) (chunk-numbered d k)
      where
        go :
            Numbered c.team c.member 0 (length (segments_in c)) u
            → Numbered d.team d.member 0 (length (segments_in d)) v
            → member_key c ≡ member_key d
        go p q = cc

part-shorter : {A B : Type 0} (f : A → List B) {x : A} {xs : List A} → Memᴰ x xs → length (f x) ≤ length (concat_map f xs)
part-shorter f {x} (Memᴰ.head {x = y} {xs = ys} q) = rw q (omega (arith, length-append (f y) (concat_map f ys)))
part-shorter f (Memᴰ.tail {x = y} {xs = ys} m) =
    let h = part-shorter f m in
    omega (arith, length-append (f y) (concat_map f ys))

-- the widths of the numbers of a segment, one of so many
pub record Limited (count : ℕ) (s : Segment) : Type 0 where
  pub team : s.node.team < 65536
  pub member : s.node.member < 64
  pub number : s.node.number < count

-- the operands of MEMBER
member-fits : (t m : ℕ) → in_range (Com.Member t m) ≡ true → (t < 65536) × (m < 64)
unfolding in_range fit_widths widths_of code_of form_of operands_ok
member-fits t m e =
    let team = ltb t 65536 in
    let member = ltb m 256 && true in (
      ltb-true t 65536 (and_left team member (and_left (team && member) (ltb m 64) e)),
      ltb-true m 64 (and_right (team && member) (ltb m 64) e),
    )

-- the segments of an accepted bundle
module _ (b : List ℕ) (a : Accepted b) where
  pub member-range : (c : Chunk) → Memᴰ c (chunks_of b) → (c.team < 65536) × (c.member < 64)
  unfolding log_of
  member-range c l =
      let k = legible b a in
      let m = Com.Member c.team c.member in
      let log = concat_map-intro log_of l (Memᴰ.head refl) in
      member-fits c.team c.member (orderly-range start (concat_map log_of (chunks_of b)) k.order m log)

  pub segment-limited : {s : Segment} → Memᴰ s (segments_of (chunks_of b)) → Limited (length (segments_of (chunks_of b))) s
  unfolding segments_of
  segment-limited l =
      let from = concat_map-elim segments_in (chunks_of b) l in
      let r = chunk-numbered from.source from.gives in
      let own = member-range from.source from.present in
      record {
        team = rw r.team own.0;
        member = rw r.member own.1;
        number = omega (arith, r.below, part-shorter segments_in from.present);
      }

  pub segment-borders : {s : Segment} → Memᴰ s (segments_of (chunks_of b)) → Bordered s
  unfolding segments_of
  segment-borders l =
      let from = concat_map-elim segments_in (chunks_of b) l in
      chunk-bordered from.source ((legible b a).formed from.source from.present) from.gives

  pub segments-distinct : Distinct (map node_of (segments_of (chunks_of b)))
  segments-distinct = nodes-distinct (chunks_of b) (distinct-members b a)
