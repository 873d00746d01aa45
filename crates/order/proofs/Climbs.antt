-- Climbing: each fork's label is one triple longer than that of its team's chunk, and no label of an accepted bundle passes 5 triples.
use Prim.Native.Nat.{ℕ, zero, suc, ◌+◌, ◌-◌, ◌*◌, ◌/◌, ◌%◌, ◌≤◌, ◌<◌}
use mathlib.Core.Path.{◌≡◌, refl, sym, ◌∙◌, ap, ap₂}
use mathlib.Core.List.{List, [], ◌∷◌, ◌++◌, Memᴰ}
use mathlib.Core.Option.{Option, none, some}
use native.Mathlib.Omega.{arith}
use native.Mathlib.Nat.{mul-le-mul, mod-lt}
use native.Mathlib.Numerals.{add-one}
use lib.ListN.{length, replicate, set, get_elem?, get_or, length-append}
use lib.Seq.{take-append_seam}
use lib.Dec.{eqb}
use borrow.Author.Tests.{eqb-true, ne_eqb, ltb-false, lt-ltb, le-ltb}
use Rattle.bundle.specs.Answer.{Answer, gives, refuses, number_of}
use Rattle.bundle.specs.Lists.{from_option}
use Rattle.bundle.specs.Chunks.{Chunk, chunks_of, chunk_of}
use Rattle.bundle.specs.Walk.{Segment, segments_in, forks_of}
use Rattle.bundle.specs.Check.{fork_of, size_of, depth_from, depth_of, check_of, Accepted}
use Rattle.bundle.specs.Index.{is_row, chunk_row_at, fork_row_of, fork_row_at, table, index_of, below, Indexed}
use Rattle.bundle.specs.declared.chunk.ChunkState.{ChunkState}
use Rattle.bundle.specs.declared.index.ChunkRow.{ChunkRow}
use Rattle.bundle.specs.declared.index.Fork.{Fork}
use Rattle.bundle.proofs.ListLaws.{first_some}
use Rattle.bundle.proofs.Tables.{first-at, first_past, below-some, below-none}
use Rattle.bundle.proofs.Onward.{legible, team-falls}
use Rattle.order.specs.Labels.{last_triple, fork_label, segment_label, label_of, counted, blank, holding, label_held, Labelled}
use Rattle.order.specs.Climbing.{joined_before, opened_in, state_by_rows, Climbable, Joinable, triple_of, extended, chunk_label_of, label_in, label_by_rows}
use Rattle.bundle.specs.declared.refusal.Refusal.{Refusal}
use Rattle.order.specs.declared.label.Triple.{Triple}
use Rattle.order.specs.declared.label.Label.{Label}
use Rattle.order.specs.declared.climb.ChunkLabel.{ChunkLabel}
use Rattle.std.specs.declared.option.Option.TheVariants.{Some, None}
use Rattle.std.specs.declared.result.Result.TheVariants.{Ok, Err}
use Rattle.order.proofs.SegmentRows.{unlocked, state_in, state_of, joined-few, joined-earlier, state-by-rows}

pub span_fits : (size regions : ℕ) → size < 256 → regions ≤ 65536 → size * regions ≤ 16711680
span_fits size regions h l = let most : size ≤ 255 = omega arith in mul-le-mul most l

-- a label with one triple more
set-behind : {A : Type 0} (xs : List A) (y x : A) (ys : List A) → set (xs ++ (y ∷ ys)) (length xs) x ≡ (xs ++ (x ∷ [])) ++ ys
set-behind [] y x ys = refl
set-behind {A = A} (z ∷ xs) y x ys = ap (λ (l : List A). z ∷ l) (set-behind xs y x ys)

pub extends : (ts : List Triple) (x : Triple) → length ts ≤ 4 → extended (holding ts) x ≡ holding (ts ++ (x ∷ []))
unfolding extended holding
extends ts x h =
    let n = length ts in
    let more : length (ts ++ (x ∷ [])) ≡ n + 1 = length-append ts (x ∷ []) in
    let left : 5 - n ≡ suc (5 - (n + 1)) = omega arith in
    rw (more, left, set-behind ts blank x (replicate (5 - (n + 1)) blank))

pub fork-known : (fs : List Fork) (t : ℕ) {f : Fork} → fork_of fs t ≡ some f → Memᴰ f fs × (f.team ≡ t)
unfolding fork_of
fork-known fs t {f} e = let w = first_some (λ (g : Fork). eqb g.team t) fs e in (w.0, eqb-true f.team t w.1)

-- forks whose team numbers fall towards the root
module _ (fs : List Fork) (falls : (f : Fork) → Memᴰ f fs → f.parent < f.team) where
  pub fork-team : {t : ℕ} {f : Fork} → fork_of fs t ≡ some f → f.parent < t
  fork-team {t} {f} e =
      let w = fork-known fs t e in
      let below = falls f w.0 in
      omega arith

  pub root-unforked : fork_of fs 0 ≡ none
  root-unforked = go (fork_of fs 0) refl
    where
      go : (o : Option Fork) → fork_of fs 0 ≡ o → o ≡ none
      go none e = refl
      go (some f) e = let below = fork-team e in absurd (omega arith)

  pub same-label : (n m t : ℕ) → t < n → t < m → fork_label n fs t ≡ fork_label m fs t
  unfolding fork_label
  same-label zero m t h l = absurd (omega arith)
  same-label (suc n) zero t h l = absurd (omega arith)
  same-label (suc n) (suc m) t h l = go (fork_of fs t) refl (λ u b. same-label n m u (omega arith) (omega arith))
    where
      step : ℕ → Option Fork → List Triple
      step fuel = from_option [] (λ (f : Fork). fork_label fuel fs f.parent ++ (last_triple fs f.parent f.member f.state ∷ []))

      go : (o : Option Fork) → fork_of fs t ≡ o → ((u : ℕ) → u < t → fork_label n fs u ≡ fork_label m fs u) → step n o ≡ step m o
      go none e ih = refl
      go (some f) e ih = rw (ih f.parent (fork-team e))

  -- the label of the segment that forks a team
  pub climbs : (t : ℕ) {f : Fork} → fork_of fs t ≡ some f → fork_label (suc t) fs t ≡ segment_label fs f.parent f.member f.state
  unfolding fork_label segment_label
  climbs t {f} e =
      let below = fork-team e in
      rw (e, same-label t (suc f.parent) f.parent below (omega arith))

label-depth : (n : ℕ) (fs : List Fork) (t : ℕ) → length (fork_label n fs t) ≡ depth_from n fs t
unfolding fork_label depth_from
label-depth zero fs t = refl
label-depth (suc n) fs t = go (fork_of fs t) (label-depth n fs)
  where
    go :
        (o : Option Fork)
        → ((u : ℕ) → length (fork_label n fs u) ≡ depth_from n fs u)
        → length (from_option [] (λ (f : Fork). fork_label n fs f.parent ++ (last_triple fs f.parent f.member f.state ∷ [])) o)
        ≡ from_option 0 (λ (f : Fork). suc (depth_from n fs f.parent)) o
    go none ih = refl
    go (some f) ih =
        length-append (fork_label n fs f.parent) (last_triple fs f.parent f.member f.state ∷ [])
        ∙ add-one (length (fork_label n fs f.parent))
        ∙ ap suc (ih f.parent)

-- the REGIONs of an accepted bundle
climbable : (s : List ℕ) → Accepted s → Climbable (forks_of (chunks_of s))
climbable s a =
    record {
      falls = team-falls s a;
      shallow = λ f m. ltb-false 4 (depth_of (forks_of (chunks_of s)) f.team) ((legible s a).shaped.shallow f m);
    }

module _ (fs : List Fork) (k : Climbable fs) where
  few-triples : (t : ℕ) → length (fork_label (suc t) fs t) ≤ 4
  few-triples t = go (fork_of fs t) refl
    where
      go : (o : Option Fork) → fork_of fs t ≡ o → length (fork_label (suc t) fs t) ≤ 4
      go none e = unfold fork_label in rw e (omega arith)
      go (some f) e =
          let w = fork-known fs t e in
          let deep = k.shallow f w.0 in
          rw label-depth (unfold depth_of in (rw w.1 at deep))

  -- the chunk of the root, of a team that is never forked, and of one that is
  pub root-chunk : (team : ℕ) (l : Label) → team ≡ 0 → l ≡ holding [] → record { label = l; size = 1 } ≡ chunk_label_of fs team
  unfolding chunk_label_of fork_label size_of
  root-chunk team l h e = rw (h, e, root-unforked fs k.falls)

  pub unforked-chunk :
      (team : ℕ) (l : Label)
      → (team ≡ 0 → ⊥)
      → l ≡ holding []
      → fork_of fs team ≡ none
      → record { label = l; size = 0 } ≡ chunk_label_of fs team
  unfolding chunk_label_of fork_label size_of
  unforked-chunk team l h e q = rw (e, ne_eqb team 0 h, q)

  pub forked-chunk :
      (team : ℕ) (f : Fork) (l : Label)
      → (team ≡ 0 → ⊥)
      → fork_of fs team ≡ some f
      → l ≡ holding (segment_label fs f.parent f.member f.state)
      → record { label = l; size = f.size } ≡ chunk_label_of fs team
  unfolding chunk_label_of size_of
  forked-chunk team f l h q e = rw (e, ne_eqb team 0 h, q, climbs fs k.falls team q)

  -- the label of a segment, from that of its chunk
  pub label-from :
      (t m : ℕ) (state : ChunkState) (c : ChunkLabel)
      → c ≡ chunk_label_of fs t
      → extended c.label (triple_of m state c.size) ≡ holding (segment_label fs t m state)
  unfolding chunk_label_of segment_label last_triple triple_of
  label-from t m state c e = rw e (extends (fork_label (suc t) fs t) (last_triple fs t m state) (few-triples t))

  pub room-left : (t : ℕ) (c : ChunkLabel) → c ≡ chunk_label_of fs t → c.label.count < 5
  unfolding chunk_label_of holding
  room-left t c e = let few = few-triples t in rw e (omega (arith, few))

-- a REGION by the index of its row
module _ (row : ℕ → Fork) (n t i : ℕ) (e : i ≡ index_of (λ (f : Fork). eqb f.team t) (table row n)) where
  pub fork-none : n ≤ i → fork_of (table row n) t ≡ none
  unfolding fork_of
  fork-none h = first_past (λ (f : Fork). eqb f.team t) row n i e h

  pub fork-some : i < n → {f : Fork} → f ≡ row i → fork_of (table row n) t ≡ some f
  unfolding fork_of
  fork-some h q = first-at (λ (f : Fork). eqb f.team t) row n i e h ∙ ap some (sym q)

-- and by what the search for it finds
module _ (row : ℕ → Fork) (n t : ℕ) where
  pub fork-unfound : None ≡ below n (index_of (λ (f : Fork). eqb f.team t) (table row n)) → fork_of (table row n) t ≡ none
  fork-unfound e = fork-none row n t _ refl (below-none e)

  pub fork-found :
      {i : ℕ} → Some i ≡ below n (index_of (λ (f : Fork). eqb f.team t) (table row n)) → {f : Fork} → f ≡ row i → fork_of (table row n) t ≡ some f
  fork-found e q = let w = below-some e in fork-some row n t _ w.0 (omega (arith, w.0, w.1)) q

pub row-few : (words : List ℕ) (i : ℕ) {f : Fork} → f ≡ fork_row_at words i → (f.state.barriers ≤ 65536) × (f.state.regions ≤ 65536)
unfolding fork_row_at fork_row_of
row-few words i e =
    let w = get_or words (3 * i + 1) 0 in
    let b : w % 65536 < 65536 = mod-lt w (omega arith) in
    let r : w / 65536 % 65536 < 65536 = mod-lt (w / 65536) (omega arith) in
    rw e (omega arith, omega arith)

pub holding-counted : (ts : List Triple) → counted (holding ts) ≡ ts
unfolding counted holding
holding-counted ts = take-append_seam ts (replicate (5 - length ts) blank)

-- what the code answers
pub labelled :
    (fs : List Fork) (t m : ℕ) (k : ChunkState) (l : Label)
    → l ≡ holding (segment_label fs t m k)
    → Labelled (Ok l) (label_in fs t m (some k))
labelled fs t m k l e = rw e (record { answer = ap gives (holding-counted (segment_label fs t m k)); label = refl })

pub unlabelled : (r : Refusal) {a : Answer (List Triple)} → refuses (number_of r.cause) r.place ≡ a → Labelled (Err r) a
unlabelled r e = record { answer = e; label = ap label_held e }

-- by what the search for the chunk's row finds
module _ (row : ℕ → ChunkRow) (fs : List Fork) (n t m number : ℕ) where
  pub chunk-missing : None ≡ below n (index_of (is_row t m) (table row n)) → refuses 14 0 ≡ label_by_rows (table row n) fs t m number
  unfolding state_by_rows
  chunk-missing e = rw (first_past (is_row t m) row n (index_of (is_row t m) (table row n)) refl (below-none e))

  module _ {i : ℕ} (e : Some i ≡ below n (index_of (is_row t m) (table row n))) {r : ChunkRow} (q : r ≡ row i)
      {joined : ℕ} (w : joined ≡ joined_before fs t m number) where
    in_row : opened_in r.barriers joined number ≡ state_by_rows (table row n) fs t m number
    unfolding state_by_rows
    in_row = let f = below-some e in rw (first-at (is_row t m) row n i f.0 (omega (arith, f.0, f.1)), q, w)

    pub segment-missing : r.barriers < number - joined → refuses 14 0 ≡ label_by_rows (table row n) fs t m number
    unfolding opened_in
    segment-missing l = rw (← in_row, lt-ltb r.barriers (number - joined) l)

    pub segment-there :
        number - joined ≤ r.barriers
        → label_in fs t m (some (record { barriers = number - joined; regions = joined; locks = 0 })) ≡ label_by_rows (table row n) fs t m number
    unfolding opened_in
    segment-there l = rw (← in_row, le-ltb r.barriers (number - joined) l)

labels : (s : List ℕ) (t m number : ℕ) → Accepted s → label_in (forks_of (chunks_of s)) t m (unlocked (state_of s t m number)) ≡ label_of s t m number
unfolding label_of state_of state_in segment_label last_triple
labels s t m number a = rw a (go (chunk_of (chunks_of s) t m))
  where
    fs : List Fork
    fs = forks_of (chunks_of s)

    in_segment : Segment → Option ChunkState
    in_segment g = some g.state

    in_chunk : Option Segment → Answer (List Triple)
    in_chunk o = from_option (refuses 14 0) (λ (g : Segment). gives (segment_label fs t m g.state)) o

    one : (o : Option Segment) → label_in fs t m (unlocked (from_option none in_segment o)) ≡ in_chunk o
    one none = refl
    one (some g) = refl

    go :
        (o : Option Chunk)
        → label_in fs t m (unlocked (from_option none (λ (c : Chunk). from_option none in_segment (get_elem? (segments_in c) number)) o))
        ≡ from_option (refuses 14 0) (λ (c : Chunk). in_chunk (get_elem? (segments_in c) number)) o
    go none = refl
    go (some c) = one (get_elem? (segments_in c) number)

module _ {s : List ℕ} {n m : ℕ} {chunks forks : List ℕ} (x : Indexed s n m chunks forks) where
  pub climbable-rows : Climbable (table (fork_row_at forks) m)
  climbable-rows = rw x.fork_rows (climbable s x.accepted)

  pub joinable-rows : (team member number : ℕ) → Joinable (table (fork_row_at forks) m) team member number
  joinable-rows team member number =
      record {
        few = omega (arith, joined-few team member number (fork_row_at forks) m, x.few);
        earlier = rw x.fork_rows (joined-earlier s x.accepted team member number);
      }

  pub found-label :
      (team member number : ℕ) → label_by_rows (table (chunk_row_at chunks) n) (table (fork_row_at forks) m) team member number ≡ label_of s team member number
  found-label team member number =
      ap₂ (λ (rs : List ChunkRow) (fs : List Fork). label_by_rows rs fs team member number) x.chunk-rows x.fork_rows
      ∙ ap (label_in (forks_of (chunks_of s)) team member) (state-by-rows s x.accepted team member number)
      ∙ labels s team member number x.accepted

pub check-refuses : (s : List ℕ) (t m number : ℕ) {n p : ℕ} → check_of s ≡ refuses n p → refuses n p ≡ label_of s t m number
unfolding label_of
check-refuses s t m number e = sym (rw e)
