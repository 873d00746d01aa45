-- The segments of a chunk by its rows: barriers and regions open them one after another, so that the regions joined before a segment are the
-- REGIONs in segments of lower numbers, and the barriers passed are the rest of its number.
use Prim.Native.Nat.{ℕ, zero, suc, ◌+◌, ◌-◌, ◌≤◌, ◌<◌}
use mathlib.Core.Path.{◌≡◌, refl, sym, ◌∙◌, ap, ap₂}
use mathlib.Core.Bool.{Bool, true, false, cond, ◌&&◌}
use mathlib.Core.List.Memᴰ
use mathlib.Core.List.{List, [], ◌∷◌, ◌++◌, map}
use mathlib.Core.Option.{Option, none, some}
use native.Mathlib.Omega.{arith}
use native.Mathlib.Numerals.{add-one}
use lib.ListN.{get_elem?}
use lib.Dec.{eqb, ltb}
use mir.Val.{bool_byte}
use borrow.Author.Tests.{eq-eqb, lt-ltb, le-ltb}
use Rattle.bundle.specs.Lists.{first, concat_map, from_option}
use Rattle.bundle.specs.Cases.{on_region}
use Rattle.bundle.specs.Chunks.{Placed, Chunk, fresh, after_barrier, after_join, after_acquire, after_release, after_command, after_commands, commands_of, chunks_of, is_of, chunk_of}
use Rattle.bundle.specs.Walk.{Border, of_chunk, of_barrier, of_region, borders, opens_segment, adds_access, Entry, entries_from, entries_of, barriers_of, fork_at, forks_in, forks_of, Segment, Opening, opening_at, segments_from, segments_in}
use Rattle.bundle.specs.Scan.{is_member}
use Rattle.bundle.specs.Check.{Accepted}
use Rattle.bundle.specs.Index.{table, is_row, total, log_of, chunk_row, rows_from, chunk_rows}
use Rattle.bundle.specs.declared.chunk.ChunkState.{ChunkState}
use Rattle.bundle.specs.declared.index.ChunkRow.{ChunkRow}
use Rattle.bundle.specs.declared.index.Fork.{Fork}
use Rattle.bundle.specs.declared.command.Command.{Command}
use Rattle.bundle.specs.declared.command.Command.TheVariants as Com
use Rattle.bundle.proofs.Tests.{false-is-true}
use Rattle.bundle.proofs.ListLaws.{first_some, Distinct, distinct_cons}
use Rattle.bundle.proofs.Tables.{table_none, table_more}
use Rattle.bundle.proofs.Delimiters.{on-plain, on-closes, on-other, Forking, forks_team, forks_none, forkings}
use Rattle.bundle.proofs.Scanning.{total-append}
use Rattle.bundle.proofs.Gathering.{Body, ends, goes, Formed}
use Rattle.bundle.proofs.Places.{member_key}
use Rattle.bundle.proofs.Shaped.{is_of-elim}
use Rattle.bundle.proofs.Onward.{legible}
use Rattle.order.specs.Climbing.{is_joined_before, joins_before, joined_before, opened_in, state_by_rows}

-- the state in which the segment of a number is opened, in a chunk and in a bundle; and a state without its locks
unfoldable pub state_in : Chunk → ℕ → Option ChunkState
state_in c number = from_option none (λ (g : Segment). some g.state) (get_elem? (segments_in c) number)

unfoldable pub state_of : List ℕ → ℕ → ℕ → ℕ → Option ChunkState
state_of s t m number = from_option none (λ (c : Chunk). state_in c number) (chunk_of (chunks_of s) t m)

abbrev pub unlocked : Option ChunkState → Option ChunkState
unlocked = from_option none (λ (k : ChunkState). some (record { barriers = k.barriers; regions = k.regions; locks = 0 }))

-- commands inside a chunk
data Inside : List Placed → Type 0 where
  no_more : Inside []
  one_more : {p : Placed} {ps : List Placed} → is_member p.command ≡ false → Inside ps → Inside (p ∷ ps)

body-inside : {ps : List Placed} → Body ps → Inside ps
unfolding is_member
body-inside (ends {p = p} e) = one_more (on-closes _ _ _ p.command e) no_more
body-inside (goes {p = p} e b) = one_more (on-plain _ _ _ p.command e) (body-inside b)

-- the state in the opening of a number
abbrev state_at : List Opening → ℕ → Option ChunkState
state_at os i = from_option none (λ (o : Opening). some o.state) (get_elem? os i)

segment-state :
    (t m n : ℕ) (o : Opening) (os : List Opening) (i : ℕ)
    → from_option none (λ (g : Segment). some g.state) (get_elem? (segments_from t m n o os) i) ≡ state_at (o ∷ os) i
unfolding segments_from
segment-state t m n o [] zero = refl
segment-state t m n o [] (suc i) = refl
segment-state t m n o (p ∷ ps) zero = refl
segment-state t m n o (p ∷ ps) (suc i) = segment-state t m (n + 1) p ps i

-- the state in which the segment of a number is opened, by the regions joined before it and the barriers that the chunk passes
abbrev Meets : ℕ → Option ChunkState → ℕ → ℕ → Type 0
Meets number none regions barriers = barriers + regions < number
Meets number (some k) regions barriers = (k.regions ≡ regions) × (k.barriers + regions ≡ number) × (k.barriers ≤ barriers)

meets-same :
    (number : ℕ) (o : Option ChunkState) (barriers : ℕ) {regions regions' : ℕ}
    → regions ≡ regions'
    → Meets number o regions barriers
    → Meets number o regions' barriers
meets-same number o barriers e h = rw e at h

-- the segment that is open, and those behind it
meets-first :
    (number : ℕ) (k : ChunkState) (b : Border) (os : List Opening) (regions barriers j : ℕ)
    → number ≡ k.barriers + k.regions + j
    → (number ≤ k.barriers + k.regions → (k.regions ≡ regions) × (k.barriers ≤ barriers))
    → ((i : ℕ) → number ≡ k.barriers + k.regions + suc i → Meets number (state_at os i) regions barriers)
    → Meets number (state_at (record { border = b; state = k } ∷ os) j) regions barriers
meets-first number k b os regions barriers zero e h l = let w = h (omega arith) in (w.0, omega (arith, w.0), w.1)
meets-first number k b os regions barriers (suc i) e h l = l i e

meets-opened : (number : ℕ) (o : Option ChunkState) (regions barriers : ℕ) → Meets number o regions barriers → opened_in barriers regions number ≡ unlocked o
unfolding opened_in
meets-opened number none regions barriers h = rw (lt-ltb barriers (number - regions) (omega arith))
meets-opened number (some k) regions barriers h =
    let passed : number - regions ≡ k.barriers = omega (arith, h.1) in
    rw (passed, le-ltb barriers k.barriers h.2, h.0)

meets-earlier : (number : ℕ) (o : Option ChunkState) (regions barriers : ℕ) → Meets number o regions barriers → regions ≤ number
meets-earlier number none regions barriers h = omega arith
meets-earlier number (some k) regions barriers h = omega (arith, h.1)

module _ (t m number : ℕ) where
  -- how many REGIONs stand before the segment
  abbrev joined : List Fork → ℕ
  joined fs = total (joins_before t m number) fs

  -- a command leaves barriers and regions as they are, or opens the next segment: for a REGION j is 1, else 0
  data Step (k k' : ChunkState) (os : List Opening) (fs : List Fork) : Type 0 where
    keeps : os ≡ [] → joined fs ≡ 0 → k'.barriers ≡ k.barriers → k'.regions ≡ k.regions → Step k k' os fs
    opens :
        (b : Border) (j : ℕ)
        → os ≡ record { border = b; state = k' } ∷ []
        → (k.barriers + k.regions < number → joined fs ≡ j)
        → (number ≤ k.barriers + k.regions → joined fs ≡ 0)
        → k'.regions ≡ k.regions + j
        → k'.barriers + j ≡ k.barriers + 1
        → j ≤ 1
        → Step k k' os fs

  module _ (f : Fork) (p : f.parent ≡ t) (q : f.member ≡ m) where
    joins-early : f.state.barriers + f.state.regions < number → joins_before t m number f ≡ 1
    unfolding joins_before
    joins-early h = rw (eq-eqb f.parent t p, eq-eqb f.member m q, lt-ltb (f.state.barriers + f.state.regions) number h)

    joins-late : number ≤ f.state.barriers + f.state.regions → joins_before t m number f ≡ 0
    unfolding joins_before
    joins-late h = rw (eq-eqb f.parent t p, eq-eqb f.member m q, le-ltb (f.state.barriers + f.state.regions) number h)

  steps :
      (k : ChunkState) (at g n : ℕ) (c : Command)
      → is_member c ≡ false
      → Step k (after_command k c)
      (opening_at (record { at = at; command = c; state = k; segment = g; accesses = n }))
      (fork_at t m (record { at = at; command = c; state = k; segment = g; accesses = n }))
  unfolding is_member opening_at borders fork_at after_command after_join after_barrier after_acquire after_release total
  steps k at g n (Com.Member u l) e = false-is-true (sym e)
  steps k at g n Com.End e = keeps refl refl refl refl
  steps k at g n (Com.Region u z) e =
      let f : Fork = record { place = at; team = u; size = z; parent = t; member = m; state = k } in
      opens (of_region u) 1 refl
      (λ h. ap (λ (x : ℕ). x + 0) (joins-early f refl refl h))
      (λ h. ap (λ (x : ℕ). x + 0) (joins-late f refl refl h))
      refl
      refl
      (omega arith)
  steps k at g n Com.Barrier e = opens (of_barrier k.barriers) 0 refl (λ h. refl) (λ h. refl) (omega arith) (omega arith) (omega arith)
  steps k at g n (Com.Acquire l) e = keeps refl refl refl refl
  steps k at g n (Com.Release l) e = keeps refl refl refl refl
  steps k at g n (Com.Access a) e = keeps refl refl refl refl
  steps k at g n Com.Cut e = keeps refl refl refl refl

  abbrev forks_from : ChunkState → ℕ → ℕ → List Placed → List Fork
  forks_from k g n ps = concat_map (fork_at t m) (entries_from k g n ps)

  abbrev ended : ChunkState → List Placed → ChunkState
  ended k ps = after_commands k (map (λ (p : Placed). p.command) ps)

  -- a segment that is open already: no region to come stands before it
  none-earlier :
      (k : ChunkState) (g n : ℕ) {ps : List Placed}
      → Inside ps
      → number ≤ k.barriers + k.regions
      → (joined (forks_from k g n ps) ≡ 0) × (k.barriers ≤ (ended k ps).barriers)
  unfolding entries_from after_commands total
  none-earlier k g n no_more h = (refl, omega arith)
  none-earlier k g n (one_more {p = p} {ps = ps} e i) h =
      go (steps k p.at g n c e) (none-earlier k' (g + opens_segment c) (n + adds_access c) i)
    where
      c : Command
      c = p.command

      k' : ChunkState
      k' = after_command k c

      here : List Fork
      here = fork_at t m (record { at = p.at; command = c; state = k; segment = g; accesses = n })

      later : List Fork
      later = forks_from k' (g + opens_segment c) (n + adds_access c) ps

      go :
          Step k k' (opening_at (record { at = p.at; command = c; state = k; segment = g; accesses = n })) here
          → (number ≤ k'.barriers + k'.regions → (joined later ≡ 0) × (k'.barriers ≤ (ended k' ps).barriers))
          → (joined (here ++ later) ≡ 0) × (k.barriers ≤ (ended k' ps).barriers)
      go (keeps x y q r) ih =
          let w = ih (omega arith) in
          (omega (arith, total-append (joins_before t m number) here later, w.0), omega (arith, w.1))
      go (opens b j x y z r q l) ih =
          let w = ih (omega arith) in
          (omega (arith, total-append (joins_before t m number) here later, w.0, z h), omega (arith, w.1))

  meets-from :
      (k : ChunkState) (b : Border) (g n : ℕ) {ps : List Placed}
      → Inside ps
      → (j : ℕ)
      → number ≡ k.barriers + k.regions + j
      → Meets number
      (state_at (record { border = b; state = k } ∷ concat_map opening_at (entries_from k g n ps)) j)
      (k.regions + joined (forks_from k g n ps))
      (ended k ps).barriers
  unfolding entries_from after_commands total
  meets-from k b g n no_more j e =
      meets-first number k b [] (k.regions + 0) k.barriers j e (λ h. (omega arith, omega arith)) (λ i q. omega arith)
  meets-from k b g n (one_more {p = p} {ps = ps} x l) j e =
      meets-first number k b (opening_at entry ++ os) (k.regions + joined (fork_at t m entry ++ later)) (ended k' ps).barriers j e
      (λ h. let w = none-earlier k g n (one_more {p = p} {ps = ps} x l) h in (omega (arith, w.0), w.1))
      (λ i q. go i q (steps k p.at g n c x) (λ b' i' r. meets-from k' b' (g + opens_segment c) (n + adds_access c) l i' r))
    where
      c : Command
      c = p.command

      k' : ChunkState
      k' = after_command k c

      entry : Entry
      entry = record { at = p.at; command = c; state = k; segment = g; accesses = n }

      later : List Fork
      later = forks_from k' (g + opens_segment c) (n + adds_access c) ps

      os : List Opening
      os = concat_map opening_at (entries_from k' (g + opens_segment c) (n + adds_access c) ps)

      all : joined (fork_at t m entry ++ later) ≡ joined (fork_at t m entry) + joined later
      all = total-append (joins_before t m number) (fork_at t m entry) later

      go :
          (i : ℕ)
          → number ≡ k.barriers + k.regions + suc i
          → Step k k' (opening_at entry) (fork_at t m entry)
          → ((b' : Border) (i' : ℕ) → number ≡ k'.barriers + k'.regions + i' → Meets number (state_at (record { border = b'; state = k' } ∷ os) i') (k'.regions + joined later) (ended k' ps).barriers)
          → Meets number (state_at (opening_at entry ++ os) i) (k.regions + joined (fork_at t m entry ++ later)) (ended k' ps).barriers
      go i v (keeps x y q r) ih =
          rw x (meets-same number (state_at os i) (ended k' ps).barriers (omega (arith, all)) (ih b (suc i) (omega arith)))
      go i v (opens b' d x y z r q l) ih =
          rw x
          (meets-same number
          (state_at (record { border = b'; state = k' } ∷ os) i)
          (ended k' ps).barriers
          (omega (arith, all, y (omega arith)))
          (ih b' i (omega arith)))

-- a chunk of an accepted bundle
meets-chunk :
    (number : ℕ) (c : Chunk) → Formed c → Meets number (state_in c number) (joined_before (forks_in c) c.team c.member number) (barriers_of c)
unfolding state_in joined_before segments_in entries_of forks_in barriers_of commands_of fresh
meets-chunk number c f =
    rw (segment-state c.team c.member 0 (record { border = of_chunk; state = fresh }) (concat_map opening_at (entries_of c)) number)
    (meets-same number (state_at (record { border = of_chunk; state = fresh } ∷ concat_map opening_at (entries_of c)) number) (barriers_of c)
    (omega arith)
    (meets-from c.team c.member number fresh of_chunk 0 0 (body-inside f.body_ok) number (omega arith)))

-- those of a member among the REGIONs of all chunks are those of its chunk
module _ (t m number : ℕ) where
  others-none : (u l : ℕ) → (eqb u t && eqb l m) ≡ false → (es : List Entry) → joined t m number (concat_map (fork_at u l) es) ≡ 0
  unfolding total
  others-none u l h [] = refl
  others-none u l h (e ∷ es) =
      let rest = others-none u l h es in
      let one : joined t m number (fork_at u l e) ≡ 0 = unfold fork_at in (go e.command (forkings e.command)) in
      omega (arith, total-append (joins_before t m number) (fork_at u l e) (concat_map (fork_at u l) es))
    where
      made : ℕ → ℕ → List Fork
      made v z = record { place = e.at; team = v; size = z; parent = u; member = l; state = e.state } ∷ []

      go : (c : Command) → Forking c → joined t m number (on_region [] made c) ≡ 0
      go c (forks_team v z) = unfold joins_before in (rw h)
      go c (forks_none x) = rw (on-other [] made c x)

  abbrev joined_in : Option Chunk → ℕ
  joined_in = from_option 0 (λ (c : Chunk). joined_before (forks_in c) t m number)

  joined-forks : (cs : List Chunk) → Distinct (map member_key cs) → joined_before (forks_of cs) t m number ≡ joined_in (chunk_of cs t m)
  unfolding forks_of chunk_of joined_before total
  joined-forks [] d = refl
  joined-forks (c ∷ cs) (distinct_cons h d) = go (is_of t m c) refl (joined-forks cs d)
    where
      all : joined t m number (forks_in c ++ forks_of cs) ≡ joined t m number (forks_in c) + joined t m number (forks_of cs)
      all = total-append (joins_before t m number) (forks_in c) (forks_of cs)

      no_second : is_of t m c ≡ true → (o : Option Chunk) → first (is_of t m) cs ≡ o → joined_in o ≡ 0
      no_second e none q = refl
      no_second e (some x) q =
          let w = first_some (is_of t m) cs q in
          let mine = is_of-elim t m c e in
          let its = is_of-elim t m x w.1 in
          let same : member_key c ≡ member_key x = unfold member_key in (rw (mine.0, mine.1, its.0, its.1)) in
          absurd (h (Memᴰ.cast same (Memᴰ.map member_key w.0)))

      go :
          (b : Bool)
          → is_of t m c ≡ b
          → joined t m number (forks_of cs) ≡ joined_in (first (is_of t m) cs)
          → joined t m number (forks_in c ++ forks_of cs) ≡ joined_in (cond b (some c) (first (is_of t m) cs))
      go true e ih = let None-more = no_second e (first (is_of t m) cs) refl in omega (arith, all)
      go false e ih =
          let others : joined t m number (forks_in c) ≡ 0 = unfold forks_in is_of in (others-none c.team c.member e (entries_of c)) in
          omega (arith, all)

-- the barriers of a member's chunk, by its row
rows-first :
    (t m g n : ℕ) (h : ℕ → Option ChunkState) (cs : List Chunk)
    → from_option none (λ (r : ChunkRow). h r.barriers) (first (is_row t m) (rows_from g n cs))
    ≡ from_option none (λ (c : Chunk). h (barriers_of c)) (first (is_of t m) cs)
unfolding rows_from chunk_row is_row is_of
rows-first t m g n h [] = refl
rows-first t m g n h (c ∷ cs) = go (is_of t m c) (rows-first t m (g + total opens_segment (log_of c)) (n + total adds_access (log_of c)) h cs)
  where
    rows : List ChunkRow
    rows = rows_from (g + total opens_segment (log_of c)) (n + total adds_access (log_of c)) cs

    by_row : Option ChunkRow → Option ChunkState
    by_row = from_option none (λ (r : ChunkRow). h r.barriers)

    by_chunk : Option Chunk → Option ChunkState
    by_chunk = from_option none (λ (x : Chunk). h (barriers_of x))

    go :
        (b : Bool)
        → by_row (first (is_row t m) rows) ≡ by_chunk (first (is_of t m) cs)
        → by_row (cond b (some (chunk_row g n c)) (first (is_row t m) rows)) ≡ by_chunk (cond b (some c) (first (is_of t m) cs))
    go true ih = refl
    go false ih = ih

-- an accepted bundle
module _ (s : List ℕ) (a : Accepted s) (t m number : ℕ) where
  counted : joined_before (forks_of (chunks_of s)) t m number ≡ joined_in t m number (chunk_of (chunks_of s) t m)
  counted = joined-forks t m number (chunks_of s) (legible s a).shaped.members_once

  member-meets : {c : Chunk} → chunk_of (chunks_of s) t m ≡ some c → Meets number (state_in c number) (joined_before (forks_in c) t m number) (barriers_of c)
  unfolding chunk_of
  member-meets {c} e =
      let w = first_some (is_of t m) (chunks_of s) e in
      let own = is_of-elim t m c w.1 in
      meets-same number (state_in c number) (barriers_of c)
      (ap₂ (λ (u l : ℕ). joined_before (forks_in c) u l number) own.0 own.1)
      (meets-chunk number c ((legible s a).formed c w.0))

  pub joined-earlier : joined_before (forks_of (chunks_of s)) t m number ≤ number
  joined-earlier = rw counted (go (chunk_of (chunks_of s) t m) refl)
    where
      go : (o : Option Chunk) → chunk_of (chunks_of s) t m ≡ o → joined_in t m number o ≤ number
      go none e = omega arith
      go (some c) e = meets-earlier number (state_in c number) (joined_before (forks_in c) t m number) (barriers_of c) (member-meets e)

  pub state-by-rows : state_by_rows (chunk_rows (chunks_of s)) (forks_of (chunks_of s)) t m number ≡ unlocked (state_of s t m number)
  unfolding state_by_rows chunk_rows state_of
  state-by-rows =
      rw counted
      (rows-first t m 0 0 (λ b. opened_in b (joined_in t m number (chunk_of (chunks_of s) t m)) number) (chunks_of s)
      ∙ unfold chunk_of in (go (chunk_of (chunks_of s) t m) refl))
    where
      go :
          (o : Option Chunk)
          → chunk_of (chunks_of s) t m ≡ o
          → from_option none (λ (c : Chunk). opened_in (barriers_of c) (joined_in t m number o) number) o ≡ unlocked (from_option none (λ (c : Chunk). state_in c number) o)
      go none e = refl
      go (some c) e = meets-opened number (state_in c number) (joined_before (forks_in c) t m number) (barriers_of c) (member-meets e)

-- counting along the rows
module _ (t m number : ℕ) where
  joins-one : (f : Fork) → joins_before t m number f ≤ 1
  unfolding joins_before
  joins-one f = go ((eqb f.parent t && eqb f.member m) && ltb (f.state.barriers + f.state.regions) number)
    where
      go : (b : Bool) → cond b 1 0 ≤ 1
      go true = omega arith
      go false = omega arith

  module _ (row : ℕ → Fork) where
    pub joined-none : 0 ≡ joined_before (table row 0) t m number
    unfolding joined_before total
    joined-none = rw (table_none row)

    one-more-row : (i : ℕ) → joined_before (table row (suc i)) t m number ≡ joined_before (table row i) t m number + joins_before t m number (row i)
    unfolding joined_before total
    one-more-row i = rw (table_more row i) (total-append (joins_before t m number) (table row i) (row i ∷ []) ∙ omega arith)

    pub joined-few : (i : ℕ) → joined_before (table row i) t m number ≤ i
    joined-few zero = omega (arith, joined-none)
    joined-few (suc i) = let before = joined-few i in omega (arith, one-more-row i, joins-one (row i))

    -- a turn
    module _ (i : ℕ) {joined : ℕ} (e : joined ≡ joined_before (table row i) t m number)
        {joins : Bool} (q : joins ≡ is_joined_before t m number (row i)) {r : ℕ} (w : r ≡ bool_byte joins) where
      one-join : r ≡ joins_before t m number (row i)
      unfolding joins_before
      one-join = w ∙ rw q (byte (is_joined_before t m number (row i)))
        where
          byte : (b : Bool) → bool_byte b ≡ cond b 1 0
          byte true = refl
          byte false = refl

      pub joined-more : joined + r ≡ joined_before (table row (i + 1)) t m number
      joined-more = rw (e, one-join, add-one i) (sym (one-more-row i))

      pub joined-fits : joined + r ≤ i + 1
      joined-fits = omega (arith, one-join, joined-few i, joins-one (row i))
