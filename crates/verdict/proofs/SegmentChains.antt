-- The segments of a chunk one after another: each ends where the next is opened, at a barrier or at a REGION.
use Prim.Native.Nat.{ℕ, zero, suc, ◌+◌, ◌≤◌, ◌<◌}
use mathlib.Core.Path.{◌≡◌, refl, sym, ◌∙◌, ap, subst}
use mathlib.Core.Logic.{◌⊎◌, inl, inr, ⊎_elim}
use mathlib.Core.Bool.{true}
use mathlib.Core.List.Memᴰ
use mathlib.Core.List.{List, [], ◌∷◌, ◌++◌, Memᴰ}
use native.Mathlib.Omega.{arith}
use native.Mathlib.Decide.{ℕ_discrete}
use native.Mathlib.Numerals.{add-one}
use mathlib.Core.Option.{some}
use lib.ListN.{get_elem?}
use Rattle.bundle.specs.Lists.{concat_map}
use Rattle.bundle.specs.Chunks.{Placed, Chunk, fresh, after_barrier, after_join, after_acquire, after_release, after_command}
use Rattle.bundle.specs.Walk.{borders, opens_segment, adds_access, Entry, entries_from, entries_of, fork_at, forks_in, Opening, opening_at, segments_from, segments_in}
use Rattle.bundle.specs.declared.chunk.ChunkState.{ChunkState}
use Rattle.bundle.specs.declared.command.Command.{Command}
use Rattle.bundle.specs.declared.command.Command.TheVariants as Com
use Rattle.bundle.specs.declared.index.Fork.{Fork}
use Rattle.bundle.proofs.Tests.{false-is-true}
use Rattle.bundle.proofs.Gathering.{plain, closes, Body, ends, goes, Formed}
use Rattle.verdict.specs.Graph.{Border, of_chunk, of_barrier, of_region, Segment}
use Rattle.verdict.proofs.ForkJoin.{OneChunk, Onward, at_end, at-barrier, at_region, ForkedBy}

module _ (t m : ℕ) where
  -- openings and REGIONs from a state on
  data Chained : ℕ → ℕ → List Opening → List Fork → Type 0 where
    chain_end : {b r : ℕ} → Chained b r [] []
    chain_barrier :
        {b r : ℕ} {o : Opening} {os : List Opening} {fs : List Fork}
        → o.border ≡ of_barrier b
        → o.state.barriers ≡ suc b
        → o.state.regions ≡ r
        → Chained o.state.barriers o.state.regions os fs
        → Chained b r (o ∷ os) fs
    chain_region :
        {b r : ℕ} {o : Opening} {os : List Opening} {f : Fork} {fs : List Fork}
        → o.border ≡ of_region f.team
        → f.parent ≡ t
        → f.member ≡ m
        → f.state.barriers ≡ b
        → f.state.regions ≡ r
        → o.state.barriers ≡ b
        → o.state.regions ≡ suc r
        → Chained o.state.barriers o.state.regions os fs
        → Chained b r (o ∷ os) (f ∷ fs)

  module _ (p : Placed) (k : ChunkState) (g n : ℕ) where
    abbrev entry_of : Command → Entry
    entry_of c = record { at = p.at; command = c; state = k; segment = g; accesses = n }

    -- a command and those behind it
    chain_first :
        (c : Command)
        → (plain c ≡ true) ⊎ (closes c ≡ true)
        → (os : List Opening) (fs : List Fork)
        → Chained (after_command k c).barriers (after_command k c).regions os fs
        → Chained k.barriers k.regions (opening_at (entry_of c) ++ os) (fork_at t m (entry_of c) ++ fs)
    unfolding opening_at borders fork_at plain closes after_command after_barrier after_join after_acquire after_release
    chain_first (Com.Member u v) d os fs r = ⊎_elim false-is-true false-is-true d
    chain_first Com.End d os fs r = r
    chain_first (Com.Region u z) d os fs r = chain_region refl refl refl refl refl refl (add-one k.regions) r
    chain_first Com.Barrier d os fs r = chain_barrier refl (add-one k.barriers) refl r
    chain_first (Com.Acquire l) d os fs r = r
    chain_first (Com.Release l) d os fs r = r
    chain_first (Com.Access a) d os fs r = r
    chain_first Com.Cut d os fs r = r

  body-chained :
      (k : ChunkState) (g n : ℕ) {ps : List Placed}
      → Body ps
      → Chained k.barriers k.regions (concat_map opening_at (entries_from k g n ps)) (concat_map (fork_at t m) (entries_from k g n ps))
  unfolding entries_from
  body-chained k g n (ends {p = p} e) = chain_first p k g n p.command (inr e) [] [] chain_end
  body-chained k g n (goes {p = p} {ps = ps} e b) =
      chain_first p k g n p.command (inl e) _ _ (body-chained (after_command k p.command) (g + opens_segment p.command) (n + adds_access p.command) b)

-- the segments of a chunk from one on, and its REGIONs from there on
pub data Runs : Segment → List Segment → List Fork → Type 0 where
  run_end : {g : Segment} → g.ended ≡ of_chunk → Runs g [] []
  run_barrier :
      {g h : Segment} {rest : List Segment} {fs : List Fork}
      → OneChunk g h
      → h.node.number ≡ suc g.node.number
      → g.ended ≡ of_barrier g.state.barriers
      → h.opened ≡ of_barrier g.state.barriers
      → h.state.barriers ≡ suc g.state.barriers
      → h.state.regions ≡ g.state.regions
      → Runs h rest fs
      → Runs g (h ∷ rest) fs
  run_region :
      {g h : Segment} {rest : List Segment} {f : Fork} {fs : List Fork}
      → OneChunk g h
      → h.node.number ≡ suc g.node.number
      → g.ended ≡ of_region f.team
      → h.opened ≡ of_region f.team
      → h.state.barriers ≡ g.state.barriers
      → h.state.regions ≡ suc g.state.regions
      → f.parent ≡ g.node.team
      → f.member ≡ g.node.member
      → f.state.barriers ≡ g.state.barriers
      → f.state.regions ≡ g.state.regions
      → Runs h rest fs
      → Runs g (h ∷ rest) (f ∷ fs)

module _ (t m : ℕ) where
  abbrev end_of : List Opening → Border
  end_of [] = of_chunk
  end_of (p ∷ ps) = p.border

  -- the first of the segments, and those behind it
  abbrev first_of : ℕ → Opening → List Opening → Segment
  first_of n o os = record { node = record { team = t; member = m; number = n }; opened = o.border; state = o.state; ended = end_of os }

  abbrev behind : ℕ → List Opening → List Segment
  behind n [] = []
  behind n (p ∷ ps) = first_of (n + 1) p ps ∷ behind (n + 1) ps

  segments-are : (n : ℕ) (o : Opening) (os : List Opening) → segments_from t m n o os ≡ first_of n o os ∷ behind n os
  unfolding segments_from
  segments-are n o [] = refl
  segments-are n o (p ∷ ps) = ap (λ (l : List Segment). first_of n o (p ∷ ps) ∷ l) (segments-are (n + 1) p ps)

  runs-from : (n : ℕ) (o : Opening) {os : List Opening} {fs : List Fork} → Chained t m o.state.barriers o.state.regions os fs → Runs (first_of n o os) (behind n os) fs
  runs-from n o chain_end = run_end refl
  runs-from n o (chain_barrier {o = p} border b r d) =
      run_barrier (record { team = refl; member = refl }) (add-one n) border border b r (runs-from (n + 1) p d)
  runs-from n o (chain_region {o = p} border pa me fb fr b r d) =
      run_region (record { team = refl; member = refl }) (add-one n) border border b r pa me fb fr (runs-from (n + 1) p d)

-- the segments of a chunk
pub record ChunkRun (c : Chunk) : Type 0 where
  pub first : Segment
  pub rest : List Segment
  pub all : segments_in c ≡ first ∷ rest
  pub team : first.node.team ≡ c.team
  pub member : first.node.member ≡ c.member
  pub number : first.node.number ≡ 0
  pub opened : first.opened ≡ of_chunk
  pub barriers : first.state.barriers ≡ 0
  pub regions : first.state.regions ≡ 0
  pub runs : Runs first rest (forks_in c)

pub chunk-run : (c : Chunk) → Formed c → ChunkRun c
unfolding segments_in forks_in entries_of fresh
chunk-run c f =
    let o : Opening = record { border = of_chunk; state = fresh } in
    let os = concat_map opening_at (entries_from fresh 0 0 c.body) in
    let d = body-chained c.team c.member fresh 0 0 f.body_ok in
    record {
      first = first_of c.team c.member 0 o os;
      rest = behind c.team c.member 0 os;
      all = segments-are c.team c.member 0 o os;
      team = refl;
      member = refl;
      number = refl;
      opened = refl;
      barriers = refl;
      regions = refl;
      runs = runs-from c.team c.member 0 o d;
    }

-- what a run of segments has
pub record OfRun (g x : Segment) : Type 0 where
  pub chunk : OneChunk g x
  pub number : x.node.number + g.state.barriers + g.state.regions ≡ g.node.number + x.state.barriers + x.state.regions
  pub later : g.node.number ≤ x.node.number
  pub barriers : g.state.barriers ≤ x.state.barriers

of-self : {g : Segment} → OfRun g g
of-self = record { chunk = record { team = refl; member = refl }; number = omega arith; later = omega arith; barriers = omega arith }

-- a run with one segment more in front
of-next :
    {g h x : Segment}
    → OneChunk g h
    → h.node.number ≡ suc g.node.number
    → h.state.barriers + h.state.regions ≡ suc (g.state.barriers + g.state.regions)
    → g.state.barriers ≤ h.state.barriers
    → OfRun h x
    → OfRun g x
of-next c n s b y =
    record {
      chunk = record { team = c.team ∙ y.chunk.team; member = c.member ∙ y.chunk.member };
      number = omega (arith, y.number);
      later = omega (arith, y.later);
      barriers = omega (arith, y.barriers);
    }

only : {g x : Segment} {A : Type 0} → (x ≡ g → A) → Memᴰ x (g ∷ []) → A
only f m = ⊎_elim f (λ l. absurd (Memᴰ.not-nil l)) (Memᴰ.cases_cons m)

pub of-run : {g : Segment} {rest : List Segment} {fs : List Fork} {x : Segment} → Runs g rest fs → Memᴰ x (g ∷ rest) → OfRun g x
of-run {g} (run_end e) m = only (λ q. subst (OfRun g) (sym q) of-self) m
of-run {g} {x = x} (run_barrier c n e o b r d) m =
    ⊎_elim (λ (q : x ≡ g). subst (OfRun g) (sym q) of-self)
    (λ l. of-next c n (omega arith) (omega arith) (of-run d l)) (Memᴰ.cases_cons m)
of-run {g} {x = x} (run_region c n e o b r pa me fb fr d) m =
    ⊎_elim (λ (q : x ≡ g). subst (OfRun g) (sym q) of-self)
    (λ l. of-next c n (omega arith) (omega arith) (of-run d l)) (Memᴰ.cases_cons m)

-- what follows each segment
onward-more :
    {g x : Segment} {all : List Segment}
    → g.node.number ≤ x.node.number
    → Onward all x
    → Onward (g ∷ all) x
onward-more {g} {x} l (at_end e most) =
    at_end e (λ h m c. ⊎_elim (λ (q : h ≡ g). let z = ap (λ (y : Segment). y.node.number) q in omega arith) (λ k. most h k c) (Memᴰ.cases_cons m))
onward-more l (at-barrier n i d e b r) = at-barrier n (Memᴰ.tail i) d e b r
onward-more l (at_region u n i d e o b r) = at_region u n (Memᴰ.tail i) d e o b r

pub onward-in : {g : Segment} {rest : List Segment} {fs : List Fork} {x : Segment} → Runs g rest fs → Memᴰ x (g ∷ rest) → Onward (g ∷ rest) x
onward-in {g = g} (run_end e) m =
    only
    (λ q. subst (Onward (g ∷ [])) (sym q) (at_end e (λ h l c. only (λ w. let z = ap (λ (y : Segment). y.node.number) w in omega arith) l)))
    m
onward-in {g = g} {rest = h ∷ rest} {x = x} (run_barrier c n e o b r d) m =
    ⊎_elim (λ (q : x ≡ g). subst (Onward (g ∷ h ∷ rest)) (sym q) (at-barrier h (Memᴰ.tail (Memᴰ.head refl)) c e b r))
    (λ l. onward-more (let z = (of-run d l).later in omega arith) (onward-in d l)) (Memᴰ.cases_cons m)
onward-in {g = g} {rest = h ∷ rest} {x = x} (run_region {f = f} c n e o b r pa me fb fr d) m =
    ⊎_elim (λ (q : x ≡ g). subst (Onward (g ∷ h ∷ rest)) (sym q) (at_region f.team h (Memᴰ.tail (Memᴰ.head refl)) c e o b r))
    (λ l. onward-more (let z = (of-run d l).later in omega arith) (onward-in d l)) (Memᴰ.cases_cons m)

-- the last segment
pub record LastOf (all : List Segment) : Type 0 where
  pub segment : Segment
  pub present : Memᴰ segment all
  pub ended : segment.ended ≡ of_chunk
  pub highest : (x : Segment) → Memᴰ x all → x.node.number ≤ segment.node.number

last_more : {g h : Segment} {rest : List Segment} → h.node.number ≡ suc g.node.number → LastOf (h ∷ rest) → LastOf (g ∷ h ∷ rest)
last_more {g = g} {h} n z =
    let top = z.highest h (Memᴰ.head refl) in
    record {
      segment = z.segment;
      present = Memᴰ.tail z.present;
      ended = z.ended;
      highest = λ x m. ⊎_elim (λ (q : x ≡ g). let w = ap (λ (y : Segment). y.node.number) q in omega arith) (λ l. z.highest x l) (Memᴰ.cases_cons m);
    }

pub last-in : {g : Segment} {rest : List Segment} {fs : List Fork} → Runs g rest fs → LastOf (g ∷ rest)
last-in {g = g} (run_end e) =
    record {
      segment = g;
      present = Memᴰ.head refl;
      ended = e;
      highest = λ x m. only (λ q. let w = ap (λ (y : Segment). y.node.number) q in omega arith) m;
    }
last-in (run_barrier c n e o b r d) = last_more n (last-in d)
last-in (run_region c n e o b r pa me fb fr d) = last_more n (last-in d)

-- what opens a segment behind the first
border-told : {A : Type 0} {u v : ℕ} → of_region u ≡ of_barrier v → A
border-told e = absurd (let x : ◌≡◌ {A = ℕ} 0 1 = cc in omega arith)

region-one : {u v : ℕ} → of_region u ≡ of_region v → u ≡ v
region-one e = cc

barrier-one : {u v : ℕ} → of_barrier u ≡ of_barrier v → u ≡ v
barrier-one e = cc

forked-more : {g x : Segment} {all : List Segment} {u : ℕ} → ForkedBy all x u → ForkedBy (g ∷ all) x u
forked-more f =
    record { by = f.by; present = Memᴰ.tail f.present; chunk = f.chunk; ended = f.ended; barriers = f.barriers; regions = f.regions }

pub opened-region-in :
    {g : Segment} {rest : List Segment} {fs : List Fork} {x : Segment} {u : ℕ}
    → Runs g rest fs
    → Memᴰ x rest
    → x.opened ≡ of_region u
    → ForkedBy (g ∷ rest) x u
opened-region-in (run_end e) m w = absurd (Memᴰ.not-nil m)
opened-region-in {x = x} {u} (run_barrier {h = h} c n e o b r d) m w =
    ⊎_elim (λ (q : x ≡ h). border-told (sym w ∙ ap (λ (y : Segment). y.opened) q ∙ o)) (λ l. forked-more (opened-region-in d l w)) (Memᴰ.cases_cons m)
opened-region-in {g = g} {rest = h ∷ rest} {x = x} {u} (run_region {f = f} c n e o b r pa me fb fr d) m w =
    ⊎_elim
    (λ (q : x ≡ h).
    let same : f.team ≡ u = region-one (sym o ∙ ap (λ (y : Segment). y.opened) (sym q) ∙ w) in
    subst (λ (y : Segment). ForkedBy (g ∷ h ∷ rest) y u) (sym q)
    (record { by = g; present = Memᴰ.head refl; chunk = c; ended = e ∙ ap of_region same; barriers = b; regions = r }))
    (λ l. forked-more (opened-region-in d l w))
    (Memᴰ.cases_cons m)

pub opened-barrier-in :
    {g : Segment} {rest : List Segment} {fs : List Fork} {x : Segment} {i : ℕ}
    → Runs g rest fs
    → Memᴰ x rest
    → x.opened ≡ of_barrier i
    → x.state.barriers ≡ suc i
opened-barrier-in (run_end e) m w = absurd (Memᴰ.not-nil m)
opened-barrier-in {x = x} {i} (run_barrier {h = h} c n e o b r d) m w =
    ⊎_elim
    (λ (q : x ≡ h).
    let same = barrier-one (sym o ∙ ap (λ (y : Segment). y.opened) (sym q) ∙ w) in
    ap (λ (y : Segment). y.state.barriers) q ∙ b ∙ ap suc same)
    (λ l. opened-barrier-in d l w)
    (Memᴰ.cases_cons m)
opened-barrier-in {x = x} {i} (run_region {h = h} c n e o b r pa me fb fr d) m w =
    ⊎_elim (λ (q : x ≡ h). border-told (sym o ∙ ap (λ (y : Segment). y.opened) (sym q) ∙ w)) (λ l. opened-barrier-in d l w) (Memᴰ.cases_cons m)

-- a barrier that was passed: the segment that is opened there
pub record Passed (all : List Segment) (x : Segment) (i : ℕ) : Type 0 where
  pub behind_it : Segment
  pub behind_in : Memᴰ behind_it all
  pub behind_opened : behind_it.opened ≡ of_barrier i
  pub behind_early : behind_it.node.number ≤ x.node.number

passed-more : {g x : Segment} {all : List Segment} {i : ℕ} → Passed all x i → Passed (g ∷ all) x i
passed-more p =
    record {
      behind_it = p.behind_it;
      behind_in = Memᴰ.tail p.behind_in;
      behind_opened = p.behind_opened;
      behind_early = p.behind_early;
    }

pub passed-in :
    {g : Segment} {rest : List Segment} {fs : List Fork} {x : Segment} (i : ℕ)
    → Runs g rest fs
    → Memᴰ x (g ∷ rest)
    → g.state.barriers ≤ i
    → i < x.state.barriers
    → Passed (g ∷ rest) x i
passed-in i (run_end e) m l u = only (λ q. let z = ap (λ (y : Segment). y.state.barriers) q in absurd (omega arith)) m
passed-in {g = g} {rest = h ∷ rest} {x = x} i (run_barrier c n e o b r d) m l u =
    ⊎_elim
    (λ (q : x ≡ g). let z = ap (λ (y : Segment). y.state.barriers) q in absurd (omega arith))
    (λ k. go (λ f. passed-in i d k f u) k (ℕ_discrete g.state.barriers i))
    (Memᴰ.cases_cons m)
  where
    go : (h.state.barriers ≤ i → Passed (h ∷ rest) x i) → Memᴰ x (h ∷ rest) → Dec (g.state.barriers ≡ i) → Passed (g ∷ h ∷ rest) x i
    go f k (yes q) =
        record {
          behind_it = h;
          behind_in = Memᴰ.tail (Memᴰ.head refl);
          behind_opened = o ∙ ap of_barrier q;
          behind_early = (of-run d k).later;
        }
    go f k (no q) = passed-more (f (omega arith))
passed-in {g = g} {x = x} i (run_region c n e o b r pa me fb fr d) m l u =
    ⊎_elim
    (λ (q : x ≡ g). let z = ap (λ (y : Segment). y.state.barriers) q in absurd (omega arith))
    (λ k. passed-more (passed-in i d k (omega arith) u))
    (Memᴰ.cases_cons m)

-- the REGIONs and the segments that they end
pub record Forks (g : Segment) (f : Fork) : Type 0 where
  pub ended : g.ended ≡ of_region f.team
  pub parent : f.parent ≡ g.node.team
  pub member : f.member ≡ g.node.member
  pub barriers : f.state.barriers ≡ g.state.barriers
  pub regions : f.state.regions ≡ g.state.regions

pub fork-of :
    {g : Segment} {rest : List Segment} {fs : List Fork} {x : Segment} {u : ℕ}
    → Runs g rest fs
    → Memᴰ x (g ∷ rest)
    → x.ended ≡ of_region u
    → (f : Fork) × Memᴰ f fs × Forks x f × (f.team ≡ u)
fork-of {g = g} {u = u} (run_end e) m w = only (λ q. absurd (let v : of_chunk ≡ of_region u = sym e ∙ ap (λ (y : Segment). y.ended) (sym q) ∙ w in let x : ◌≡◌ {A = ℕ} 0 1 = cc in omega arith)) m
fork-of {g = g} {x = x} (run_barrier c n e o b r d) m w =
    ⊎_elim (λ (q : x ≡ g). border-told (sym w ∙ ap (λ (y : Segment). y.ended) q ∙ e)) (λ l. fork-of d l w) (Memᴰ.cases_cons m)
fork-of {g = g} {x = x} {u} (run_region {f = f} c n e o b r pa me fb fr d) m w =
    ⊎_elim
    (λ (q : x ≡ g).
    let own : Forks g f = record { ended = e; parent = pa; member = me; barriers = fb; regions = fr } in
    (f, Memᴰ.head refl, subst (λ (y : Segment). Forks y f) (sym q) own, region-one (sym e ∙ ap (λ (y : Segment). y.ended) (sym q) ∙ w)))
    (λ l. let z = fork-of d l w in (z.0, Memᴰ.tail z.1, z.2, z.3))
    (Memᴰ.cases_cons m)

pub forked-of :
    {g : Segment} {rest : List Segment} {fs : List Fork} {f : Fork}
    → Runs g rest fs
    → Memᴰ f fs
    → (x : Segment) × Memᴰ x (g ∷ rest) × Forks x f
forked-of (run_end e) m = absurd (Memᴰ.not-nil m)
forked-of (run_barrier c n e o b r d) m = let z = forked-of d m in (z.0, Memᴰ.tail z.1, z.2)
forked-of {g = g} {f = x} (run_region {f = f} c n e o b r pa me fb fr d) m =
    ⊎_elim
    (λ (q : x ≡ f).
    let own : Forks g f = record { ended = e; parent = pa; member = me; barriers = fb; regions = fr } in
    (g, Memᴰ.head refl, subst (Forks g) (sym q) own))
    (λ l. let z = forked-of d l in (z.0, Memᴰ.tail z.1, z.2))
    (Memᴰ.cases_cons m)

-- a segment stands in its chunk's list at its number
pub at-number :
    {g : Segment} {rest : List Segment} {fs : List Fork} {x : Segment}
    → Runs g rest fs
    → Memᴰ x (g ∷ rest)
    → (i : ℕ)
    → x.node.number ≡ g.node.number + i
    → get_elem? (g ∷ rest) i ≡ some x
at-number {g = g} {rest} {x = x} d m zero e =
    ⊎_elim (λ (q : x ≡ g). ap some (sym q)) (λ l. absurd (later d l)) (Memᴰ.cases_cons m)
  where
    later : {fs : List Fork} {rest : List Segment} → Runs g rest fs → Memᴰ x rest → ⊥
    later (run_end f) l = Memᴰ.not-nil l
    later (run_barrier c n f o b r k) l = let z = (of-run k l).later in omega arith
    later (run_region c n f o b r pa me fb fr k) l = let z = (of-run k l).later in omega arith
at-number (run_end f) m (suc i) e = only (λ q. let z = ap (λ (y : Segment). y.node.number) q in absurd (omega arith)) m
at-number {g = g} {x = x} (run_barrier c n f o b r k) m (suc i) e =
    ⊎_elim (λ (q : x ≡ g). let z = ap (λ (y : Segment). y.node.number) q in absurd (omega arith)) (λ l. at-number k l i (omega arith)) (Memᴰ.cases_cons m)
at-number {g = g} {x = x} (run_region c n f o b r pa me fb fr k) m (suc i) e =
    ⊎_elim (λ (q : x ≡ g). let z = ap (λ (y : Segment). y.node.number) q in absurd (omega arith)) (λ l. at-number k l i (omega arith)) (Memᴰ.cases_cons m)
