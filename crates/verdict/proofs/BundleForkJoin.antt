-- The segments of an accepted bundle fork and join.
use Prim.Native.Nat.{ℕ, suc, ◌+◌, ◌*◌, ◌≤◌, ◌<◌}
use mathlib.Core.Path.{◌≡◌, refl, sym, ◌∙◌, ap, ap₂, subst}
use mathlib.Core.Logic.{◌⊎◌, inl, inr}
use mathlib.Core.Bool.{Bool, true, false, cond, ◌&&◌}
use mathlib.Core.List.{List, [], ◌∷◌, ◌++◌, Memᴰ}
use mathlib.Core.Option.{Option, none, some}
use native.Mathlib.Omega.{arith}
use lib.Dec.{eqb, leb}
use lib.ListN.{get_elem?}
use borrow.Author.Tests.{leb-true, leb-false, ltb-false, eqb-true, eq-eqb, ne_eqb}
use Rattle.bundle.specs.Answer.{gives}
use Rattle.bundle.specs.Cases.{on_region}
use Rattle.bundle.specs.Commands.{code_of, widths_of, fit_widths, operands_ok, in_range}
use Rattle.bundle.specs.Scan.{start}
use Rattle.bundle.specs.declared.command.Command.{Command}
use Rattle.bundle.specs.declared.command.Command.TheVariants as Com
use Rattle.bundle.specs.Lists.{first, concat_map, from_option}
use Rattle.bundle.specs.Chunks.{Placed, Chunk, fresh, commands_of, chunks_of, is_of, chunk_of}
use Rattle.bundle.specs.Walk.{Entry, entries_from, entries_of, fork_at, forks_in, forks_of}
use Rattle.bundle.specs.Check.{Accepted, fork_of, size_of, depth_of}
use Rattle.bundle.specs.declared.chunk.ChunkState.{ChunkState}
use Rattle.bundle.specs.declared.index.Fork.{Fork}
use Rattle.bundle.proofs.Tests.{both, and_right}
use Rattle.bundle.proofs.ListLaws.{first_some, first-none, concat_map-elim, concat_map-intro}
use Rattle.bundle.proofs.Keys.{distinct-key}
use Rattle.bundle.proofs.Places.{member_key}
use Rattle.bundle.proofs.Delimiters.{on-other, Forking, forks_team, forks_none, forkings}
use Rattle.bundle.proofs.Gathering.{log_of}
use Rattle.bundle.proofs.Reorder.{orderly-range}
use Rattle.bundle.proofs.Shaped.{is_of-elim}
use Rattle.bundle.proofs.Onward.{legible, team-falls, entry-stands}
use Rattle.bundle.proofs.SegmentRuns.{node_of, segments-distinct}
use Rattle.order.specs.Labels.{last_triple, fork_label, segment_label, label_of}
use Rattle.order.specs.Climbing.{Climbable}
use Rattle.order.proofs.Climbs.{fork-known, root-unforked, climbs}
use Rattle.verdict.specs.Graph.{of_chunk, of_barrier, of_region, Segment, segments_in, segments_of}
use Rattle.verdict.proofs.ForkJoin.{OneChunk, Onward, at_end, at-barrier, at_region, ForkedBy, Parent, InChunk, ForkJoin}
use Rattle.verdict.proofs.SegmentChains.{ChunkRun, chunk-run, of-run, onward-in, last-in, opened-region-in, opened-barrier-in, passed-in, at-number, Forks, fork-of, forked-of}

module _ (s : List ℕ) (ok : Accepted s) where
  abbrev cs : List Chunk
  cs = chunks_of s

  abbrev ss : List Segment
  ss = segments_of cs

  abbrev fs : List Fork
  fs = forks_of cs

  -- a segment and its chunk
  record Of (g : Segment) : Type 0 where
    chunk : Chunk
    present : Memᴰ chunk cs
    run : ChunkRun chunk
    inside : Memᴰ g (run.first ∷ run.rest)
    team : g.node.team ≡ chunk.team
    member : g.node.member ≡ chunk.member

  of-chunk : (c : Chunk) → Memᴰ c cs → {g : Segment} → Memᴰ g (segments_in c) → Of g
  of-chunk c l m =
      let r = chunk-run c ((legible s ok).formed c l) in
      let i = subst (Memᴰ _) r.all m in
      let o = of-run r.runs i in
      record {
        chunk = c;
        present = l;
        run = r;
        inside = i;
        team = sym o.chunk.team ∙ r.team;
        member = sym o.chunk.member ∙ r.member;
      }

  of : {g : Segment} → Memᴰ g ss → Of g
  unfolding segments_of
  of m = let c = concat_map-elim segments_in cs m in of-chunk c.source c.present c.gives

  -- a segment of the same run, and of the same chunk
  back : {g : Segment} (o : Of g) {x : Segment} → Memᴰ x (o.run.first ∷ o.run.rest) → Memᴰ x ss
  unfolding segments_of
  back o m = concat_map-intro segments_in o.present (subst (Memᴰ _) (sym o.run.all) m)

  together : {g : Segment} (o : Of g) {x : Segment} → Memᴰ x (o.run.first ∷ o.run.rest) → OneChunk g x
  together o m =
      let a = of-run o.run.runs o.inside in
      let b = of-run o.run.runs m in
      record { team = sym a.chunk.team ∙ b.chunk.team; member = sym a.chunk.member ∙ b.chunk.member }

  same-chunk : {g h : Segment} (o : Of g) (q : Of h) → OneChunk g h → o.chunk ≡ q.chunk
  same-chunk o q c =
      distinct-key member_key (legible s ok).shaped.members_once o.present q.present
      (unfold member_key in
      (ap₂ (λ (x y : ℕ). x ∷ y ∷ []) (sym o.team ∙ c.team ∙ q.team) (sym o.member ∙ c.member ∙ q.member)))

  shared : {g h : Segment} (o : Of g) → Memᴰ h ss → OneChunk g h → Memᴰ h (o.run.first ∷ o.run.rest)
  shared {g} {h} o m c =
      let q = of m in
      subst (Memᴰ h) o.run.all
      (subst (λ (d : Chunk). Memᴰ h (segments_in d)) (sym (same-chunk o q c)) (subst (Memᴰ h) (sym q.run.all) q.inside))

  number_of : {g : Segment} → Memᴰ g ss → g.node.number ≡ g.state.barriers + g.state.regions
  number_of m = let o = of m in let r = o.run in let x = of-run r.runs o.inside in omega (arith, x.number, r.number, r.barriers, r.regions)

  member_of : {g : Segment} → Memᴰ g ss → g.node.member < size_of fs g.node.team
  member_of {g} m =
      let o = of m in
      let h = leb-false (size_of fs o.chunk.team) o.chunk.member ((legible s ok).shaped.members_low o.chunk o.present) in
      let size : size_of fs g.node.team ≡ size_of fs o.chunk.team = ap (size_of fs) o.team in
      let own = o.member in
      omega arith

  onward-of : {g : Segment} → Memᴰ g ss → Onward ss g
  onward-of {g} m = let o = of m in go o (onward-in o.run.runs o.inside)
    where
      go : (o : Of g) → Onward (o.run.first ∷ o.run.rest) g → Onward ss g
      go o (at_end e most) = at_end e (λ h l c. most h (shared o l c) c)
      go o (at-barrier n i d e b r) = at-barrier n (back o i) d e b r
      go o (at_region u n i d e p b r) = at_region u n (back o i) d e p b r

  begins-of : {g : Segment} → Memᴰ g ss → InChunk ss g (λ z. z.node.number ≡ 0)
  begins-of m =
      let o = of m in
      let i = mathlib.Core.List.Memᴰ.head refl in
      record { segment = o.run.first; present = back o i; chunk = together o i; holds = o.run.number }

  finishes-of : {g : Segment} → Memᴰ g ss → InChunk ss g (λ z. (z.ended ≡ of_chunk) × (g.node.number ≤ z.node.number))
  finishes-of {g} m =
      let o = of m in
      let l = last-in o.run.runs in
      record { segment = l.segment; present = back o l.present; chunk = together o l.present; holds = (l.ended, l.highest g o.inside) }

  region-of : {h : Segment} {u : ℕ} → Memᴰ h ss → h.opened ≡ of_region u → ForkedBy ss h u
  region-of {h} {u} m e = let o = of m in go o (mathlib.Core.List.Memᴰ.cases_cons o.inside)
    where
      go : (o : Of h) → (h ≡ o.run.first) ⊎ Memᴰ h o.run.rest → ForkedBy ss h u
      go o (inl q) = absurd (let w : of_chunk ≡ of_region u = sym o.run.opened ∙ ap (λ (y : Segment). y.opened) (sym q) ∙ e in let x : ◌≡◌ {A = ℕ} 0 1 = cc in omega arith)
      go o (inr l) =
          let f = opened-region-in o.run.runs l e in
          record { by = f.by; present = back o f.present; chunk = f.chunk; ended = f.ended; barriers = f.barriers; regions = f.regions }

  barrier-of : {h : Segment} {i : ℕ} → Memᴰ h ss → h.opened ≡ of_barrier i → h.state.barriers ≡ suc i
  barrier-of {h} {i} m e = let o = of m in go o (mathlib.Core.List.Memᴰ.cases_cons o.inside)
    where
      go : (o : Of h) → (h ≡ o.run.first) ⊎ Memᴰ h o.run.rest → h.state.barriers ≡ suc i
      go o (inl q) = absurd (let w : of_chunk ≡ of_barrier i = sym o.run.opened ∙ ap (λ (y : Segment). y.opened) (sym q) ∙ e in let x : ◌≡◌ {A = ℕ} 0 1 = cc in omega arith)
      go o (inr l) = opened-barrier-in o.run.runs l e

  opens_of : {g : Segment} {i : ℕ} → Memᴰ g ss → i < g.state.barriers → InChunk ss g (λ z. (z.opened ≡ of_barrier i) × (z.node.number ≤ g.node.number))
  opens_of {g} {i} m l =
      let o = of m in
      let p = passed-in i o.run.runs o.inside (let z = o.run.barriers in omega arith) l in
      record { segment = p.behind_it; present = back o p.behind_in; chunk = together o p.behind_in; holds = (p.behind_opened, p.behind_early) }

  -- the REGION of a team
  pub fork_at_lem : {p : Segment} {u : ℕ} → Memᴰ p ss → p.ended ≡ of_region u → (f : Fork) × Memᴰ f fs × Forks p f × (f.team ≡ u)
  unfolding forks_of
  fork_at_lem m e =
      let o = of m in
      let f = fork-of o.run.runs o.inside e in
      (f.0, concat_map-intro forks_in o.present f.1, f.2, f.3)

  one-fork : {f g : Fork} → Memᴰ f fs → Memᴰ g fs → f.team ≡ g.team → f ≡ g
  one-fork l m e = distinct-key (λ (x : Fork). x.team) (legible s ok).shaped.forks_once l m e

  pub fork-found : {f : Fork} {u : ℕ} → Memᴰ f fs → f.team ≡ u → fork_of fs u ≡ some f
  unfolding fork_of
  fork-found {f} {u} l e = go (first (λ (x : Fork). eqb x.team u) fs) refl
    where
      go : (o : Option Fork) → first (λ (x : Fork). eqb x.team u) fs ≡ o → first (λ (x : Fork). eqb x.team u) fs ≡ some f
      go none q = absurd (first-none (λ (x : Fork). eqb x.team u) q l (eq-eqb f.team u e))
      go (some g) q =
          let w = first_some (λ (x : Fork). eqb x.team u) fs q in
          q ∙ ap some (one-fork w.0 l (eqb-true g.team u w.1 ∙ sym e))

  once-of : {p q : Segment} {u : ℕ} → Memᴰ p ss → Memᴰ q ss → p.ended ≡ of_region u → q.ended ≡ of_region u → p ≡ q
  once-of {p} {q} m n e f =
      let a = fork_at_lem m e in
      let b = fork_at_lem n f in
      let same : a.0 ≡ b.0 = one-fork a.1 b.1 (a.3 ∙ sym b.3) in
      let t : p.node.team ≡ q.node.team = sym a.2.parent ∙ ap (λ (x : Fork). x.parent) same ∙ b.2.parent in
      let v : p.node.member ≡ q.node.member = sym a.2.member ∙ ap (λ (x : Fork). x.member) same ∙ b.2.member in
      let x : p.state.barriers ≡ q.state.barriers = sym a.2.barriers ∙ ap (λ (x : Fork). x.state.barriers) same ∙ b.2.barriers in
      let y : p.state.regions ≡ q.state.regions = sym a.2.regions ∙ ap (λ (x : Fork). x.state.regions) same ∙ b.2.regions in
      let z : p.node.number ≡ q.node.number = number_of m ∙ ap₂ (λ (i j : ℕ). i + j) x y ∙ sym (number_of n) in
      distinct-key node_of (segments-distinct s ok) m n (λ i. record { team = t i; member = v i; number = z i })

  unlocked-label : (t v : ℕ) (a b : ChunkState) → a.barriers ≡ b.barriers → a.regions ≡ b.regions → segment_label fs t v a ≡ segment_label fs t v b
  unfolding segment_label last_triple
  unlocked-label t v a b e f =
      ap₂ (λ (x y : ℕ). fork_label (suc t) fs t ++ (record { offset = v + size_of fs t * y; span = size_of fs t; interval = x } ∷ [])) e f

  label-of : {p : Segment} {u : ℕ} → Memᴰ p ss → p.ended ≡ of_region u → fork_label (suc u) fs u ≡ segment_label fs p.node.team p.node.member p.state
  label-of {p} {u} m e =
      let a = fork_at_lem m e in
      climbs fs (team-falls s ok) u (fork-found a.1 a.3) ∙ same-triples a.0 a.2
    where
      same-triples : (f : Fork) → Forks p f → segment_label fs f.parent f.member f.state ≡ segment_label fs p.node.team p.node.member p.state
      same-triples f w =
          ap₂ (λ (t v : ℕ). segment_label fs t v f.state) w.parent w.member
          ∙ unlocked-label p.node.team p.node.member f.state p.state w.barriers w.regions

  root-of : fork_label 1 fs 0 ≡ []
  unfolding fork_label
  root-of = rw (root-unforked fs (team-falls s ok))

  unforked : (t : ℕ) → (t ≡ 0 → ⊥) → fork_of fs t ≡ none → size_of fs t ≡ 0
  unfolding size_of
  unforked t e q = rw (ne_eqb t 0 e, q)

  pub forker : {f : Fork} → Memᴰ f fs → (x : Segment) × Memᴰ x ss × Forks x f
  unfolding forks_of segments_of
  forker {f} l =
      let c = concat_map-elim forks_in cs l in
      let r = chunk-run c.source ((legible s ok).formed c.source c.present) in
      let x = forked-of r.runs c.gives in
      (x.0, concat_map-intro segments_in c.present (subst (Memᴰ x.0) (sym r.all) x.1), x.2)

  -- the team of a segment is the root or forked
  pub team-forked : {g : Segment} → Memᴰ g ss → (g.node.team ≡ 0 → ⊥) → (f : Fork) × (fork_of fs g.node.team ≡ some f)
  team-forked {g} m e = go (fork_of fs g.node.team) refl (member_of m)
    where
      go : (o : Option Fork) → fork_of fs g.node.team ≡ o → g.node.member < size_of fs g.node.team → (f : Fork) × (fork_of fs g.node.team ≡ some f)
      go none q h = absurd (let z = unforked g.node.team e q in omega arith)
      go (some f) q h = (f, q)

  parent_of : {g : Segment} → Memᴰ g ss → (g.node.team ≡ 0 → ⊥) → Parent ss g.node.team
  parent_of {g} m e =
      let q = team-forked m e in
      let w = fork-known fs g.node.team q.1 in
      let x = forker w.0 in
      let t = x.2.parent in
      let below = team-falls s ok q.0 w.0 in
      record { segment = x.0; present = x.1; ended = x.2.ended ∙ ap of_region w.1; below = omega (arith, w.1) }

  pub fork-join : ForkJoin ss fs
  fork-join =
      record {
        one = λ m n e. distinct-key node_of (segments-distinct s ok) m n e;
        number = number_of;
        member = member_of;
        onward = onward-of;
        begins = begins-of;
        finishes = finishes-of;
        opened_region = region-of;
        opened_barrier = barrier-of;
        opens_barrier = opens_of;
        parent = parent_of;
        forks_once = once-of;
        fork-label = label-of;
        root_label = root-of;
      }

  -- a team has at most 64 members
  region-small : (u z : ℕ) → in_range (Com.Region u z) ≡ true → z ≤ 64
  unfolding in_range operands_ok
  region-small u z e =
      let widths = fit_widths (widths_of (code_of (Com.Region u z)).byte) (code_of (Com.Region u z)).operands in
      leb-true z 64 (and_right (leb 1 u && leb 1 z) (leb z 64) (and_right widths (leb 1 u && leb 1 z && leb z 64) e))

  fork-small : (t v : ℕ) (e : Entry) (f : Fork) → in_range e.command ≡ true → Memᴰ f (fork_at t v e) → f.size ≤ 64
  unfolding fork_at
  fork-small t v e f h l = go e.command (forkings e.command) h l
    where
      fork-made : ℕ → ℕ → List Fork
      fork-made u z = record { place = e.at; team = u; size = z; parent = t; member = v; state = e.state } ∷ []

      go : (c : Command) → Forking c → in_range c ≡ true → Memᴰ f (on_region [] fork-made c) → f.size ≤ 64
      go c (forks_team u z) q k =
          let w : f ≡ record { place = e.at; team = u; size = z; parent = t; member = v; state = e.state } = mathlib.Core.List.Memᴰ.eq_of_singleton k in
          let y = ap (λ (x : Fork). x.size) w in
          let small = region-small u z q in
          omega arith
      go c (forks_none x) q k = absurd (mathlib.Core.List.Memᴰ.not-nil (subst (Memᴰ f) (on-other [] fork-made c x) k))

  size_small : (f : Fork) → Memᴰ f fs → f.size ≤ 64
  unfolding forks_of forks_in entries_of commands_of log_of
  size_small f l =
      let c = concat_map-elim forks_in cs l in
      let e = concat_map-elim (fork_at c.source.team c.source.member) (entries_from fresh 0 0 c.source.body) c.gives in
      let p = entry-stands fresh 0 0 c.source.body e.source e.present in
      let m : Memᴰ p.placed.command (commands_of c.source) = mathlib.Core.List.Memᴰ.map (λ (x : Placed). x.command) p.present in
      let n : Memᴰ p.placed.command (log_of c.source) = mathlib.Core.List.Memᴰ.tail m in
      let ranged = orderly-range start (concat_map log_of cs) (legible s ok).order p.placed.command (concat_map-intro log_of c.present n) in
      fork-small c.source.team c.source.member e.source f (subst (λ (x : Command). in_range x ≡ true) p.command ranged) e.gives

  pub team-small : (t : ℕ) → size_of fs t ≤ 64
  unfolding size_of
  team-small t = go (eqb t 0) (fork_of fs t) refl
    where
      go : (b : Bool) (o : Option Fork) → fork_of fs t ≡ o → cond b 1 (from_option 0 (λ (f : Fork). f.size) o) ≤ 64
      go true o e = omega arith
      go false none e = omega arith
      go false (some f) e = size_small f (fork-known fs t e).0

  pub root-size : size_of fs 0 ≡ 1
  unfolding size_of
  root-size = refl

  pub climbable : Climbable fs
  climbable = record { falls = team-falls s ok; shallow = λ f m. ltb-false 4 (depth_of fs f.team) ((legible s ok).shaped.shallow f m) }

  -- a segment is found by its team, member and number
  chunk-found : (c : Chunk) → Memᴰ c cs → chunk_of cs c.team c.member ≡ some c
  unfolding chunk_of
  chunk-found c l = go (first (is_of c.team c.member) cs) refl
    where
      own : is_of c.team c.member c ≡ true
      own = unfold is_of in (both (eq-eqb c.team c.team refl) (eq-eqb c.member c.member refl))

      go : (o : Option Chunk) → first (is_of c.team c.member) cs ≡ o → first (is_of c.team c.member) cs ≡ some c
      go none q = absurd (first-none (is_of c.team c.member) q l own)
      go (some d) q =
          let w = first_some (is_of c.team c.member) cs q in
          let e = is_of-elim c.team c.member d w.1 in
          q ∙ ap some (distinct-key member_key (legible s ok).shaped.members_once w.0 l (unfold member_key in (ap₂ (λ (x y : ℕ). x ∷ y ∷ []) e.0 e.1)))

  pub label-found :
      {g : Segment}
      → Memᴰ g ss
      → label_of s g.node.team g.node.member g.node.number ≡ gives (segment_label fs g.node.team g.node.member g.state)
  unfolding label_of
  label-found {g} m =
      let o = of m in
      let c = o.chunk in
      let at : chunk_of cs g.node.team g.node.member ≡ some c = ap₂ (chunk_of cs) o.team o.member ∙ chunk-found c o.present in
      let there : get_elem? (segments_in c) g.node.number ≡ some g =
      ap (λ (l : List Segment). get_elem? l g.node.number) o.run.all
      ∙ at-number o.run.runs o.inside g.node.number (let z = o.run.number in omega arith)
      in
      rw (ok, at, there)
