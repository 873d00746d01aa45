-- Segments that fork and join: what is known of those of an accepted bundle, and the paths between them.
use Prim.Native.Nat.{ℕ, zero, suc, ◌+◌, ◌-◌, ◌≤◌, ◌<◌}
use mathlib.Core.Path.{◌≡◌, refl, sym, ◌∙◌, ap, subst}
use mathlib.Core.List.{List, [], Memᴰ}
use native.Mathlib.Omega.{arith}
use Rattle.bundle.specs.Check.{size_of}
use Rattle.bundle.specs.declared.index.Fork.{Fork}
use Rattle.order.specs.Labels.{fork_label, segment_label}
use Rattle.verdict.specs.Graph.{Node, of_chunk, of_barrier, of_region, Segment, Joined, GraphPath, here, step}

-- two segments are of one chunk
pub record OneChunk (g h : Segment) : Type 0 where
  pub team : g.node.team ≡ h.node.team
  pub member : g.node.member ≡ h.node.member

-- what ends a segment, and the segment that is opened there
pub data Onward (ss : List Segment) (g : Segment) : Type 0 where
  at_end : g.ended ≡ of_chunk → ((h : Segment) → Memᴰ h ss → OneChunk g h → h.node.number ≤ g.node.number) → Onward ss g
  at-barrier :
      (n : Segment)
      → Memᴰ n ss
      → OneChunk g n
      → g.ended ≡ of_barrier g.state.barriers
      → n.state.barriers ≡ suc g.state.barriers
      → n.state.regions ≡ g.state.regions
      → Onward ss g
  at_region :
      (u : ℕ) (n : Segment)
      → Memᴰ n ss
      → OneChunk g n
      → g.ended ≡ of_region u
      → n.opened ≡ of_region u
      → n.state.barriers ≡ g.state.barriers
      → n.state.regions ≡ suc g.state.regions
      → Onward ss g

-- the segment that a REGION ends before another
pub record ForkedBy (ss : List Segment) (h : Segment) (u : ℕ) : Type 0 where
  pub by : Segment
  pub present : Memᴰ by ss
  pub chunk : OneChunk by h
  pub ended : by.ended ≡ of_region u
  pub barriers : h.state.barriers ≡ by.state.barriers
  pub regions : h.state.regions ≡ suc by.state.regions

-- the segment that forked a team
pub record Parent (ss : List Segment) (t : ℕ) : Type 0 where
  pub segment : Segment
  pub present : Memᴰ segment ss
  pub ended : segment.ended ≡ of_region t
  pub below : segment.node.team < t

-- a segment of the same chunk with a property
pub record InChunk (ss : List Segment) (g : Segment) (P : Segment → Type 0) : Type 0 where
  pub segment : Segment
  pub present : Memᴰ segment ss
  pub chunk : OneChunk g segment
  pub holds : P segment

-- what the segments of an accepted bundle have
pub record ForkJoin (ss : List Segment) (fs : List Fork) : Type 0 where
  pub one : {g h : Segment} → Memᴰ g ss → Memᴰ h ss → g.node ≡ h.node → g ≡ h
  pub number : {g : Segment} → Memᴰ g ss → g.node.number ≡ g.state.barriers + g.state.regions
  pub member : {g : Segment} → Memᴰ g ss → g.node.member < size_of fs g.node.team
  pub onward : {g : Segment} → Memᴰ g ss → Onward ss g
  pub begins : {g : Segment} → Memᴰ g ss → InChunk ss g (λ z. z.node.number ≡ 0)
  pub finishes : {g : Segment} → Memᴰ g ss → InChunk ss g (λ z. (z.ended ≡ of_chunk) × (g.node.number ≤ z.node.number))
  pub opened_region : {h : Segment} {u : ℕ} → Memᴰ h ss → h.opened ≡ of_region u → ForkedBy ss h u
  pub opened_barrier : {h : Segment} {i : ℕ} → Memᴰ h ss → h.opened ≡ of_barrier i → h.state.barriers ≡ suc i
  pub opens_barrier : {g : Segment} {i : ℕ} → Memᴰ g ss → i < g.state.barriers → InChunk ss g (λ z. (z.opened ≡ of_barrier i) × (z.node.number ≤ g.node.number))
  pub parent : {g : Segment} → Memᴰ g ss → (g.node.team ≡ 0 → ⊥) → Parent ss g.node.team
  pub forks_once : {p q : Segment} {u : ℕ} → Memᴰ p ss → Memᴰ q ss → p.ended ≡ of_region u → q.ended ≡ of_region u → p ≡ q
  pub fork-label :
      {p : Segment} {u : ℕ}
      → Memᴰ p ss
      → p.ended ≡ of_region u
      → fork_label (suc u) fs u ≡ segment_label fs p.node.team p.node.member p.state
  pub root_label : fork_label 1 fs 0 ≡ []

chunk-same : {g : Segment} → OneChunk g g
chunk-same = record { team = refl; member = refl }

chunk-trans : {g h k : Segment} → OneChunk g h → OneChunk h k → OneChunk g k
chunk-trans p q = record { team = p.team ∙ q.team; member = p.member ∙ q.member }

chunk-sym : {g h : Segment} → OneChunk g h → OneChunk h g
chunk-sym p = record { team = sym p.team; member = sym p.member }

pub path-trans : {ss : List Segment} {a b c : Node} → GraphPath ss a b → GraphPath ss b c → GraphPath ss a c
path-trans p here = p
path-trans p (step q e) = step (path-trans p q) e

module _ {ss : List Segment} {fs : List Fork} (k : ForkJoin ss fs) where
  abbrev In : Segment → Type 0
  In g = Memᴰ g ss

  abbrev Path : Segment → Segment → Type 0
  Path g h = GraphPath ss g.node h.node

  edge : {g h : Segment} → In g → In h → Joined g h → Path g h
  edge {g} {h} p q j =
      step here (record { from = g; to = h; from_in = p; to_in = q; from_node = refl; to_node = refl; joined = j })

  pub same-node : {g h : Segment} → OneChunk g h → g.node.number ≡ h.node.number → g.node ≡ h.node
  same-node c e = λ i. record { team = c.team i; member = c.member i; number = e i }

  pub same-state :
      {g h : Segment}
      → In g
      → In h
      → OneChunk g h
      → g.state.barriers ≡ h.state.barriers
      → g.state.regions ≡ h.state.regions
      → g ≡ h
  same-state p q c b r =
      let n : _ ≡ _ = k.number p in
      let m : _ ≡ _ = k.number q in
      k.one p q (same-node c (omega arith))

  -- the segment after one that is not the last of its chunk
  record Next (g : Segment) : Type 0 where
    segment : Segment
    present : In segment
    chunk : OneChunk g segment
    more : segment.node.number ≡ suc g.node.number
    barriers : g.state.barriers ≤ segment.state.barriers
    regions : g.state.regions ≤ segment.state.regions

  next_of : {g h : Segment} → In g → In h → OneChunk g h → g.node.number < h.node.number → Next g
  next_of {g} {h} p q c l = go (k.onward p)
    where
      go : Onward ss g → Next g
      go (at_end e most) = absurd (let z = most h q c in omega arith)
      go (at-barrier n i d e b r) =
          let x = k.number p in
          let y = k.number i in
          record { segment = n; present = i; chunk = d; more = omega arith; barriers = omega arith; regions = omega arith }
      go (at_region u n i d e o b r) =
          let x = k.number p in
          let y = k.number i in
          record { segment = n; present = i; chunk = d; more = omega arith; barriers = omega arith; regions = omega arith }

  -- along a chunk
  pub record Along (g h : Segment) : Type 0 where
    pub path : Path g h
    pub barriers : g.state.barriers ≤ h.state.barriers
    pub regions : g.state.regions ≤ h.state.regions

  along : (d : ℕ) {g h : Segment} → In g → In h → OneChunk g h → h.node.number ≡ g.node.number + d → Along g h
  along zero {g} {h} p q c e =
      let same : g ≡ h = k.one p q (same-node c (omega arith)) in
      record {
        path = subst (λ (x : Segment). Path g x) same here;
        barriers = let z = ap (λ (x : Segment). x.state.barriers) same in omega arith;
        regions = let z = ap (λ (x : Segment). x.state.regions) same in omega arith;
      }
  along (suc d) {g} {h} p q c e =
      let n = next_of p q c (omega arith) in
      let m = n.more in
      let r = along d n.present q (chunk-trans (chunk-sym n.chunk) c) (omega arith) in
      record {
        path = path-trans (edge p n.present (Joined.next n.chunk.team n.chunk.member n.more)) r.path;
        barriers = omega (arith, n.barriers, r.barriers);
        regions = omega (arith, n.regions, r.regions);
      }

  pub in-chunk : {g h : Segment} → In g → In h → OneChunk g h → g.node.number ≤ h.node.number → Along g h
  in-chunk {g} {h} p q c l = along (h.node.number - g.node.number) p q c (omega arith)

  -- one segment is ahead of another of its team: fewer barriers, or as many and fewer regions of the same member
  pub data Ahead (g h : Segment) : Type 0 where
    fewer_barriers : g.state.barriers < h.state.barriers → Ahead g h
    fewer_regions : g.node.member ≡ h.node.member → g.state.barriers ≡ h.state.barriers → g.state.regions < h.state.regions → Ahead g h

  -- from a segment on to the barrier behind it: there its chunk passes on, or ends before it; or a REGION comes first
  up-to-barrier :
      {g h : Segment}
      → In g
      → In h
      → g.node.team ≡ h.node.team
      → g.state.barriers < h.state.barriers
      → ((n : Segment) → In n → OneChunk g n → n.state.barriers ≡ g.state.barriers → n.node.number ≡ suc g.node.number → Path n h)
      → Path g h
  up-to-barrier {g} {h} p q t l past = go (k.onward p)
    where
      o : InChunk ss h (λ z. (z.opened ≡ of_barrier g.state.barriers) × (z.node.number ≤ h.node.number))
      o = k.opens_barrier q l

      same : g.node.team ≡ o.segment.node.team
      same = t ∙ o.chunk.team

      across : Joined g o.segment → Path g h
      across j = path-trans (edge p o.present j) (in-chunk o.present q (chunk-sym o.chunk) o.holds.1).path

      go : Onward ss g → Path g h
      go (at_end e most) = across (Joined.missing g.state.barriers (sym same) e (omega arith) o.holds.0)
      go (at-barrier n i d e b r) = across (Joined.barrier g.state.barriers same e o.holds.0)
      go (at_region u n i d e w b r) =
          let x = k.number p in
          let y = k.number i in
          let more : n.node.number ≡ suc g.node.number = omega arith in
          path-trans (edge p i (Joined.next d.team d.member more)) (past n i d b more)

  -- no segment of the chunk has a higher number
  abbrev Most : Segment → ℕ → Type 0
  Most g most = (z : Segment) → In z → OneChunk g z → z.node.number ≤ most

  past-regions :
      (d : ℕ) {g h : Segment}
      → In g
      → In h
      → g.node.team ≡ h.node.team
      → g.state.barriers < h.state.barriers
      → Most g (g.node.number + d)
      → Path g h
  past-regions zero {g} p q t l most = up-to-barrier p q t l (λ n i c b e. absurd (omega (arith, most n i c)))
  past-regions (suc d) {g} p q t l most =
      up-to-barrier p q t l
      (λ n i c b e. past-regions d i q (sym c.team ∙ t) (omega arith) (λ z m f. omega (arith, most z m (chunk-trans c f))))

  last-most : {g : Segment} → In g → (m : ℕ) × Most g m
  last-most {g} p = let f = k.finishes p in (f.segment.node.number, go f (k.onward f.present))
    where
      go : (f : InChunk ss g (λ z. (z.ended ≡ of_chunk) × (g.node.number ≤ z.node.number))) → Onward ss f.segment → Most g f.segment.node.number
      go f (at_end e most) = λ z m c. most z m (chunk-trans (chunk-sym f.chunk) c)
      go f (at-barrier n i d e b r) = absurd (let w : of_barrier f.segment.state.barriers ≡ of_chunk = sym e ∙ f.holds.0 in let x : ◌≡◌ {A = ℕ} 0 1 = cc in omega arith)
      go f (at_region u n i d e o b r) = absurd (let w : of_region u ≡ of_chunk = sym e ∙ f.holds.0 in let x : ◌≡◌ {A = ℕ} 0 1 = cc in omega arith)

  through-barrier : {g h : Segment} → In g → In h → g.node.team ≡ h.node.team → g.state.barriers < h.state.barriers → Path g h
  through-barrier p q t l =
      let m = last-most p in
      past-regions m.0 p q t l (λ z i c. omega (arith, m.1 z i c))

  -- what is ahead reaches
  pub ahead-path : {g h : Segment} → In g → In h → g.node.team ≡ h.node.team → Ahead g h → Path g h
  ahead-path p q t (fewer_barriers l) = through-barrier p q t l
  ahead-path p q t (fewer_regions m b r) =
      let x = k.number p in
      let y = k.number q in
      (in-chunk p q (record { team = t; member = m }) (omega arith)).path

  -- a segment with a REGION behind it, and the segment that the REGION opens
  pub record After (p : Segment) (u : ℕ) : Type 0 where
    pub next : Segment
    pub present : In next
    pub chunk : OneChunk p next
    pub opened : next.opened ≡ of_region u
    pub barriers : next.state.barriers ≡ p.state.barriers
    pub regions : next.state.regions ≡ suc p.state.regions

  pub after : {p : Segment} {u : ℕ} → In p → p.ended ≡ of_region u → After p u
  after {p} {u} m e = go (k.onward m)
    where
      go : Onward ss p → After p u
      go (at_end f most) = absurd (let w : of_chunk ≡ of_region u = sym f ∙ e in let x : ◌≡◌ {A = ℕ} 0 1 = cc in omega arith)
      go (at-barrier n i d f b r) = absurd (let w : of_barrier p.state.barriers ≡ of_region u = sym f ∙ e in let x : ◌≡◌ {A = ℕ} 0 1 = cc in omega arith)
      go (at_region v n i d f o b r) =
          let w : of_region v ≡ of_region u = sym f ∙ e in
          record { next = n; present = i; chunk = d; opened = o ∙ w; barriers = b; regions = r }

  pub after-path : {p h : Segment} {u : ℕ} (i : In p) → In h → p.node.team ≡ h.node.team → (a : After p u) → Ahead p h → Path a.next h
  after-path i q t a (fewer_barriers l) = through-barrier a.present q (sym a.chunk.team ∙ t) (omega (arith, a.barriers))
  after-path i q t a (fewer_regions m b r) =
      let x = k.number a.present in
      let y = k.number q in
      (in-chunk a.present q (chunk-trans (chunk-sym a.chunk) (record { team = t; member = m })) (omega (arith, a.barriers, a.regions))).path

  -- into a team, and out of it
  pub into : {p g : Segment} → In p → In g → p.ended ≡ of_region g.node.team → Path p g
  into p q e =
      let z = k.begins q in
      path-trans (edge p z.present (Joined.fork (e ∙ ap of_region z.chunk.team) z.holds))
      (in-chunk z.present q (chunk-sym z.chunk) (let w = z.holds in omega arith)).path

  pub out_of : {p g : Segment} {u : ℕ} → In g → g.node.team ≡ u → (a : After p u) → Path g a.next
  out_of q e a =
      let z = k.finishes q in
      path-trans (in-chunk q z.present z.chunk z.holds.1).path
      (edge z.present a.present (Joined.join z.holds.0 (a.opened ∙ ap of_region (sym e ∙ z.chunk.team))))
