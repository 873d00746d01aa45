-- Labels and paths: comparing the labels of two segments tells whether there is a path.
use Prim.Native.Nat.{ℕ, zero, suc, ◌+◌, ◌*◌, ◌%◌, ◌≤◌, ◌<◌}
use mathlib.Core.Path.{◌≡◌, refl, sym, ◌∙◌, ap, ap₂, subst}
use mathlib.Core.List.{List, [], ◌∷◌, ◌++◌, Memᴰ, append_assoc}
use native.Mathlib.Omega.{arith}
use native.Mathlib.Decide.{dec_lt, ℕ_discrete}
use native.Mathlib.Nat.{mul-zero, mul-suc, mul-le-mul_left, mod-eq_of_lt, add-mod_right}
use mathlib.Core.Bool.{true}
use lib.ListN.{length}
use borrow.Author.Tests.{le-leb, eq-eqb}
use Rattle.bundle.specs.Lists.{all}
use Rattle.bundle.specs.Check.{size_of}
use Rattle.bundle.proofs.Tests.{both}
use Rattle.bundle.specs.declared.index.Fork.{Fork}
use Rattle.order.specs.Labels.{last_triple, fork_label, segment_label, span_ok, root_span}
use Rattle.order.specs.declared.label.Triple.{Triple}
use Rattle.verdict.specs.Graph.{Node, of_chunk, of_barrier, of_region, Segment, Joined, GraphPath, here, step}
use Rattle.order.proofs.TripleOrder.{Earlier, by_interval, by_offset}
use Rattle.order.proofs.LabelOrder.{LabelBefore, shorter, deeper, parted, Apart, apart_deeper, apart_here, before-trans, before-behind, before-longer}
use Rattle.verdict.proofs.ForkJoin.{
  OneChunk,
  Onward,
  at_end,
  at-barrier,
  at_region,
  ForkJoin,
  Ahead,
  fewer_barriers,
  fewer_regions,
  After,
  after,
  after-path,
  ahead-path,
  into,
  out_of,
  path-trans,
  same-state,
  same-node,
}

-- numbers of one span
offset-member : (m z r : ℕ) → m < z → (m + z * r) % z ≡ m
offset-member m z zero h = let e : m + z * 0 ≡ m = omega (arith, mul-zero z) in ap (λ (n : ℕ). n % z) e ∙ mod-eq_of_lt h
offset-member m z (suc r) h =
    let e : m + z * suc r ≡ m + z * r + z = omega (arith, mul-suc z r) in
    ap (λ (n : ℕ). n % z) e ∙ add-mod_right (m + z * r) z ∙ offset-member m z r h

more-offset : (m z r s : ℕ) → m < z → r < s → m + z * r < m + z * s
more-offset m z r s h l = let b : z * suc r ≤ z * s = mul-le-mul_left z l in omega (arith, mul-suc z r)

module _ {ss : List Segment} {fs : List Fork} (k : ForkJoin ss fs) where
  abbrev In : Segment → Type 0
  In g = Memᴰ g ss

  abbrev Path : Segment → Segment → Type 0
  Path g h = GraphPath ss g.node h.node

  abbrev last_of : Segment → Triple
  last_of g = last_triple fs g.node.team g.node.member g.state

  abbrev pub label_of_segment : Segment → List Triple
  label_of_segment g = segment_label fs g.node.team g.node.member g.state

  -- two segments of one team
  pub data Peers (g h : Segment) : Type 0 where
    peer_same : g ≡ h → Peers g h
    peer_ahead : Ahead k g h → Earlier (last_of g) (last_of h) → Peers g h
    peer_behind : Ahead k h g → Earlier (last_of h) (last_of g) → Peers g h
    peer_aside :
        (last_of g).span ≡ (last_of h).span
        → (last_of g).interval ≡ (last_of h).interval
        → ((last_of g).offset % (last_of g).span ≡ (last_of h).offset % (last_of g).span → ⊥)
        → Peers g h

  module _ {g h : Segment} (p : In g) (q : In h) (t : g.node.team ≡ h.node.team) where
    spans : (last_of g).span ≡ (last_of h).span
    unfolding last_triple
    spans = ap (size_of fs) t

    pub own-member : (last_of g).offset % (last_of g).span ≡ g.node.member
    unfolding last_triple
    own-member = offset-member g.node.member (size_of fs g.node.team) g.state.regions (k.member p)

    pub other_member : (last_of h).offset % (last_of g).span ≡ h.node.member
    unfolding last_triple
    other_member =
        ap (λ (z : ℕ). (h.node.member + size_of fs h.node.team * h.state.regions) % z) (ap (size_of fs) t)
        ∙ offset-member h.node.member (size_of fs h.node.team) h.state.regions (k.member q)

    fewer-earlier : g.state.barriers < h.state.barriers → Earlier (last_of g) (last_of h)
    unfolding last_triple
    fewer-earlier l = by_interval spans l

    regions-earlier :
        g.node.member ≡ h.node.member
        → g.state.barriers ≡ h.state.barriers
        → g.state.regions < h.state.regions
        → Earlier (last_of g) (last_of h)
    unfolding last_triple
    regions-earlier m b l =
        by_offset spans b (own-member ∙ m ∙ sym other_member)
        (subst (λ (x : ℕ). g.node.member + size_of fs g.node.team * g.state.regions < x)
        (ap₂ (λ (x z : ℕ). x + z * h.state.regions) m (ap (size_of fs) t))
        (more-offset g.node.member (size_of fs g.node.team) g.state.regions h.state.regions (k.member p) l))

  ahead-earlier : {g h : Segment} → In g → In h → g.node.team ≡ h.node.team → Ahead k g h → Earlier (last_of g) (last_of h)
  ahead-earlier p q t (fewer_barriers l) = fewer-earlier p q t l
  ahead-earlier p q t (fewer_regions m b r) = regions-earlier p q t m b r

  pub peers : {g h : Segment} → In g → In h → g.node.team ≡ h.node.team → Peers g h
  peers {g} {h} p q t =
      go (dec_lt g.state.barriers h.state.barriers) (dec_lt h.state.barriers g.state.barriers) (ℕ_discrete g.node.member h.node.member)
      (dec_lt g.state.regions h.state.regions)
      (dec_lt h.state.regions g.state.regions)
    where
      ahead : Ahead k g h → Peers g h
      ahead a = peer_ahead a (ahead-earlier p q t a)

      behind : Ahead k h g → Peers g h
      behind a = peer_behind a (ahead-earlier q p (sym t) a)

      aside : g.state.barriers ≡ h.state.barriers → (g.node.member ≡ h.node.member → ⊥) → Peers g h
      aside b m = unfold last_triple in (peer_aside (spans p q t) b (λ e. m (sym (own-member p q t) ∙ e ∙ other_member p q t)))

      go :
          Dec (g.state.barriers < h.state.barriers)
          → Dec (h.state.barriers < g.state.barriers)
          → Dec (g.node.member ≡ h.node.member)
          → Dec (g.state.regions < h.state.regions)
          → Dec (h.state.regions < g.state.regions)
          → Peers g h
      go (yes l) b m r s = ahead (fewer_barriers l)
      go (no l) (yes b) m r s = behind (fewer_barriers b)
      go (no l) (no b) (no m) r s = aside (omega arith) m
      go (no l) (no b) (yes m) (yes r) s = ahead (fewer_regions m (omega arith) r)
      go (no l) (no b) (yes m) (no r) (yes s) = behind (fewer_regions (sym m) (omega arith) s)
      go (no l) (no b) (yes m) (no r) (no s) = peer_same (same-state k p q (record { team = t; member = m }) (omega arith) (omega arith))

  -- the triples from a team down to a segment
  pub data Down : ℕ → List Triple → Segment → Type 0 where
    at : {t : ℕ} {g : Segment} → In g → g.node.team ≡ t → Down t (last_of g ∷ []) g
    via : {t : ℕ} {p : Segment} {u : ℕ} {ts : List Triple} {g : Segment} → In p → p.node.team ≡ t → p.ended ≡ of_region u → Down u ts g → Down t (last_of p ∷ ts) g

  down-in : {t : ℕ} {ts : List Triple} {g : Segment} → Down t ts g → In g
  down-in (at i e) = i
  down-in (via i e f d) = down-in d

  -- from the segment that forks the team, and to the one that is opened at the join
  pub down-path : {u : ℕ} {ts : List Triple} {p g : Segment} → In p → p.ended ≡ of_region u → Down u ts g → Path p g
  down-path i e (at j f) = into k i j (e ∙ ap of_region (sym f))
  down-path i e (via j f o d) = path-trans (into k i j (e ∙ ap of_region (sym f))) (down-path j o d)

  pub up-path : {u : ℕ} {ts : List Triple} {p g : Segment} (a : After k p u) → Down u ts g → Path g a.next
  up-path a (at j f) = out_of k j f a
  up-path a (via j f o d) =
      let b = after k j o in
      path-trans (up-path b d) (out_of k b.present (sym b.chunk.team ∙ f) a)

  -- how two labels from one team on, and their segments, stand to each other
  pub data Related (as' bs : List Triple) (g h : Segment) : Type 0 where
    related_same : as' ≡ bs → g ≡ h → Related as' bs g h
    related_before : LabelBefore as' bs → Path g h → Related as' bs g h
    related_after : LabelBefore bs as' → Path h g → Related as' bs g h
    related_apart : Apart as' bs → Related as' bs g h

  pub ended-one : {u v : ℕ} {p q : Segment} → p ≡ q → p.ended ≡ of_region u → q.ended ≡ of_region v → u ≡ v
  ended-one {u} {v} e f g = let w : of_region u ≡ of_region v = sym f ∙ ap (λ (x : Segment). x.ended) e ∙ g in cc

  lifted : {a b : Triple} {as' bs : List Triple} {g h : Segment} → a ≡ b → Related as' bs g h → Related (a ∷ as') (b ∷ bs) g h
  lifted e (related_same f q) = related_same (ap₂ (λ (x : Triple) (l : List Triple). x ∷ l) e f) q
  lifted e (related_before f p) = related_before (deeper e f) p
  lifted e (related_after f p) = related_after (deeper (sym e) f) p
  lifted e (related_apart f) = related_apart (apart_deeper e f)

  related : {t : ℕ} {as' bs : List Triple} {g h : Segment} → Down t as' g → Down t bs h → Related as' bs g h
  related (at {g = g} i e) (at {g = h} j f) = go (peers i j (e ∙ sym f))
    where
      go : Peers g h → Related (last_of g ∷ []) (last_of h ∷ []) g h
      go (peer_same q) = related_same (ap (λ (x : Segment). last_of x ∷ []) q) q
      go (peer_ahead a q) = related_before (parted q) (ahead-path k i j (e ∙ sym f) a)
      go (peer_behind a q) = related_after (parted q) (ahead-path k j i (f ∙ sym e) a)
      go (peer_aside s b m) = related_apart (apart_here s b m)
  related (at {g = g} i e) (via {p = q} {u = v} {ts = bs} {g = h} j f o d) = go (peers i j (e ∙ sym f))
    where
      go : Peers g q → Related (last_of g ∷ []) (last_of q ∷ bs) g h
      go (peer_same w) = related_before (deeper (ap last_of w) (some_below d)) (subst (λ (x : Segment). Path x h) (sym w) (down-path j o d))
        where
          some_below : {u : ℕ} {ts : List Triple} {x : Segment} → Down u ts x → LabelBefore [] ts
          some_below (at a b) = shorter
          some_below (via a b c r) = shorter
      go (peer_ahead a w) = related_before (parted w) (path-trans (ahead-path k i j (e ∙ sym f) a) (down-path j o d))
      go (peer_behind a w) =
          let b = after k j o in
          related_after (parted w) (path-trans (up-path b d) (after-path k j i (f ∙ sym e) b a))
      go (peer_aside s b m) = related_apart (apart_here s b m)
  related (via {p = p} {u = u} {ts = as'} {g = g} i e n c) (at {g = h} j f) = go (peers i j (e ∙ sym f))
    where
      go : Peers p h → Related (last_of p ∷ as') (last_of h ∷ []) g h
      go (peer_same w) = related_after (deeper (ap last_of (sym w)) (some_below c)) (subst (λ (x : Segment). Path x g) w (down-path i n c))
        where
          some_below : {u : ℕ} {ts : List Triple} {x : Segment} → Down u ts x → LabelBefore [] ts
          some_below (at a b) = shorter
          some_below (via a b c r) = shorter
      go (peer_ahead a w) =
          let b = after k i n in
          related_before (parted w) (path-trans (up-path b c) (after-path k i j (e ∙ sym f) b a))
      go (peer_behind a w) = related_after (parted w) (path-trans (ahead-path k j i (f ∙ sym e) a) (down-path i n c))
      go (peer_aside s b m) = related_apart (apart_here s b m)
  related (via {p = p} {u = u} {ts = as'} {g = g} i e n c) (via {p = q} {u = v} {ts = bs} {g = h} j f o d) =
      go (peers i j (e ∙ sym f)) (λ w. related c (subst (λ (x : ℕ). Down x bs h) (sym (ended-one w n o)) d))
    where
      go : Peers p q → (p ≡ q → Related as' bs g h) → Related (last_of p ∷ as') (last_of q ∷ bs) g h
      go (peer_same w) ih = lifted (ap last_of w) (ih w)
      go (peer_ahead a w) ih =
          let b = after k i n in
          related_before (parted w) (path-trans (up-path b c) (path-trans (after-path k i j (e ∙ sym f) b a) (down-path j o d)))
      go (peer_behind a w) ih =
          let b = after k j o in
          related_after (parted w) (path-trans (up-path b d) (path-trans (after-path k j i (f ∙ sym e) b a) (down-path i n c)))
      go (peer_aside s b m) ih = related_apart (apart_here s b m)

  -- the label of each segment is such a list, from the root
  extend : {t : ℕ} {ts : List Triple} {p g : Segment} → Down t ts p → p.ended ≡ of_region g.node.team → In g → Down t (ts ++ (last_of g ∷ [])) g
  extend (at i e) f j = via i e f (at j refl)
  extend (via i e o d) f j = via i e o (extend d f j)

  root-one : (g : Segment) → g.node.team ≡ 0 → label_of_segment g ≡ last_of g ∷ []
  unfolding segment_label
  root-one g e = ap (λ (l : List Triple). l ++ (last_of g ∷ [])) (ap (λ (t : ℕ). fork_label (suc t) fs t) e ∙ k.root_label)

  forked-one : (p g : Segment) {t : ℕ} → In p → p.ended ≡ of_region t → g.node.team ≡ t → label_of_segment g ≡ label_of_segment p ++ (last_of g ∷ [])
  unfolding segment_label
  forked-one p g {t} i e f =
      ap (λ (l : List Triple). l ++ (last_of g ∷ []))
      (ap (λ (u : ℕ). fork_label (suc u) fs u) f ∙ (unfold segment_label in (k.fork-label i e)))

  pub from-root : (n : ℕ) {g : Segment} → g.node.team < n → In g → Down 0 (label_of_segment g) g
  from-root zero h i = absurd (omega arith)
  from-root (suc n) {g} h i = go (λ p l j. from-root n {g = p} l j) (ℕ_discrete g.node.team 0)
    where
      go : ((p : Segment) → p.node.team < n → In p → Down 0 (label_of_segment p) p) → Dec (g.node.team ≡ 0) → Down 0 (label_of_segment g) g
      go ih (yes e) = subst (λ (l : List Triple). Down 0 l g) (sym (root-one g e)) (at i e)
      go ih (no e) =
          let p = k.parent i e in
          let b = p.below in
          subst (λ (l : List Triple). Down 0 l g) (sym (forked-one p.segment g p.present p.ended refl)) (extend (ih p.segment (omega arith) p.present) p.ended i)

  -- labels to paths
  pub compared : {g h : Segment} → In g → In h → Related (label_of_segment g) (label_of_segment h) g h
  compared {g} {h} i j = related (from-root (suc g.node.team) (omega arith) i) (from-root (suc h.node.team) (omega arith) j)

  -- paths to labels: each edge goes to a label that its own is before
  team-before : (g h : Segment) → g.node.team ≡ h.node.team → Earlier (last_of g) (last_of h) → LabelBefore (label_of_segment g) (label_of_segment h)
  unfolding segment_label
  team-before g h t e =
      subst (λ (l : List Triple). LabelBefore (label_of_segment g) (l ++ (last_of h ∷ []))) (ap (λ (u : ℕ). fork_label (suc u) fs u) t)
      (before-behind (fork_label (suc g.node.team) fs g.node.team) (parted e))

  grown-before :
      (g h : Segment) (x : Triple)
      → g.node.team ≡ h.node.team
      → Earlier (last_of g) (last_of h)
      → LabelBefore (label_of_segment g ++ (x ∷ [])) (label_of_segment h)
  unfolding segment_label
  grown-before g h x t e =
      let front = fork_label (suc g.node.team) fs g.node.team in
      subst (λ (l : List Triple). LabelBefore l (label_of_segment h)) (sym (append_assoc front (last_of g ∷ []) (x ∷ [])))
      (subst (λ (l : List Triple). LabelBefore (front ++ (last_of g ∷ x ∷ [])) (l ++ (last_of h ∷ []))) (ap (λ (u : ℕ). fork_label (suc u) fs u) t)
      (before-behind front (parted e)))

  next-before : {g h : Segment} → In g → In h → OneChunk g h → h.node.number ≡ suc g.node.number → LabelBefore (label_of_segment g) (label_of_segment h)
  next-before {g} {h} i j c e = team-before g h c.team (ahead-earlier i j c.team (go (k.onward i)))
    where
      apart-by-one : g.node.number ≡ g.state.barriers + g.state.regions
      apart-by-one = k.number i

      is-next : (n : Segment) → In n → OneChunk g n → n.state.barriers + n.state.regions ≡ suc (g.state.barriers + g.state.regions) → n ≡ h
      is-next n l d q =
          let one : OneChunk n h = record { team = sym d.team ∙ c.team; member = sym d.member ∙ c.member } in
          k.one l j
          (same-node k one
          (k.number l ∙ q ∙ ap suc (sym apart-by-one) ∙ sym e))

      go : Onward ss g → Ahead k g h
      go (at_end f most) = absurd (let z = most h j c in omega arith)
      go (at-barrier n l d f b r) =
          let q = ap (λ (x : Segment). x.state.barriers) (is-next n l d (omega arith)) in
          fewer_barriers (omega arith)
      go (at_region u n l d f o b r) =
          let w = is-next n l d (omega arith) in
          let q = ap (λ (x : Segment). x.state.barriers) w in
          let s = ap (λ (x : Segment). x.state.regions) w in
          fewer_regions c.member (omega arith) (omega arith)

  ended-barriers : {g : Segment} {i : ℕ} → In g → g.ended ≡ of_barrier i → g.state.barriers ≡ i
  ended-barriers {g} {i} l e = go (k.onward l)
    where
      go : Onward ss g → g.state.barriers ≡ i
      go (at_end f most) = absurd (let w : of_chunk ≡ of_barrier i = sym f ∙ e in let x : ◌≡◌ {A = ℕ} 0 1 = cc in omega arith)
      go (at-barrier n j d f b r) = let w : of_barrier g.state.barriers ≡ of_barrier i = sym f ∙ e in cc
      go (at_region u n j d f o b r) = absurd (let w : of_region u ≡ of_barrier i = sym f ∙ e in let x : ◌≡◌ {A = ℕ} 0 1 = cc in omega arith)

  edge-before : {g h : Segment} → In g → In h → Joined g h → LabelBefore (label_of_segment g) (label_of_segment h)
  edge-before i j (Joined.next t m n) = next-before i j (record { team = t; member = m }) n
  edge-before {g} {h} i j (Joined.fork e z) =
      subst (LabelBefore (label_of_segment g)) (sym (forked-one g h i e refl)) (before-longer (label_of_segment g) (last_of h))
  edge-before {g} {h} i j (Joined.join e o) =
      let p = k.opened_region j o in
      let t = p.chunk.team in
      let earlier = ahead-earlier p.present j t (fewer_regions p.chunk.member (sym p.barriers) (let r = p.regions in omega arith)) in
      subst (λ (l : List Triple). LabelBefore l (label_of_segment h)) (sym (forked-one p.by g p.present p.ended refl))
      (grown-before p.by h (last_of g) t earlier)
  edge-before {g} {h} i j (Joined.barrier n t e o) =
      team-before g h t (ahead-earlier i j t (fewer_barriers (let a = ended-barriers i e in let b = k.opened_barrier j o in omega arith)))
  edge-before {g} {h} i j (Joined.missing n t e l o) =
      team-before g h (sym t) (ahead-earlier i j (sym t) (fewer_barriers (let b = k.opened_barrier j o in omega arith)))

  -- a path goes to the same label, or to one that its first is before
  pub data Leads (g h : Segment) : Type 0 where
    leads_same : g ≡ h → Leads g h
    leads_before : LabelBefore (label_of_segment g) (label_of_segment h) → Leads g h

  path-label : {g : Segment} {b : Node} → In g → GraphPath ss g.node b → (h : Segment) → In h → h.node ≡ b → Leads g h
  path-label i here h j e = leads_same (k.one i j (sym e))
  path-label {g} i (step p x) h j e = go (path-label i p x.from x.from_in x.from_node)
    where
      to-h : x.to ≡ h
      to-h = k.one x.to_in j (x.to_node ∙ sym e)

      onto : LabelBefore (label_of_segment x.from) (label_of_segment h)
      onto = subst (λ (y : Segment). LabelBefore (label_of_segment x.from) (label_of_segment y)) to-h (edge-before x.from_in x.to_in x.joined)

      go : Leads g x.from → Leads g h
      go (leads_same q) = leads_before (subst (λ (y : Segment). LabelBefore (label_of_segment y) (label_of_segment h)) (sym q) onto)
      go (leads_before r) = leads_before (before-trans r onto)

  pub leads : {g h : Segment} → In g → In h → Path g h → Leads g h
  leads {g} {h} i j p = path-label i p h j refl

  -- each triple of a label has the size of a team for its span, and the first is the root's
  module _ (small : (t : ℕ) → size_of fs t ≤ 64) (root : size_of fs 0 ≡ 1) where
    span-good : {g : Segment} → In g → span_ok (last_of g) ≡ true
    unfolding span_ok last_triple
    span-good {g} i =
        let z : ℕ = size_of fs g.node.team in
        let some = k.member i in
        both (le-leb 1 z (omega arith)) (le-leb z 64 (small g.node.team))

    spans-good : {t : ℕ} {ts : List Triple} {g : Segment} → Down t ts g → all span_ok ts ≡ true
    spans-good (at i e) = both (span-good i) refl
    spans-good (via i e f d) = both (span-good i) (spans-good d)

    root-good : {ts : List Triple} {g : Segment} → Down 0 ts g → root_span ts ≡ true
    unfolding root_span last_triple
    root-good (at {g = g} i e) = eq-eqb (size_of fs g.node.team) 1 (ap (size_of fs) e ∙ root)
    root-good (via {p = p} i e f d) = eq-eqb (size_of fs p.node.team) 1 (ap (size_of fs) e ∙ root)

    some-triples : {t : ℕ} {ts : List Triple} {g : Segment} → Down t ts g → 1 ≤ length ts
    some-triples (at i e) = omega arith
    some-triples (via i e f d) = omega arith

    pub label-spans : {g : Segment} → In g → (1 ≤ length (label_of_segment g)) × (all span_ok (label_of_segment g) ≡ true) × (root_span (label_of_segment g) ≡ true)
    label-spans {g} i = let d = from-root (suc g.node.team) (omega arith) i in (some-triples d, spans-good d, root-good d)
