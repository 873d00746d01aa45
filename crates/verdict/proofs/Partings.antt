-- Two unordered accesses part into different members of one team.
use Prim.Native.Nat.{ℕ, suc, ◌<◌}
use mathlib.Core.Path.{◌≡◌, sym, ◌∙◌, ap, subst}
use mathlib.Core.List.{List, [], ◌∷◌, ◌++◌, append_assoc, Memᴰ}
use mathlib.Core.Option.{some}
use native.Mathlib.Omega.{arith}
use Rattle.bundle.specs.Chunks.{Chunk, chunks_of}
use Rattle.bundle.specs.Walk.{of_region, forks_of}
use Rattle.bundle.specs.Check.{Accepted, fork_of}
use Rattle.bundle.specs.declared.index.Fork.{Fork}
use Rattle.bundle.proofs.Onward.{team-falls}
use Rattle.order.specs.declared.label.Triple.{Triple}
use Rattle.verdict.specs.Graph.{Node, Segment, GraphPath, here, segments_of}
use Rattle.verdict.specs.Accesses.{NamedAccess}
use Rattle.verdict.specs.Lineages.{Holder, holder_of, above_from, lineage}
use Rattle.verdict.specs.Parting.{Parting, UnorderedPart}
use Rattle.verdict.proofs.AccessSegments.{Standing, stands}
use Rattle.verdict.proofs.LineageLaws.{forker, above-forked}
use Rattle.verdict.proofs.LineageTails.{Through, parting}
use Rattle.verdict.proofs.ForkJoin.{ForkJoin, Ahead, after, after-path, ahead-path, path-trans}
use Rattle.verdict.proofs.BundleForkJoin.{fork-join, fork_at_lem, fork-found}
use Rattle.verdict.proofs.LabelPaths.{Peers, peer_same, peer_ahead, peer_behind, peer_aside, own-member, other_member, peers, Down, at, via, down-path, up-path, ended-one, from-root}

-- the REGION that ends a segment
record Forked (fs : List Fork) (p : Segment) (u : ℕ) : Type 0 where
  fork : Fork
  found : fork_of fs u ≡ some fork
  parent : fork.parent ≡ p.node.team
  member : fork.member ≡ p.node.member

-- a chunk of a lineage is the chunk of a segment
record OfChunk (x : Holder) (g : Segment) : Type 0 where
  team : x.team ≡ g.node.team
  member : x.member ≡ g.node.member

module _ {ss : List Segment} {fs : List Fork} (k : ForkJoin ss fs)
    (falls : (f : Fork) → Memᴰ f fs → f.parent < f.team)
    (forked : (p : Segment) (u : ℕ) → Memᴰ p ss → p.ended ≡ of_region u → Forked fs p u) where
  abbrev Path : Segment → Segment → Type 0
  Path g h = GraphPath ss g.node h.node

  -- the first segment on the way down
  abbrev top_of : {t : ℕ} {ts : List Triple} {g : Segment} → Down k t ts g → Segment
  top_of (at {g = g} i e) = g
  top_of (via {p = p} i e o d) = p

  top_in : {t : ℕ} {ts : List Triple} {g : Segment} (d : Down k t ts g) → Memᴰ (top_of d) ss
  top_in (at i e) = i
  top_in (via i e o d) = i

  top-team : {t : ℕ} {ts : List Triple} {g : Segment} (d : Down k t ts g) → (top_of d).node.team ≡ t
  top-team (at i e) = e
  top-team (via i e o d) = e

  -- the way down to a segment is a part of the lineage of its chunk
  through : {t : ℕ} {ts : List Triple} {g : Segment} (d : Down k t ts g) (x : Holder) → OfChunk x g → Through fs (lineage fs x) t (top_of d).node.member
  through (at i e) x w =
      record {
        low = [];
        top = x;
        in_team = w.team ∙ e;
        as_member = w.member;
        whole = unfold lineage in (ap (λ (u : ℕ). x ∷ above_from (suc u) fs u) (w.team ∙ e));
      }
  through (via {t = t} {p = p} {u = u} i e o d) x w =
      let r = through d x w in
      let f = forked p u i o in
      let above : above_from (suc u) fs u ≡ forker f.fork ∷ above_from (suc t) fs t =
      above-forked fs falls u f.found ∙ (unfold lineage in (ap (λ (v : ℕ). forker f.fork ∷ above_from (suc v) fs v) (f.parent ∙ e)))
      in
      record {
        low = r.low ++ (r.top ∷ []);
        top = forker f.fork;
        in_team = f.parent ∙ e;
        as_member = f.member;
        whole =
            r.whole
            ∙ ap (λ (hs : List Holder). r.low ++ (r.top ∷ hs)) above
            ∙ sym (append_assoc r.low (r.top ∷ []) (forker f.fork ∷ above_from (suc t) fs t));
      }

  -- what is ahead in the team reaches, from below it to below it
  reaches : {t : ℕ} {as' bs : List Triple} {g h : Segment} (d : Down k t as' g) (e : Down k t bs h) → Ahead k (top_of d) (top_of e) → Path g h
  reaches (at i e) (at j f) a = ahead-path k i j (e ∙ sym f) a
  reaches (at i e) (via j f o d) a = path-trans (ahead-path k i j (e ∙ sym f) a) (down-path k j o d)
  reaches (via i e n c) (at j f) a = let b = after k i n in path-trans (up-path k b c) (after-path k i j (e ∙ sym f) b a)
  reaches (via i e n c) (via j f o d) a =
      let b = after k i n in
      path-trans (up-path k b c) (path-trans (after-path k i j (e ∙ sym f) b a) (down-path k j o d))

  module _ (x y : Holder) {g h : Segment} (own : OfChunk x g) (their : OfChunk y h) (no-path : Path g h → ⊥) (no-back : Path h g → ⊥) where
    -- in a team they stand in different members, or behind one segment
    part-here :
        {t : ℕ} {as' bs : List Triple} (d : Down k t as' g) (e : Down k t bs h)
        → (top_of d ≡ top_of e → Parting (lineage fs x) (lineage fs y))
        → Parting (lineage fs x) (lineage fs y)
    part-here d e lower = go (peers k (top_in d) (top_in e) (top-team d ∙ sym (top-team e)))
      where
        go : Peers k (top_of d) (top_of e) → Parting (lineage fs x) (lineage fs y)
        go (peer_same w) = lower w
        go (peer_ahead a w) = absurd (no-path (reaches d e a))
        go (peer_behind a w) = absurd (no-back (reaches e d a))
        go (peer_aside s b m) =
            let team = top-team d ∙ sym (top-team e) in
            parting fs falls x y (through d x own) (through e y their)
            (λ q. m (own-member k (top_in d) (top_in e) team ∙ q ∙ sym (other_member k (top_in d) (top_in e) team)))

    -- from one team down
    part : {t : ℕ} {as' bs : List Triple} → Down k t as' g → Down k t bs h → Parting (lineage fs x) (lineage fs y)
    part (at i e) (at j f) =
        part-here (at i e) (at j f) (λ w. absurd (no-path (subst (λ (z : Segment). Path g z) w here)))
    part (at i e) (via j f o d) =
        part-here (at i e) (via j f o d) (λ w. absurd (no-path (subst (λ (z : Segment). Path z h) (sym w) (down-path k j o d))))
    part (via i e n c) (at j f) =
        part-here (via i e n c) (at j f) (λ w. absurd (no-back (subst (λ (z : Segment). Path z g) w (down-path k i n c))))
    part (via i e n c) (via {ts = bs} j f o d) =
        part-here (via i e n c) (via j f o d) (λ w. part c (subst (λ (v : ℕ). Down k v bs h) (sym (ended-one k w n o)) d))

    unordered : Memᴰ g ss → Memᴰ h ss → Parting (lineage fs x) (lineage fs y)
    unordered i j = part (from-root k (suc g.node.team) (omega arith) i) (from-root k (suc h.node.team) (omega arith) j)

-- the segments of an accepted bundle
module _ (s : List ℕ) (ok : Accepted s) where
  abbrev cs : List Chunk
  cs = chunks_of s

  forked-by : (p : Segment) (u : ℕ) → Memᴰ p (segments_of cs) → p.ended ≡ of_region u → Forked (forks_of cs) p u
  forked-by p u m e =
      let f = fork_at_lem s ok m e in
      record { fork = f.0; found = fork-found s ok f.1 f.3; parent = f.2.parent; member = f.2.member }

-- any two accesses of an accepted bundle with no path either way
pub unordered-part : UnorderedPart
unordered-part s ok x y i j no-path no-back =
    unordered (fork-join s ok) (team-falls s ok) (forked-by s ok) (holder_of x) (holder_of y)
    (of-chunk x a)
    (of-chunk y b)
    (λ p. no-path (along a b p))
    (λ p. no-back (along b a p))
    a.present
    b.present
  where
    ss : List Segment
    ss = segments_of (chunks_of s)

    a : Standing ss x
    a = stands (chunks_of s) i

    b : Standing ss y
    b = stands (chunks_of s) j

    of-chunk : (z : NamedAccess) (w : Standing ss z) → OfChunk (holder_of z) w.segment
    of-chunk z w =
        unfold holder_of in
        record {
          team = w.team ∙ ap (λ (n : Node). n.team) (sym w.node);
          member = w.member ∙ ap (λ (n : Node). n.member) (sym w.node);
        }

    along : {z v : NamedAccess} (w : Standing ss z) (u : Standing ss v) → GraphPath ss w.segment.node u.segment.node → GraphPath ss z.node v.node
    along {v = v} w u p = subst (λ (n : Node). GraphPath ss n v.node) w.node (subst (GraphPath ss w.segment.node) u.node p)
