-- Reaching in the graph: the tests say what the relations say, and Warshall's closure has exactly the paths.
use Prim.Native.Nat.{ℕ, suc, ◌≤◌}
use mathlib.Core.Path.{◌≡◌, refl, sym, ◌∙◌, ap, subst}
use mathlib.Core.Logic.{◌↔◌, ◌⊎◌, inl, inr, ⊎_elim}
use mathlib.Core.Bool.{Bool, true, not, ◌&&◌, ◌||◌, or-true}
use mathlib.Core.List.Memᴰ
use mathlib.Core.List.{List, [], ◌∷◌, map, Memᴰ}
use lib.Dec.{eqb}
use borrow.Author.Tests.{eqb-true, eq-eqb, leb-true, le-leb}
use Rattle.bundle.specs.Lists.{passing, concat_map}
use Rattle.bundle.proofs.Tests.{false-is-true, both, and_left, and_right, or_cases, or-one, or-other, decide, not_of_false, same_test}
use Rattle.bundle.proofs.ListLaws.{any-elim, any-intro, passing-elim, passing-intro, concat_map-elim, concat_map-intro}
use Rattle.verdict.specs.Graph.{Node, Border, of_chunk, of_barrier, of_region, Segment, Joined, next, fork, join, barrier, missing, Edge, GraphPath, here, step}
use Rattle.verdict.specs.GraphTests.{same_node, same_border, is_barrier, barrier_from, joins, NodePair, same_pair, linked, edges_of, through, closed, closure_of, reaches}

-- tests and records in parts
all_three : (a b c : Bool) → (a && b && c) ≡ true → (a ≡ true) × (b ≡ true) × (c ≡ true)
all_three a b c e =
    let l = and_left (a && b) c e in
    (and_left a b l, and_right a b l, and_right (a && b) c e)

node-eq : {a b : Node} → a.team ≡ b.team → a.member ≡ b.member → a.number ≡ b.number → a ≡ b
node-eq t m n = λ i. record { team = t i; member = m i; number = n i }

-- equal nodes
pub same_node-true : (a b : Node) → same_node a b ≡ true → a ≡ b
unfolding same_node
same_node-true a b e =
    let t = all_three (eqb a.team b.team) (eqb a.member b.member) (eqb a.number b.number) e in
    node-eq (eqb-true _ _ t.0) (eqb-true _ _ t.1) (eqb-true _ _ t.2)

pub eq-same_node : (a b : Node) → a ≡ b → same_node a b ≡ true
unfolding same_node
eq-same_node a b e =
    rw e (both (both (eq-eqb b.team _ refl) (eq-eqb b.member _ refl)) (eq-eqb b.number _ refl))

-- equal borders
pub same_border-true : (a b : Border) → same_border a b ≡ true → a ≡ b
unfolding same_border
same_border-true of_chunk of_chunk e = refl
same_border-true of_chunk (of_barrier n) e = false-is-true e
same_border-true of_chunk (of_region t) e = false-is-true e
same_border-true (of_barrier n) of_chunk e = false-is-true e
same_border-true (of_barrier n) (of_barrier i) e = ap of_barrier (eqb-true n i e)
same_border-true (of_barrier n) (of_region t) e = false-is-true e
same_border-true (of_region t) of_chunk e = false-is-true e
same_border-true (of_region t) (of_barrier n) e = false-is-true e
same_border-true (of_region t) (of_region u) e = ap of_region (eqb-true t u e)

same_border-self : (a : Border) → same_border a a ≡ true
unfolding same_border
same_border-self of_chunk = refl
same_border-self (of_barrier n) = eq-eqb n n refl
same_border-self (of_region t) = eq-eqb t t refl

pub eq-same_border : (a b : Border) → a ≡ b → same_border a b ≡ true
eq-same_border a b e = rw e (same_border-self b)

-- a border that is a barrier has a number
barrier-number : (o : Border) → is_barrier o ≡ true → (n : ℕ) × (o ≡ of_barrier n)
unfolding is_barrier
barrier-number of_chunk e = false-is-true e
barrier-number (of_barrier n) e = (n, refl)
barrier-number (of_region t) e = false-is-true e

-- a barrier from a number on has such a number
from-number : (k : ℕ) (o : Border) → barrier_from k o ≡ true → (n : ℕ) × (k ≤ n) × (o ≡ of_barrier n)
unfolding barrier_from
from-number k of_chunk e = false-is-true e
from-number k (of_barrier n) e = (n, leb-true k n e, refl)
from-number k (of_region t) e = false-is-true e

number-from : {k n : ℕ} {o : Border} → k ≤ n → o ≡ of_barrier n → barrier_from k o ≡ true
unfolding barrier_from
number-from {k} {n} h e = rw e (le-leb k n h)

-- the test for an edge, its five cases by name
module _ (a b : Segment) where
  abbrev is_next : Bool
  is_next =
      eqb a.node.team b.node.team
      && eqb a.node.member b.node.member
      && eqb b.node.number (suc a.node.number)

  abbrev is_fork : Bool
  is_fork = same_border a.ended (of_region b.node.team) && eqb b.node.number 0

  abbrev is_join : Bool
  is_join = same_border a.ended of_chunk && same_border b.opened (of_region a.node.team)

  abbrev at_barrier : Bool
  at_barrier = eqb a.node.team b.node.team && is_barrier a.ended && same_border a.ended b.opened

  abbrev is_missing : Bool
  is_missing = eqb b.node.team a.node.team && same_border a.ended of_chunk && barrier_from a.state.barriers b.opened

  is_next-true : is_next ≡ true → Joined a b
  is_next-true e =
      let t =
      all_three
      (eqb a.node.team b.node.team)
      (eqb a.node.member b.node.member)
      (eqb b.node.number (suc a.node.number))
      e
      in
      next (eqb-true _ _ t.0) (eqb-true _ _ t.1) (eqb-true _ _ t.2)

  is_fork-true : is_fork ≡ true → Joined a b
  is_fork-true e =
      let ended = same_border a.ended (of_region b.node.team) in
      let number = eqb b.node.number 0 in
      fork (same_border-true _ _ (and_left ended number e)) (eqb-true _ _ (and_right ended number e))

  is_join-true : is_join ≡ true → Joined a b
  is_join-true e =
      let ended = same_border a.ended of_chunk in
      let opened = same_border b.opened (of_region a.node.team) in
      join (same_border-true _ _ (and_left ended opened e)) (same_border-true _ _ (and_right ended opened e))

  at_barrier-true : at_barrier ≡ true → Joined a b
  at_barrier-true e =
      let t = all_three (eqb a.node.team b.node.team) (is_barrier a.ended) (same_border a.ended b.opened) e in
      let n = barrier-number a.ended t.1 in
      barrier n.0 (eqb-true _ _ t.0) n.1 (sym (same_border-true _ _ t.2) ∙ n.1)

  is_missing-true : is_missing ≡ true → Joined a b
  is_missing-true e =
      let t = all_three (eqb b.node.team a.node.team) (same_border a.ended of_chunk) (barrier_from a.state.barriers b.opened) e in
      let n = from-number a.state.barriers b.opened t.2 in
      missing n.0 (eqb-true _ _ t.0) (same_border-true _ _ t.1) n.1 n.2

  pub joins_true : joins a b ≡ true → Joined a b
  unfolding joins
  joins_true e =
      ⊎_elim
      (λ m.
      ⊎_elim
      (λ l.
      ⊎_elim
      (λ k. ⊎_elim is_next-true is_fork-true (or_cases is_next is_fork k))
      is_join-true
      (or_cases (is_next || is_fork) is_join l))
      at_barrier-true
      (or_cases (is_next || is_fork || is_join) at_barrier m))
      is_missing-true
      (or_cases (is_next || is_fork || is_join || at_barrier) is_missing e)

  pub joined-joins : Joined a b → joins a b ≡ true
  unfolding joins is_barrier
  joined-joins (next t m n) = simp (eq-eqb _ _ t, eq-eqb _ _ m, eq-eqb _ _ n)
  joined-joins (fork e n) = simp (eq-same_border _ _ e, eq-eqb _ _ n, or-true)
  joined-joins (join e o) = simp (eq-same_border _ _ e, eq-same_border _ _ o, or-true)
  joined-joins (barrier n t e o) = simp (eq-eqb _ _ t, ap is_barrier e, eq-same_border _ _ (e ∙ sym o), or-true)
  joined-joins (missing n t e h o) = simp (eq-eqb _ _ t, eq-same_border _ _ e, number-from h o, or-true)

abbrev pub pair_of : Node → Node → NodePair
pair_of a b = record { from = a; to = b }

pair_eq : {a b : Node} {p : NodePair} → a ≡ p.from → b ≡ p.to → pair_of a b ≡ p
pair_eq e f = λ i. record { from = e i; to = f i }

-- a pair that is linked is in the list
pub linked-elim : (ps : List NodePair) (a b : Node) → linked ps a b ≡ true → Memᴰ (pair_of a b) ps
unfolding linked same_pair
linked-elim ps a b e =
    let m = any-elim (same_pair (pair_of a b)) ps e in
    let from = same_node a m.element.from in
    let to = same_node b m.element.to in
    Memᴰ.cast
    (pair_eq (same_node-true _ _ (and_left from to m.passes)) (same_node-true _ _ (and_right from to m.passes)))
    m.present

pub linked-intro : {ps : List NodePair} (a b : Node) → Memᴰ (pair_of a b) ps → linked ps a b ≡ true
unfolding linked same_pair
linked-intro a b m = any-intro (same_pair (pair_of a b)) m (both (eq-same_node a a refl) (eq-same_node b b refl))

-- a pair of the list of edges is an edge
module _ (ss : List Segment) where
  abbrev edges_from : Segment → List NodePair
  edges_from a = map (λ (b : Segment). pair_of a.node b.node) (passing (joins a) ss)

  edge-elim : (p : NodePair) → Memᴰ p (edges_of ss) → Edge ss p.from p.to
  unfolding edges_of
  edge-elim p m =
      let a = concat_map-elim edges_from ss m in
      let b = Memᴰ.of_map (λ (b : Segment). pair_of a.source.node b.node) (passing (joins a.source) ss) a.gives in
      let f = passing-elim (joins a.source) ss b.1 in
      record {
        from = a.source;
        to = b.0;
        from_in = a.present;
        to_in = f.0;
        from_node = ap (λ (q : NodePair). q.from) b.2;
        to_node = ap (λ (q : NodePair). q.to) b.2;
        joined = joins_true a.source b.0 f.1;
      }

  edge-intro : (p : NodePair) → Edge ss p.from p.to → Memᴰ p (edges_of ss)
  unfolding edges_of
  edge-intro p e =
      Memᴰ.cast
      (sym (pair_eq e.from_node e.to_node))
      (concat_map-intro
      edges_from
      e.from_in
      (Memᴰ.map
      (λ (b : Segment). pair_of e.from.node b.node)
      (passing-intro (joins e.from) e.to_in (joined-joins e.from e.to e.joined))))

  pub edge-linked : (p : NodePair) → Memᴰ p (edges_of ss) ↔ Edge ss p.from p.to
  edge-linked p = (edge-elim p, edge-intro p)

-- paths
module _ {ss : List Segment} where
  pub edge-path : {a b : Node} → Edge ss a b → GraphPath ss a b
  edge-path e = step here e

  pub path-trans : {a b c : Node} → GraphPath ss a b → GraphPath ss b c → GraphPath ss a c
  path-trans p here = p
  path-trans p (step q e) = step (path-trans p q) e

  pub path-eq : {a b : Node} → a ≡ b → GraphPath ss a b
  path-eq {a} e = subst (GraphPath ss a) e here

  -- a path is empty or begins with an edge
  pub path-first : {a c : Node} → GraphPath ss a c → (a ≡ c) ⊎ ((b : Node) × Edge ss a b × GraphPath ss b c)
  path-first here = inl refl
  path-first {a} {c} (step {b = b} p e) = go (path-first p)
    where
      go : (a ≡ b) ⊎ ((d : Node) × Edge ss a d × GraphPath ss d b) → (a ≡ c) ⊎ ((d : Node) × Edge ss a d × GraphPath ss d c)
      go (inl q) = inr (c, rw q e, here)
      go (inr f) = inr (f.0, f.1, step f.2 e)

-- one pass of the algorithm: its tests and lists by name, and the pairs it gives
module _ (ps : List NodePair) (k : Node) where
  abbrev to_k : NodePair → Bool
  to_k p = same_node p.to k

  abbrev from_k : NodePair → Bool
  from_k q = same_node q.from k

  abbrev is_new : NodePair → Bool
  is_new q = not (linked ps q.from q.to)

  abbrev onward : NodePair → List NodePair
  onward p = map (λ (q : NodePair). pair_of p.from q.to) (passing from_k ps)

  abbrev joined_at : List NodePair
  joined_at = concat_map onward (passing to_k ps)

  through-keeps : {p : NodePair} → Memᴰ p ps → Memᴰ p (through ps k)
  unfolding through
  through-keeps m = Memᴰ.append_right (passing is_new joined_at) m

  through-joins : (a b : Node) → Memᴰ (pair_of a k) ps → Memᴰ (pair_of k b) ps → Memᴰ (pair_of a b) (through ps k)
  unfolding through
  through-joins a b l m =
      let self = eq-same_node k k refl in
      let both-in = concat_map-intro onward (passing-intro to_k l self) (Memᴰ.map (λ (q : NodePair). pair_of a q.to) (passing-intro from_k m self)) in
      ⊎_elim
      (λ t. through-keeps (linked-elim ps a b t))
      (λ t. Memᴰ.append_left ps (passing-intro is_new both-in (not_of_false t)))
      (decide (linked ps a b))

  joined_at-elim : (a b : Node) → Memᴰ (pair_of a b) joined_at → Memᴰ (pair_of a k) ps × Memᴰ (pair_of k b) ps
  joined_at-elim a b m =
      let p = concat_map-elim onward (passing to_k ps) m in
      let l = passing-elim to_k ps p.present in
      let q = Memᴰ.of_map (λ (q : NodePair). pair_of p.source.from q.to) (passing from_k ps) p.gives in
      let r = passing-elim from_k ps q.1 in (
        Memᴰ.cast (pair_eq (sym (ap (λ (p : NodePair). p.from) q.2)) (sym (same_node-true _ _ l.1))) l.0,
        Memᴰ.cast (pair_eq (sym (same_node-true _ _ r.1)) (sym (ap (λ (p : NodePair). p.to) q.2))) r.0,
      )

  through-cases :
      (a b : Node)
      → Memᴰ (pair_of a b) (through ps k)
      → Memᴰ (pair_of a b) ps ⊎ Memᴰ (pair_of a k) ps × Memᴰ (pair_of k b) ps
  unfolding through
  through-cases a b m =
      ⊎_elim
      (λ l. inr (joined_at-elim a b (passing-elim is_new joined_at l).0))
      inl
      (Memᴰ.append_cases (passing is_new joined_at) m)

  -- a pair that ends at k was there before
  through-to : (a : Node) → Memᴰ (pair_of a k) (through ps k) → Memᴰ (pair_of a k) ps
  through-to a m = ⊎_elim (λ l. l) (λ l. l.0) (through-cases a k m)

-- what the closure links has a path, if the pairs have
closed-path :
    (ss : List Segment) (ps : List NodePair) (ks : List Node)
    → ((a b : Node) → Memᴰ (pair_of a b) ps → GraphPath ss a b)
    → (a b : Node)
    → Memᴰ (pair_of a b) (closed ps ks)
    → GraphPath ss a b
unfolding closed
closed-path ss ps [] h = h
closed-path ss ps (k ∷ ks) h =
    closed-path ss (through ps k) ks
    (λ a b m. ⊎_elim (h a b) (λ l. path-trans (h a k l.0) (h k b l.1)) (through-cases ps k a b m))

-- a path of pairs whose nodes in between are of the list
data Via (ps : List NodePair) (ks : List Node) (a : Node) : Node → Type 0 where
  one : {b : Node} → Memᴰ (pair_of a b) ps → Via ps ks a b
  more : {b c : Node} → Via ps ks a b → Memᴰ b ks → Memᴰ (pair_of b c) ps → Via ps ks a c

via-extend : {ps : List NodePair} {ks : List Node} {k a c : Node} → Via (through ps k) ks a k → Memᴰ (pair_of k c) ps → Via (through ps k) ks a c
via-extend {ps} {k = k} {a} {c} (one m) e = one (through-joins ps k a c (through-to ps k a m) e)
via-extend {ps} {k = k} {c = c} (more {b = b} v l m) e = more v l (through-joins ps k b c (through-to ps k b m) e)

-- one node less in between
via-through : {ps : List NodePair} {ks : List Node} {k a b : Node} → Via ps (k ∷ ks) a b → Via (through ps k) ks a b
via-through {ps} {k = k} (one m) = one (through-keeps ps k m)
via-through {ps} {ks} {k} {a} (more {b = b} {c = c} v l m) =
    let u : Via (through ps k) ks a b = via-through v in
    ⊎_elim
    (λ q. via-extend (rw q at u) (rw q at m))
    (λ r. more u r (through-keeps ps k m))
    (Memᴰ.cases_cons l)

via-closed : (ps : List NodePair) (ks : List Node) {a b : Node} → Via ps ks a b → Memᴰ (pair_of a b) (closed ps ks)
unfolding closed
via-closed ps [] (one m) = m
via-closed ps [] (more v l m) = absurd (Memᴰ.not-nil l)
via-closed ps (k ∷ ks) v = via-closed (through ps k) ks (via-through v)

abbrev nodes_of : List Segment → List Node
nodes_of ss = map (λ (s : Segment). s.node) ss

-- every node in between on a path of edges is one that the closure goes over
module _ (ss : List Segment) where
  path-via : {a b : Node} → GraphPath ss a b → (a ≡ b) ⊎ Via (edges_of ss) (nodes_of ss) a b
  path-via here = inl refl
  path-via {a} {b = c} (step {b = b} p e) = go (path-via p)
    where
      go : (a ≡ b) ⊎ Via (edges_of ss) (nodes_of ss) a b → (a ≡ c) ⊎ Via (edges_of ss) (nodes_of ss) a c
      go (inl q) = inr (one (edge-intro ss (pair_of a c) (rw q e)))
      go (inr v) =
          inr
          (more v
          (Memᴰ.cast (sym e.from_node) (Memᴰ.map (λ (s : Segment). s.node) e.from_in))
          (edge-intro ss (pair_of b c) e))

  module _ (a b : Node) where
    -- the test says whether there is a path
    pub reaches-path : reaches (closure_of ss) a b ≡ true → GraphPath ss a b
    unfolding reaches closure_of
    reaches-path e =
        ⊎_elim
        (λ t. path-eq (same_node-true a b t))
        (λ t.
        closed-path ss (edges_of ss) (nodes_of ss)
        (λ c d m. edge-path (edge-elim ss (pair_of c d) m))
        a b (linked-elim (closure_of ss) a b t))
        (or_cases (same_node a b) (linked (closure_of ss) a b) e)

    pub path-reaches : GraphPath ss a b → reaches (closure_of ss) a b ≡ true
    unfolding reaches closure_of
    path-reaches p =
        ⊎_elim
        (λ q. or-one (linked (closure_of ss) a b) (eq-same_node a b q))
        (λ v. or-other (same_node a b) (linked-intro a b (via-closed (edges_of ss) (nodes_of ss) v)))
        (path-via p)

    -- a test that says the same is the same
    pub reaches-is : (t : Bool) → (t ≡ true → GraphPath ss a b) → (GraphPath ss a b → t ≡ true) → t ≡ reaches (closure_of ss) a b
    reaches-is t f g = same_test t (reaches (closure_of ss) a b) (λ e. path-reaches (f e)) (λ e. g (reaches-path e))
