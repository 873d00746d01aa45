-- The graph's edges and paths as tests that compute. What edges and paths are stands in `Graph`; laws of `proofs/Reachability` say that the
-- tests agree with it.
use Rattle.std.specs.Prelude.{ℕ, suc, Bool, true, false, not, ◌&&◌, ◌||◌, List, [], ◌∷◌, ◌++◌, map, eqb, leb}
use Rattle.bundle.specs.Lists.{any, passing, concat_map}
use Rattle.bundle.specs.Walk.{Node, Border, of_chunk, of_barrier, of_region, Segment}

-- equal nodes, and equal borders
unfoldable pub same_node : Node → Node → Bool
same_node a b = eqb a.team b.team && eqb a.member b.member && eqb a.number b.number

unfoldable pub same_border : Border → Border → Bool
same_border of_chunk of_chunk = true
same_border of_chunk (of_barrier n) = false
same_border of_chunk (of_region t) = false
same_border (of_barrier n) of_chunk = false
same_border (of_barrier n) (of_barrier i) = eqb n i
same_border (of_barrier n) (of_region t) = false
same_border (of_region t) of_chunk = false
same_border (of_region t) (of_barrier n) = false
same_border (of_region t) (of_region u) = eqb t u

unfoldable pub is_barrier : Border → Bool
is_barrier of_chunk = false
is_barrier (of_barrier n) = true
is_barrier (of_region t) = false

-- a barrier whose number is not below k
unfoldable pub barrier_from : ℕ → Border → Bool
barrier_from k of_chunk = false
barrier_from k (of_barrier n) = leb k n
barrier_from k (of_region t) = false

-- `Joined` as a test, one line for each of its cases: by joins-true and joined-joins the same
unfoldable pub joins : Segment → Segment → Bool
joins a b =
    eqb a.node.team b.node.team
    && eqb a.node.member b.node.member
    && eqb b.node.number (suc a.node.number)
    || same_border a.ended (of_region b.node.team) && eqb b.node.number 0
    || same_border a.ended of_chunk && same_border b.opened (of_region a.node.team)
    || eqb a.node.team b.node.team && is_barrier a.ended && same_border a.ended b.opened
    || eqb b.node.team a.node.team && same_border a.ended of_chunk && barrier_from a.state.barriers b.opened

-- a pair of nodes
pub record NodePair : Type 0 where
  pub from : Node
  pub to : Node

unfoldable pub same_pair : NodePair → NodePair → Bool
same_pair p q = same_node p.from q.from && same_node p.to q.to

unfoldable pub linked : List NodePair → Node → Node → Bool
linked ps a b = any (same_pair (record { from = a; to = b })) ps

-- `Edge` as pairs of nodes: by edge-linked the same
unfoldable pub edges_of : List Segment → List NodePair
edges_of ss =
    concat_map (λ (a : Segment). map (λ (b : Segment). record { from = a.node; to = b.node }) (passing (joins a) ss)) ss

-- one pass of Warshall's algorithm: the pairs, and those that are joined through the node k
unfoldable pub through : List NodePair → Node → List NodePair
through ps k =
    passing (λ (q : NodePair). not (linked ps q.from q.to))
    (concat_map
    (λ (p : NodePair).
    map (λ (q : NodePair). record { from = p.from; to = q.to }) (passing (λ (q : NodePair). same_node q.from k) ps))
    (passing (λ (p : NodePair). same_node p.to k) ps))
    ++ ps

unfoldable pub closed : List NodePair → List Node → List NodePair
closed ps [] = ps
closed ps (k ∷ ks) = closed (through ps k) ks

-- `GraphPath` as a test, the closure over all nodes, or the empty path: by reaches-path and path-reaches the same
unfoldable pub closure_of : List Segment → List NodePair
closure_of ss = closed (edges_of ss) (map (λ (s : Segment). s.node) ss)

unfoldable pub reaches : List NodePair → Node → Node → Bool
reaches closure a b = same_node a b || linked closure a b
