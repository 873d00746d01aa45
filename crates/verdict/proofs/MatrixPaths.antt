-- The closed matrix and the graph: where the bits were the edges between a list's segments, they now say which segment reaches which.
use Prim.Native.Nat.{ℕ}
use mathlib.Core.Path.{◌≡◌, refl, sym, ◌∙◌, ap, subst}
use mathlib.Core.Bool.{true}
use mathlib.Core.List.{List, map}
use mathlib.Core.Option.{some}
use lib.ListN.{length, get_elem?}
use Rattle.bundle.proofs.ListLaws.{Distinct}
use Rattle.bundle.proofs.SegmentRuns.{node_of}
use Rattle.verdict.specs.Graph.{Node, Segment, GraphPath, here, step}
use Rattle.verdict.specs.Matrix.{bit_at, Walk, stay, along, Closed, EdgeBits, PathBits}
use Rattle.verdict.proofs.ListPlaces.{at_mem, mem-at, at_below, below_at, same_place}
use Rattle.verdict.proofs.Reachability.{joins_true, joined-joins, path-eq, reaches-is}

module _ (ss : List Segment) (distinct : Distinct (map node_of ss)) {before : List ℕ} (edges : EdgeBits ss before) where
  -- a walk along the bits is a path of edges
  walk-path :
      {i j : ℕ} {a b : Segment}
      → get_elem? ss i ≡ some a
      → get_elem? ss j ≡ some b
      → Walk (length ss) (bit_at before) i j
      → GraphPath ss a.node b.node
  walk-path {a = a} {b = b} p q stay = let e : a ≡ b = cc in path-eq (ap node_of e)
  walk-path {b = b} p q (along {j = j} {k = k} w h e) =
      let m = below_at ss j h in
      step (walk-path p m.1 w)
      record {
        from = m.0;
        to = b;
        from_in = at_mem ss j m.1;
        to_in = at_mem ss k q;
        from_node = refl;
        to_node = refl;
        joined = joins_true m.0 b (sym (edges.bits j k m.1 q) ∙ e);
      }

  -- a path of edges is a walk along the bits
  path-walk :
      {c : Node} {i j : ℕ} {a b : Segment} {d : Node}
      → get_elem? ss i ≡ some a
      → get_elem? ss j ≡ some b
      → a.node ≡ c
      → b.node ≡ d
      → GraphPath ss c d
      → Walk (length ss) (bit_at before) i j
  path-walk {i} {j} p q u v here =
      subst (Walk (length ss) (bit_at before) i) (same_place node_of ss i j distinct p q (u ∙ sym v)) stay
  path-walk {i} {j} {b = b} p q u v (step w e) =
      let f = mem-at e.from_in in
      let t = mem-at e.to_in in
      let k = same_place node_of ss t.0 j distinct t.1 q (e.to_node ∙ sym v) in
      along
      (path-walk {j = f.0} p f.1 u e.from_node w)
      (at_below ss f.0 f.1)
      (subst (λ (n : ℕ). bit_at before f.0 n ≡ true) k (edges.bits f.0 t.0 f.1 t.1 ∙ joined-joins e.from e.to e.joined))

  pub closed-reaches : {after : List ℕ} → Closed (length ss) before after → PathBits ss after
  closed-reaches {after} t =
      record {
        bits = λ i j {a} {b} p q.
            let w = t.walks i j (at_below ss i p) (at_below ss j q) in
            reaches-is ss a.node b.node (bit_at after i j) (λ e. walk-path p q (w.0 e)) (λ r. w.1 (path-walk p q refl refl r));
      }
