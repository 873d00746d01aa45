-- Labels agree with the graph.
use Prim.Native.Nat.{ℕ, suc, ◌≤◌, ◌<◌}
use mathlib.Core.Path.{◌≡◌, refl, sym, ◌∙◌, ap, subst}
use mathlib.Core.Bool.{true}
use mathlib.Core.List.{List, [], ◌∷◌, Memᴰ}
use native.Mathlib.Omega.{arith}
use lib.ListN.{length, length-append}
use borrow.Author.Tests.{le-leb}
use Rattle.bundle.specs.Answer.{gives}
use Rattle.bundle.specs.Lists.{all}
use Rattle.bundle.specs.Chunks.{chunks_of}
use Rattle.bundle.specs.Walk.{forks_of}
use Rattle.bundle.specs.Check.{Accepted}
use Rattle.bundle.specs.declared.index.Fork.{Fork}
use Rattle.bundle.proofs.Tests.{both}
use Rattle.order.specs.Labels.{last_triple, fork_label, segment_label, holding, span_ok, root_span, label_ok, compare_from, compare_of}
use Rattle.order.specs.Climbing.{chunk_label_of}
use Rattle.order.specs.declared.label.Triple.{Triple}
use Rattle.order.specs.declared.label.Order.{Order}
use Rattle.order.specs.declared.label.Order.TheVariants as Ord
use Rattle.order.proofs.Climbs.{holding-counted, room-left}
use Rattle.verdict.specs.Graph.{Segment, GraphPath, here, segments_of}
use Rattle.verdict.specs.Agreement.{Tells, Agrees, LabelsAgree}
use Rattle.order.proofs.LabelOrder.{Apart, before-trans, before-not-self, told-before, told-after, told_same, told-apart}
use Rattle.verdict.proofs.ForkJoin.{ForkJoin}
use Rattle.verdict.proofs.BundleForkJoin.{fork-join, label-found, team-small, root-size, climbable}
use Rattle.verdict.proofs.LabelPaths.{Related, related_same, related_before, related_after, related_apart, compared, Leads, leads_same, leads_before, leads, label-spans}

-- two answers are one
order-one : {o p : Order} → gives o ≡ gives p → o ≡ p
order-one e = cc

module _ (s : List ℕ) (ok : Accepted s) where
  abbrev ss : List Segment
  ss = segments_of (chunks_of s)

  abbrev fs : List Fork
  fs = forks_of (chunks_of s)

  k : ForkJoin ss fs
  k = fork-join s ok

  abbrev label : Segment → List Triple
  label g = segment_label fs g.node.team g.node.member g.state

  label-short : (g : Segment) → length (label g) ≤ 5
  unfolding segment_label
  label-short g =
      omega (arith, length-append (fork_label (suc g.node.team) fs g.node.team) (last_triple fs g.node.team g.node.member g.state ∷ []), short g.node.team)
    where
      short : (t : ℕ) → length (fork_label (suc t) fs t) < 5
      short t = unfold chunk_label_of holding in (room-left fs (climbable s ok) t (chunk_label_of fs t) refl)

  label-good : {g : Segment} → Memᴰ g ss → label_ok (holding (label g)) ≡ true
  unfolding label_ok
  label-good {g} m =
      let parts = label-spans k (team-small s ok) (root-size s ok) m in
      let same = holding-counted (label g) in
      let count : (holding (label g)).count ≡ length (label g) = unfold holding in refl in
      both
      (both
      (both (le-leb 1 (holding (label g)).count (omega (arith, parts.0))) (le-leb (holding (label g)).count 5 (omega (arith, label-short g))))
      (ap (all span_ok) same ∙ parts.1))
      (ap root_span same ∙ parts.2)

  compared-as : {g h : Segment} → Memᴰ g ss → Memᴰ h ss → compare_of (holding (label g)) (holding (label h)) ≡ compare_from 0 (label g) (label h)
  unfolding compare_of
  compared-as {g} {h} m n = rw (label-good m, label-good n, holding-counted (label g), holding-counted (label h))

  -- the orders exclude each other
  module _ {a b : Segment} (m : Memᴰ a ss) (n : Memᴰ b ss) where
    one_label : a.node ≡ b.node → label a ≡ label b
    one_label e = ap label (k.one m n e)

    no-round : (a.node ≡ b.node → ⊥) → GraphPath ss a.node b.node → GraphPath ss b.node a.node → ⊥
    no-round e p q = go (leads k m n p) (leads k n m q)
      where
        go : Leads k a b → Leads k b a → ⊥
        go (leads_same r) y = e (ap (λ (g : Segment). g.node) r)
        go (leads_before r) (leads_same y) = e (ap (λ (g : Segment). g.node) (sym y))
        go (leads_before r) (leads_before y) = before-not-self refl (before-trans r y)

    along : a.node ≡ b.node → GraphPath ss a.node b.node
    along e = subst (GraphPath ss a.node) e here

    told-one : (o p : Order) → Tells ss a.node b.node o → Tells ss a.node b.node p → o ≡ p
    told-one Ord.Same Ord.Same x y = refl
    told-one Ord.Same Ord.Before x y = absurd (y.0 x)
    told-one Ord.Same Ord.After x y = absurd (y.0 x)
    told-one Ord.Same Ord.Concurrent x y = absurd (y.0 (along x))
    told-one Ord.Before Ord.Same x y = absurd (x.0 y)
    told-one Ord.Before Ord.Before x y = refl
    told-one Ord.Before Ord.After x y = absurd (no-round x.0 x.1 y.1)
    told-one Ord.Before Ord.Concurrent x y = absurd (y.0 x.1)
    told-one Ord.After Ord.Same x y = absurd (x.0 y)
    told-one Ord.After Ord.Before x y = absurd (no-round x.0 y.1 x.1)
    told-one Ord.After Ord.After x y = refl
    told-one Ord.After Ord.Concurrent x y = absurd (y.1 x.1)
    told-one Ord.Concurrent Ord.Same x y = absurd (x.0 (along y))
    told-one Ord.Concurrent Ord.Before x y = absurd (x.0 y.1)
    told-one Ord.Concurrent Ord.After x y = absurd (x.1 y.1)
    told-one Ord.Concurrent Ord.Concurrent x y = refl

    -- an answer that the graph bears out
    agrees : (o : Order) → compare_from 0 (label a) (label b) ≡ gives o → Tells ss a.node b.node o → Agrees s a b
    agrees o e t =
        record {
          first = label a;
          second = label b;
          first_label = label-found s ok m;
          second_label = label-found s ok n;
          order = o;
          compared = compared-as m n ∙ e;
          exactly = λ p. (λ q. subst (Tells ss a.node b.node) q t, λ u. told-one o p t u);
        }

    no-path : Apart (label a) (label b) → GraphPath ss a.node b.node → ⊥
    no-path r p = go (leads k m n p)
      where
        go : Leads k a b → ⊥
        go (leads_same q) = let e = order-one (sym (told-apart 0 r) ∙ ap (compare_from 0 (label a)) (ap label (sym q)) ∙ told_same 0 (label a)) in let z : ◌≡◌ {A = ℕ} 0 1 = cc in omega arith
        go (leads_before q) = let e = order-one (sym (told-apart 0 r) ∙ told-before 0 q) in let z : ◌≡◌ {A = ℕ} 0 1 = cc in omega arith

    no_path_back : Apart (label a) (label b) → GraphPath ss b.node a.node → ⊥
    no_path_back r p = go (leads k n m p)
      where
        go : Leads k b a → ⊥
        go (leads_same q) = let e = order-one (sym (told-apart 0 r) ∙ ap (compare_from 0 (label a)) (ap label q) ∙ told_same 0 (label a)) in let z : ◌≡◌ {A = ℕ} 0 1 = cc in omega arith
        go (leads_before q) = let e = order-one (sym (told-apart 0 r) ∙ told-after 0 q) in let z : ◌≡◌ {A = ℕ} 0 1 = cc in omega arith

    by-labels : Related k (label a) (label b) a b → Agrees s a b
    by-labels (related_same e q) = agrees Ord.Same (ap (compare_from 0 (label a)) (sym e) ∙ told_same 0 (label a)) (ap (λ (g : Segment). g.node) q)
    by-labels (related_before r p) = agrees Ord.Before (told-before 0 r) (λ e. before-not-self (one_label e) r, p)
    by-labels (related_after r p) = agrees Ord.After (told-after 0 r) (λ e. before-not-self (sym (one_label e)) r, p)
    by-labels (related_apart r) = agrees Ord.Concurrent (told-apart 0 r) (no-path r, no_path_back r)

-- for every accepted bundle and any two of its segments, with no hypothesis beyond those of the statement
pub labels-agree : LabelsAgree
labels-agree s ok a b m n = by-labels s ok m n (compared (k s ok) m n)
