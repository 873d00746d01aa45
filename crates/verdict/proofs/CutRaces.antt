-- A bundle whose chunks are cut, with no REGION lost: its races are the races of the full one whose accesses both survive.
use Prim.Native.Nat.{ℕ, zero, suc, ◌+◌, ◌*◌}
use mathlib.Core.Path.{◌≡◌, refl, sym, ◌∙◌, ap, ap₂, subst}
use mathlib.Core.Logic.{◌↔◌}
use mathlib.Core.Bool.{Bool, cond}
use mathlib.Core.List.{List, [], ◌∷◌, ◌++◌, map, Memᴰ}
use mathlib.Core.Option.{Option, none, some}
use native.Mathlib.Omega.{arith}
use lib.Dec.{eqb}
use Rattle.bundle.specs.Answer.{gives}
use Rattle.bundle.specs.Lists.{any, first, from_option}
use Rattle.bundle.specs.Locks.{holds}
use Rattle.bundle.specs.Chunks.{Chunk, chunks_of}
use Rattle.bundle.specs.Walk.{forks_of}
use Rattle.bundle.specs.Check.{Accepted, fork_of, size_of}
use Rattle.bundle.specs.declared.chunk.ChunkState.{ChunkState}
use Rattle.bundle.specs.declared.index.Fork.{Fork}
use Rattle.bundle.proofs.Keys.{distinct-key}
use Rattle.bundle.proofs.ShapeOrder.{unplaced_fork, map_option, first-map}
use Rattle.bundle.proofs.Reorder.{distinct-members}
use Rattle.bundle.proofs.Shortening.{EachShortened}
use Rattle.order.specs.Labels.{last_triple, fork_label, segment_label, label_of, holding, compare_of}
use Rattle.order.specs.declared.label.Triple.{Triple}
use Rattle.order.specs.declared.label.Order.{Order}
use Rattle.order.specs.declared.label.Order.TheVariants as Ord
use Rattle.verdict.specs.Graph.{Node, Segment, GraphPath, here, segments_of}
use Rattle.verdict.specs.Accesses.{NamedAccess, accesses_of, name_key, race_at}
use Rattle.verdict.specs.Agreement.{Tells, Agrees}
use Rattle.verdict.specs.Cutting.{Survives}
use Rattle.verdict.specs.Lineages.{Holder, holder_of, above_from, lineage, up_to_parting, counts_lock}
use Rattle.verdict.specs.Races.{IsRace}
use Rattle.verdict.specs.declared.race.Name.{Name}
use Rattle.verdict.specs.declared.race.Race.{Race}
use Rattle.verdict.proofs.AccessNames.{access_key, accesses-distinct}
use Rattle.verdict.proofs.AccessSegments.{stands}
use Rattle.verdict.proofs.BundleForkJoin.{label-found}
use Rattle.verdict.proofs.CutWalks.{Lasting, cut-accesses, cut-segments, cut-forks}
use Rattle.verdict.proofs.LabelsAgree.{labels-agree}
use Rattle.verdict.proofs.LineageLaws.{forker}

-- what is read off a REGION that is found, but for its offset
read-unplaced :
    {B : Type 0} (other : B) (f : Fork → B)
    → ((x : Fork) → f (unplaced_fork x) ≡ f x)
    → (o : Option Fork)
    → from_option other f (map_option unplaced_fork o) ≡ from_option other f o
unfolding map_option
read-unplaced other f h none = refl
read-unplaced other f h (some x) = h x

-- labels and lineages do not see the offsets of the REGIONs
module _ (fs gs : List Fork) (same : map unplaced_fork fs ≡ map unplaced_fork gs) where
  found : (t : ℕ) → map_option unplaced_fork (fork_of fs t) ≡ map_option unplaced_fork (fork_of gs t)
  unfolding fork_of unplaced_fork
  found t =
      let of-team : Fork → Bool = λ f. eqb f.team t in
      sym (first-map unplaced_fork of-team fs) ∙ ap (first of-team) same ∙ first-map unplaced_fork of-team gs

  read :
      {B : Type 0} (other : B) (f : Fork → B)
      → ((x : Fork) → f (unplaced_fork x) ≡ f x)
      → (t : ℕ)
      → from_option other f (fork_of fs t) ≡ from_option other f (fork_of gs t)
  read other f h t =
      sym (read-unplaced other f h (fork_of fs t)) ∙ ap (from_option other f) (found t) ∙ read-unplaced other f h (fork_of gs t)

  size-alike : (t : ℕ) → size_of fs t ≡ size_of gs t
  unfolding size_of unplaced_fork
  size-alike t = ap (cond (eqb t 0) 1) (read 0 (λ (f : Fork). f.size) (λ f. refl) t)

  triple-alike : (t m : ℕ) (k : ChunkState) → last_triple fs t m k ≡ last_triple gs t m k
  unfolding last_triple
  triple-alike t m k = ap (λ (z : ℕ). record { offset = m + z * k.regions; span = z; interval = k.barriers }) (size-alike t)

  fork-label-alike : (fuel t : ℕ) → fork_label fuel fs t ≡ fork_label fuel gs t
  unfolding fork_label unplaced_fork
  fork-label-alike zero t = refl
  fork-label-alike (suc fuel) t =
      (λ i.
      from_option []
      (λ (f : Fork). fork-label-alike fuel f.parent i ++ (triple-alike f.parent f.member f.state i ∷ []))
      (fork_of fs t))
      ∙ read []
      (λ (f : Fork). fork_label fuel gs f.parent ++ (last_triple gs f.parent f.member f.state ∷ []))
      (λ f. refl)
      t

  pub label-alike : (t m : ℕ) (k : ChunkState) → segment_label fs t m k ≡ segment_label gs t m k
  unfolding segment_label
  label-alike t m k = λ i. fork-label-alike (suc t) t i ++ (triple-alike t m k i ∷ [])

  above-alike : (fuel t : ℕ) → above_from fuel fs t ≡ above_from fuel gs t
  unfolding above_from unplaced_fork
  above-alike zero t = refl
  above-alike (suc fuel) t =
      (λ i. from_option [] (λ (f : Fork). forker f ∷ above-alike fuel f.parent i) (fork_of fs t))
      ∙ read [] (λ (f : Fork). forker f ∷ above_from fuel gs f.parent) (λ f. refl) t

  pub counted-alike : (a b : Holder) (lock : ℕ) → counts_lock fs a b lock ≡ counts_lock gs a b lock
  unfolding counts_lock lineage
  counted-alike a b lock =
      λ i.
      any (λ (h : Holder). holds lock h.locks)
      (up_to_parting (a ∷ above-alike (suc a.team) a.team i) (b ∷ above-alike (suc b.team) b.team i))

-- where one graph has the order of two nodes, and the other bears it out, the other has the paths of the one
same-order :
    {ss us : List Segment} {a b : Node} (o : Order)
    → ((q : Order) → (o ≡ q) ↔ Tells ss a b q)
    → Tells us a b o
    → GraphPath ss a b
    → GraphPath us a b
same-order {us = us} {a = a} Ord.Same h t p = subst (GraphPath us a) t here
same-order Ord.Before h t p = t.1
same-order Ord.After h t p =
    let e = (h Ord.Before).1 (((h Ord.After).0 refl).0, p) in
    absurd (let z : ◌≡◌ {A = ℕ} 0 1 = cc in omega arith)
same-order Ord.Concurrent h t p = absurd (((h Ord.Concurrent).0 refl).0 p)

-- two answers are one
answer-one : {A : Type 0} {x y : A} → gives x ≡ gives y → x ≡ y
answer-one e = cc

-- what makes a race of one list of chunks a race of another
carried-over :
    (cs ds : List Chunk) {r : Race} (i : IsRace cs r)
    → Memᴰ i.one (accesses_of ds)
    → Memᴰ i.other (accesses_of ds)
    → ((a b : Holder) (lock : ℕ) → counts_lock (forks_of ds) a b lock ≡ counts_lock (forks_of cs) a b lock)
    → (GraphPath (segments_of ds) i.one.node i.other.node → GraphPath (segments_of cs) i.one.node i.other.node)
    → (GraphPath (segments_of ds) i.other.node i.one.node → GraphPath (segments_of cs) i.other.node i.one.node)
    → IsRace ds r
carried-over cs ds i one other counted path back =
    record {
      one = i.one;
      other = i.other;
      one_in = one;
      other_in = other;
      lower = i.lower;
      writing = i.writing;
      not_atomic = i.not_atomic;
      no_lock = λ lock h p q.
          i.no_lock lock h
          (sym (counted (holder_of i.one) (holder_of i.other) lock) ∙ p)
          (sym (counted (holder_of i.other) (holder_of i.one) lock) ∙ q);
      no-path = λ p. i.no-path (path p);
      no_path_back = λ p. i.no_path_back (back p);
      shared = i.shared;
      element = i.element;
      other_element = i.other_element;
      carried = i.carried;
    }

-- the names that a race carries
race-names : {cs : List Chunk} {r : Race} (i : IsRace cs r) → (r.first ≡ i.one.name) × (r.second ≡ i.other.name)
unfolding race_at
race-names i = (ap (λ (q : Race). q.first) i.carried, ap (λ (q : Race). q.second) i.carried)

module _ (b c : List ℕ) (ok : Accepted b) (cut_ok : Accepted c) (each : EachShortened (chunks_of b) (chunks_of c)) where
  abbrev full : List Segment
  full = segments_of (chunks_of b)

  abbrev cut : List Segment
  cut = segments_of (chunks_of c)

  -- a segment that is left has the label of the full one
  same-label :
      {g : Segment} (m : Memᴰ g cut) (l : Lasting full g) (ts us : List Triple)
      → label_of b l.segment.node.team l.segment.node.member l.segment.node.number ≡ gives ts
      → label_of c g.node.team g.node.member g.node.number ≡ gives us
      → ts ≡ us
  same-label {g} m l ts us e f =
      answer-one (sym e ∙ label-found b ok l.present)
      ∙ (λ i. segment_label (forks_of (chunks_of b)) (l.node i).team (l.node i).member (l.state i))
      ∙ label-alike (forks_of (chunks_of b)) (forks_of (chunks_of c)) (cut-forks each) g.node.team g.node.member g.state
      ∙ answer-one (sym (label-found c cut_ok m) ∙ f)

  -- two nodes of the cut bundle have the same paths in both graphs
  abbrev SamePaths : Node → Node → Type 0
  SamePaths a e = GraphPath full a e ↔ GraphPath cut a e

  segment-paths : {g h : Segment} → Memᴰ g cut → Memᴰ h cut → SamePaths g.node h.node
  segment-paths {g} {h} m n =
      let l = cut-segments each m in
      let k = cut-segments each n in
      both l k (labels-agree b ok l.segment k.segment l.present k.present) (labels-agree c cut_ok g h m n)
    where
      both : (l : Lasting full g) (k : Lasting full h) → Agrees b l.segment k.segment → Agrees c g h → SamePaths g.node h.node
      both l k x y =
          let first = same-label m l x.first y.first x.first_label y.first_label in
          let second = same-label n k x.second y.second x.second_label y.second_label in
          let order : x.order ≡ y.order =
          answer-one (sym x.compared ∙ ap₂ (λ (ts us : List Triple). compare_of (holding ts) (holding us)) first second ∙ y.compared)
          in
          let exactly : (o : Order) → (x.order ≡ o) ↔ Tells full g.node h.node o =
          subst (λ (d : Node × Node). (o : Order) → (x.order ≡ o) ↔ Tells full d.0 d.1 o) (λ i. (l.node i, k.node i)) x.exactly
          in (
            same-order x.order exactly ((y.exactly x.order).0 (sym order)),
            same-order y.order y.exactly ((exactly y.order).0 order),
          )

  access-paths :
      {x y : NamedAccess}
      → Memᴰ x (accesses_of (chunks_of c))
      → Memᴰ y (accesses_of (chunks_of c))
      → SamePaths x.node y.node
  access-paths m n =
      let s = stands (chunks_of c) m in
      let u = stands (chunks_of c) n in
      subst (λ (d : Node × Node). SamePaths d.0 d.1) (λ i. (s.node i, u.node i)) (segment-paths s.present u.present)

  same-counted : (x y : Holder) (lock : ℕ) → counts_lock (forks_of (chunks_of b)) x y lock ≡ counts_lock (forks_of (chunks_of c)) x y lock
  same-counted = counted-alike (forks_of (chunks_of b)) (forks_of (chunks_of c)) (cut-forks each)

  -- an access of the full bundle with a name that survives
  surviving : {x : NamedAccess} {n : Name} → Memᴰ x (accesses_of (chunks_of b)) → n ≡ x.name → Survives c n → Memᴰ x (accesses_of (chunks_of c))
  surviving {x} m e s =
      let same : s.access ≡ x =
      distinct-key access_key (accesses-distinct (chunks_of b) (distinct-members b ok)) (cut-accesses each s.present) m (ap name_key (s.name ∙ e))
      in
      subst (λ (y : NamedAccess). Memᴰ y (accesses_of (chunks_of c))) same s.present

  race-before : {r : Race} → IsRace (chunks_of c) r → IsRace (chunks_of b) r × Survives c r.first × Survives c r.second
  race-before i =
      let names = race-names i in (
        carried-over (chunks_of c) (chunks_of b) i (cut-accesses each i.one_in) (cut-accesses each i.other_in) same-counted
            (access-paths i.one_in i.other_in).0
            (access-paths i.other_in i.one_in).0,
        record { access = i.one; present = i.one_in; name = sym names.0 },
        record { access = i.other; present = i.other_in; name = sym names.1 },
      )

  race-left : {r : Race} → IsRace (chunks_of b) r → Survives c r.first → Survives c r.second → IsRace (chunks_of c) r
  race-left i s u =
      let names = race-names i in
      let one = surviving i.one_in names.0 s in
      let other = surviving i.other_in names.1 u in
      carried-over (chunks_of b) (chunks_of c) i one other (λ x y lock. sym (same-counted x y lock))
      (access-paths one other).1
      (access-paths other one).1

-- "races are exactly those races of the full one whose two accesses both survive" (A.4)
pub cut-races :
    (b c : List ℕ)
    → Accepted b
    → Accepted c
    → EachShortened (chunks_of b) (chunks_of c)
    → (r : Race)
    → IsRace (chunks_of c) r ↔ (IsRace (chunks_of b) r × Survives c r.first × Survives c r.second)
cut-races b c ok cut_ok each r = (race-before b c ok cut_ok each, λ w. race-left b c ok cut_ok each w.0 w.1 w.2)
