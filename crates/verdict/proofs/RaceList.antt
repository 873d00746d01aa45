-- The list of a bundle's races: each race once, in order, and nothing else.
use Prim.Native.Nat.{ℕ, ◌<◌}
use mathlib.Core.Path.{◌≡◌, refl, sym, ◌∙◌, ap, ap₂}
use mathlib.Core.Logic.{⊎_elim}
use mathlib.Core.Bool.{Bool, true, false, cond, not, ◌&&◌, ◌||◌}
use mathlib.Core.List.Memᴰ
use mathlib.Core.List.{List, [], ◌∷◌, map, Memᴰ}
use mathlib.Core.Option.{Option, none, some}
use Rattle.bundle.specs.Lists.{up_to, concat_map, from_option}
use Rattle.bundle.specs.Chunks.{Chunk}
use Rattle.bundle.specs.Walk.{forks_of}
use Rattle.bundle.specs.declared.index.Fork.{Fork}
use Rattle.bundle.proofs.Tests.{both, and_left, and_right, or_cases, or-one, or-other, refuted, fails}
use Rattle.bundle.proofs.ListLaws.{any-elim, any-intro, up_to-elim, up_to-intro, concat_map-elim, concat_map-intro, Distinct, distinct_nil, distinct_cons, distinct-concat_map}
use Rattle.bundle.proofs.Places.{member_key}
use Rattle.order.specs.Ranges.{shared_byte}
use Rattle.verdict.specs.Graph.{segments_of}
use Rattle.verdict.specs.GraphTests.{NodePair, closure_of, reaches}
use Rattle.verdict.specs.Accesses.{NamedAccess, accesses_of, name_key, name_below, race_key, writes, atomic, race_at}
use Rattle.verdict.specs.Races.{IsRace}
use Rattle.verdict.specs.Lineages.{Holder, holder_of, counts_lock}
use Rattle.verdict.specs.RaceLists.{common_counted, clashes, race_with, race_of, races_among, races_of}
use Rattle.verdict.specs.Demand.{Ascending}
use Rattle.verdict.specs.declared.race.Race.{Race}
use Rattle.order.proofs.SharedByte.{shared-some, shared-is}
use Rattle.order.proofs.Elements.{element-lowest, element-unique}
use Rattle.verdict.proofs.Reachability.{reaches-path, path-reaches}
use Rattle.verdict.proofs.AccessNames.{access_key, accesses-distinct}
use Rattle.verdict.proofs.Lexical.{race_key-tells}
use Rattle.verdict.proofs.Sorting.{order-intro, order-elim, order-ascending}

-- where a race of two accesses comes from
pub record Found (closure : List NodePair) (fs : List Fork) (x y : NamedAccess) (r : Race) : Type 0 where
  pub clash : clashes closure fs x y ≡ true
  pub witness : ℕ
  pub shared : shared_byte x.access.range y.access.range ≡ some witness
  pub is : r ≡ race_with x y witness

module _ (closure : List NodePair) (fs : List Fork) (x y : NamedAccess) where
  pub race_of-elim : {r : Race} → Memᴰ r (race_of closure fs x y) → Found closure fs x y r
  unfolding race_of
  race_of-elim {r} m = go (clashes closure fs x y) refl (shared_byte x.access.range y.access.range) refl m
    where
      go :
          (t : Bool)
          → clashes closure fs x y ≡ t
          → (o : Option ℕ)
          → shared_byte x.access.range y.access.range ≡ o
          → Memᴰ r (cond t (from_option [] (λ witness. race_with x y witness ∷ []) o) [])
          → Found closure fs x y r
      go false p o q m' = absurd (Memᴰ.not-nil m')
      go true p none q m' = absurd (Memᴰ.not-nil m')
      go true p (some w) q m' = record { clash = p; witness = w; shared = q; is = Memᴰ.eq_of_singleton m' }

  pub race_of-intro : {r : Race} → Found closure fs x y r → Memᴰ r (race_of closure fs x y)
  unfolding race_of
  race_of-intro f = rw (f.clash, f.shared) (Memᴰ.head f.is)

  pub race_of-distinct : Distinct (map race_key (race_of closure fs x y))
  unfolding race_of
  race_of-distinct = go (clashes closure fs x y) (shared_byte x.access.range y.access.range)
    where
      go :
          (t : Bool) (o : Option ℕ)
          → Distinct (map race_key (cond t (from_option [] (λ witness. race_with x y witness ∷ []) o) []))
      go false o = distinct_nil
      go true none = distinct_nil
      go true (some w) = distinct_cons Memᴰ.not-nil distinct_nil

  pub names-of : {r : Race} → Memᴰ r (race_of closure fs x y) → (r.first ≡ x.name) × (r.second ≡ y.name)
  unfolding race_with race_at
  names-of m = let e = (race_of-elim m).is in (ap (λ (r : Race). r.first) e, ap (λ (r : Race). r.second) e)

-- no two races have one key, if no two accesses have one name
pub races-distinct :
    (closure : List NodePair) (fs : List Fork) (xs : List NamedAccess) → Distinct (map access_key xs) → Distinct (map race_key (races_among closure fs xs))
unfolding races_among
races-distinct closure fs xs d = distinct-concat_map access_key among race_key inner firsts xs d
  where
    among : NamedAccess → List Race
    among x = concat_map (race_of closure fs x) xs

    first : {r : Race} (x : NamedAccess) → Memᴰ r (among x) → r.first ≡ x.name
    first x m = let y = concat_map-elim (race_of closure fs x) xs m in (names-of closure fs x y.source y.gives).0

    second : {r : Race} (x y : NamedAccess) → Memᴰ r (race_of closure fs x y) → r.second ≡ y.name
    second x y m = (names-of closure fs x y m).1

    inner : (x : NamedAccess) → Distinct (map race_key (among x))
    inner x =
        distinct-concat_map access_key (race_of closure fs x) race_key (race_of-distinct closure fs x)
        (λ y z r q m l e. ap name_key (sym (second x y m) ∙ (race_key-tells r q e).2 ∙ second x z l))
        xs d

    firsts :
        (x y : NamedAccess) (r q : Race)
        → Memᴰ r (among x)
        → Memᴰ q (among y)
        → race_key r ≡ race_key q
        → access_key x ≡ access_key y
    firsts x y r q m l e = ap name_key (sym (first x m) ∙ (race_key-tells r q e).1 ∙ first y l)

pub races-ascending : (cs : List Chunk) → Distinct (map member_key cs) → Ascending (races_of cs)
unfolding races_of
races-ascending cs d =
    order-ascending (races_among (closure_of (segments_of cs)) (forks_of cs) (accesses_of cs))
    (races-distinct (closure_of (segments_of cs)) (forks_of cs) (accesses_of cs) (accesses-distinct cs d))

-- the test for a common lock is exact
module _ (fs : List Fork) (a b : Holder) where
  common-intro : (lock : ℕ) → lock < 64 → counts_lock fs a b lock ≡ true → counts_lock fs b a lock ≡ true → common_counted fs a b ≡ true
  unfolding common_counted
  common-intro lock h p q = any-intro (λ l. counts_lock fs a b l && counts_lock fs b a l) (up_to-intro 64 h) (both p q)

  common-elim :
      common_counted fs a b ≡ true → (lock : ℕ) × (lock < 64) × (counts_lock fs a b lock ≡ true) × (counts_lock fs b a lock ≡ true)
  unfolding common_counted
  common-elim e =
      let f = any-elim (λ l. counts_lock fs a b l && counts_lock fs b a l) (up_to 64) e in
      let l = f.element in (
        l,
        up_to-elim 64 f.present,
        and_left (counts_lock fs a b l) (counts_lock fs b a l) f.passes,
        and_right (counts_lock fs a b l) (counts_lock fs b a l) f.passes,
      )

-- the parts of the test for a race
pub record Clash (closure : List NodePair) (fs : List Fork) (x y : NamedAccess) : Type 0 where
  pub lower : name_below x.name y.name ≡ true
  pub writing : (writes x.access.kind || writes y.access.kind) ≡ true
  pub not_atomic : not (atomic x.access.kind && atomic y.access.kind) ≡ true
  pub no_lock : not (common_counted fs (holder_of x) (holder_of y)) ≡ true
  pub no-path : not (reaches closure x.node y.node) ≡ true
  pub no_path_back : not (reaches closure y.node x.node) ≡ true

module _ (closure : List NodePair) (fs : List Fork) (x y : NamedAccess) where
  pub clash-elim : clashes closure fs x y ≡ true → Clash closure fs x y
  unfolding clashes
  clash-elim h6 =
      let a : Bool = name_below x.name y.name in
      let b : Bool = writes x.access.kind || writes y.access.kind in
      let c : Bool = not (atomic x.access.kind && atomic y.access.kind) in
      let d : Bool = not (common_counted fs (holder_of x) (holder_of y)) in
      let e : Bool = not (reaches closure x.node y.node) in
      let f : Bool = not (reaches closure y.node x.node) in
      let h5 = and_left (a && b && c && d && e) f h6 in
      let h4 = and_left (a && b && c && d) e h5 in
      let h3 = and_left (a && b && c) d h4 in
      let h2 = and_left (a && b) c h3 in
      record {
        lower = and_left a b h2;
        writing = and_right a b h2;
        not_atomic = and_right (a && b) c h3;
        no_lock = and_right (a && b && c) d h4;
        no-path = and_right (a && b && c && d) e h5;
        no_path_back = and_right (a && b && c && d && e) f h6;
      }

  pub clash-intro : Clash closure fs x y → clashes closure fs x y ≡ true
  unfolding clashes
  clash-intro c = simp (c.lower, c.writing, c.not_atomic, c.no_lock, c.no-path, c.no_path_back)

module _ (cs : List Chunk) where
  -- two accesses found make a race, and a race is made so
  pub found-race :
      {x y : NamedAccess} {r : Race}
      → Memᴰ x (accesses_of cs)
      → Memᴰ y (accesses_of cs)
      → Found (closure_of (segments_of cs)) (forks_of cs) x y r
      → IsRace cs r
  unfolding race_with race_at
  found-race {x} {y} m l f =
      let ss = segments_of cs in
      let c = clash-elim (closure_of ss) (forks_of cs) x y f.clash in
      let s = shared-some x.access.range y.access.range f.witness f.shared in
      rw f.is
      (record {
        one = x;
        other = y;
        one_in = m;
        other_in = l;
        lower = c.lower;
        writing = or_cases (writes x.access.kind) (writes y.access.kind) c.writing;
        not_atomic = λ p q. refuted (both p q) c.not_atomic;
        no_lock = λ lock h p q. refuted (common-intro (forks_of cs) (holder_of x) (holder_of y) lock h p q) c.no_lock;
        no-path = λ p. refuted (path-reaches ss x.node y.node p) c.no-path;
        no_path_back = λ p. refuted (path-reaches ss y.node x.node p) c.no_path_back;
        shared = s;
        element = element-lowest x.access.range f.witness s.one;
        other_element = element-lowest y.access.range f.witness s.other;
        carried = refl;
      })

  pub race-found : {r : Race} (i : IsRace cs r) → Found (closure_of (segments_of cs)) (forks_of cs) i.one i.other r
  unfolding race_with
  race-found {r} i =
      let x = i.one in
      let y = i.other in
      let ss = segments_of cs in
      let a = atomic x.access.kind in
      let b = atomic y.access.kind in
      record {
        clash =
            clash-intro (closure_of ss) (forks_of cs) x y
            (record {
              lower = i.lower;
              writing = ⊎_elim (or-one (writes y.access.kind)) (or-other (writes x.access.kind)) i.writing;
              not_atomic = fails (a && b) (λ h. i.not_atomic (and_left a b h) (and_right a b h));
              no_lock =
                  fails (common_counted (forks_of cs) (holder_of x) (holder_of y))
                  (λ h. let l = common-elim (forks_of cs) (holder_of x) (holder_of y) h in i.no_lock l.0 l.1 l.2 l.3);
              no-path = fails _ (λ h. i.no-path (reaches-path ss x.node y.node h));
              no_path_back = fails _ (λ h. i.no_path_back (reaches-path ss y.node x.node h));
            });
        witness = r.witness;
        shared = shared-is x.access.range y.access.range r.witness i.shared;
        is =
            i.carried
            ∙ ap₂ (race_at x y r.witness)
            (element-unique x.access.range r.witness i.element
            (element-lowest x.access.range r.witness i.shared.one))
            (element-unique y.access.range r.witness i.other_element
            (element-lowest y.access.range r.witness i.shared.other));
      }

  -- the list holds the races and nothing else
  pub races-elim : {r : Race} → Memᴰ r (races_of cs) → IsRace cs r
  unfolding races_of races_among
  races-elim m =
      let g = closure_of (segments_of cs) in
      let fs = forks_of cs in
      let xs = accesses_of cs in
      let x = concat_map-elim (λ x. concat_map (race_of g fs x) xs) xs (order-elim (races_among g fs xs) m) in
      let y = concat_map-elim (race_of g fs x.source) xs x.gives in
      found-race x.present y.present (race_of-elim g fs x.source y.source y.gives)

  pub races-intro : {r : Race} → IsRace cs r → Memᴰ r (races_of cs)
  unfolding races_of races_among
  races-intro i =
      let g = closure_of (segments_of cs) in
      let fs = forks_of cs in
      let xs = accesses_of cs in
      order-intro (races_among g fs xs)
      (concat_map-intro (λ x. concat_map (race_of g fs x) xs) i.one_in
      (concat_map-intro (race_of g fs i.one) i.other_in (race_of-intro g fs i.one i.other (race-found i))))
