-- Chunks in another order: the same segments, accesses, paths, races and judgement.
use Prim.Native.Nat.{ℕ, zero, suc}
use mathlib.Core.Path.{◌≡◌, refl, sym, ◌∙◌, ap}
use mathlib.Core.List.Permᴰ
use mathlib.Core.List.{List, [], ◌∷◌, map, Memᴰ, Permᴰ}
use mathlib.Core.Option.{Option, none, some}
use lib.Dec.{eqb}
use lib.ListN.{length, length-map}
use Rattle.bundle.specs.Lists.{any, first, concat_map, from_option}
use Rattle.bundle.specs.Locks.{holds}
use Rattle.bundle.specs.Chunks.{Chunk}
use Rattle.bundle.specs.Walk.{entries_of, opening_at, segments_from, forks_in, forks_of}
use Rattle.bundle.specs.Check.{fork_of}
use Rattle.bundle.specs.declared.index.Fork.{Fork}
use Rattle.bundle.proofs.ListLaws.{perm-mem, perm-length, perm-concat_map, concat_map-map}
use Rattle.bundle.proofs.Places.{unplaced, unplaced_entry, entries-unplaced}
use Rattle.bundle.proofs.Shaped.{Shaped}
use Rattle.bundle.proofs.ShapeOrder.{fork-perm, unplaced_fork, forks-unplaced, map_option, first-map, shaped-unplaced}
use Rattle.verdict.specs.Graph.{Node, Segment, GraphPath, here, step, segments_in, segments_of}
use Rattle.verdict.specs.Accesses.{NamedAccess, access_at, accesses_in, accesses_of}
use Rattle.verdict.specs.Lineages.{Holder, holder_of, above_from, lineage, up_to_parting, counts_lock}
use Rattle.verdict.specs.Races.{IsRace}
use Rattle.verdict.specs.RaceLists.{races_of}
use Rattle.verdict.specs.Judge.{judgement_of}
use Rattle.verdict.specs.declared.race.Race.{Race}
use Rattle.verdict.proofs.Sorting.{ascending-unique}
use Rattle.verdict.proofs.LineageLaws.{forker}
use Rattle.verdict.proofs.RaceList.{races-elim, races-intro, races-ascending}

-- segments and accesses do not see the offsets
pub segments_in-unplaced : (c : Chunk) → segments_in (unplaced c) ≡ segments_in c
unfolding segments_in
segments_in-unplaced c = rw (entries-unplaced c) (unfold unplaced in (ap (segments_from c.team c.member 0 _) openings))
  where
    openings : concat_map opening_at (map unplaced_entry (entries_of c)) ≡ concat_map opening_at (entries_of c)
    openings = concat_map-map opening_at unplaced_entry (λ e. unfold opening_at unplaced_entry in refl) (entries_of c)

pub accesses_in-unplaced : (c : Chunk) → accesses_in (unplaced c) ≡ accesses_in c
unfolding accesses_in
accesses_in-unplaced c =
    rw (entries-unplaced c)
    (unfold unplaced in
    (concat_map-map (access_at c.team c.member) unplaced_entry (λ e. unfold access_at unplaced_entry in refl) (entries_of c)))

pub segments-unplaced : (cs : List Chunk) → segments_of (map unplaced cs) ≡ segments_of cs
unfolding segments_of
segments-unplaced cs = concat_map-map segments_in unplaced segments_in-unplaced cs

pub accesses-unplaced : (cs : List Chunk) → accesses_of (map unplaced cs) ≡ accesses_of cs
unfolding accesses_of
accesses-unplaced cs = concat_map-map accesses_in unplaced accesses_in-unplaced cs

-- a path needs only its segments
pub path-among :
    {ss us : List Segment} {a b : Node} → ((s : Segment) → Memᴰ s ss → Memᴰ s us) → GraphPath ss a b → GraphPath us a b
path-among f here = here
path-among f (step p e) =
    step (path-among f p)
    (record {
      from = e.from;
      to = e.to;
      from_in = f e.from e.from_in;
      to_in = f e.to e.to_in;
      from_node = e.from_node;
      to_node = e.to_node;
      joined = e.joined;
    })

abbrev pub SameChunks : List Chunk → List Chunk → Type 0
SameChunks cs ds = Permᴰ (map unplaced cs) (map unplaced ds)

pub segments-perm : (cs ds : List Chunk) → SameChunks cs ds → Permᴰ (segments_of cs) (segments_of ds)
unfolding segments_of
segments-perm cs ds d = rw (segments-unplaced cs, segments-unplaced ds) at (perm-concat_map segments_in d)

pub accesses-perm : (cs ds : List Chunk) → SameChunks cs ds → Permᴰ (accesses_of cs) (accesses_of ds)
unfolding accesses_of
accesses-perm cs ds d = rw (accesses-unplaced cs, accesses-unplaced ds) at (perm-concat_map accesses_in d)

-- what holds of the one holds of the other: for the way back give Permᴰ.symm
pub same-path : (cs ds : List Chunk) → SameChunks cs ds → {a b : Node} → GraphPath (segments_of cs) a b → GraphPath (segments_of ds) a b
same-path cs ds same p = path-among (λ s m. perm-mem (segments-perm cs ds same) m) p

-- lineages do not see the offsets or the order
above_same :
    (fuel : ℕ) (fs gs : List Fork) → ((u : ℕ) → fork_of fs u ≡ fork_of gs u) → (t : ℕ) → above_from fuel fs t ≡ above_from fuel gs t
unfolding above_from
above_same zero fs gs h t = refl
above_same (suc fuel) fs gs h t =
    rw (h t) (λ i. from_option [] (λ (f : Fork). forker f ∷ above_same fuel fs gs h f.parent i) (fork_of gs t))

above-unplaced : (fuel : ℕ) (fs : List Fork) (t : ℕ) → above_from fuel (map unplaced_fork fs) t ≡ above_from fuel fs t
unfolding above_from fork_of unplaced_fork map_option
above-unplaced zero fs t = refl
above-unplaced (suc fuel) fs t =
    rw (first-map unplaced_fork (λ (f : Fork). eqb f.team t) fs)
    (go (first (λ (f : Fork). eqb f.team t) fs) (above-unplaced fuel fs))
  where
    go :
        (o : Option Fork)
        → ((u : ℕ) → above_from fuel (map unplaced_fork fs) u ≡ above_from fuel fs u)
        → from_option [] (λ (f : Fork). forker f ∷ above_from fuel (map unplaced_fork fs) f.parent) (map_option unplaced_fork o)
        ≡ from_option [] (λ (f : Fork). forker f ∷ above_from fuel fs f.parent) o
    go none ih = refl
    go (some f) ih = ap (λ (hs : List Holder). forker f ∷ hs) (ih f.parent)

same_above :
    (cs ds : List Chunk) → SameChunks cs ds → Shaped cs → (fuel t : ℕ) → above_from fuel (forks_of cs) t ≡ above_from fuel (forks_of ds) t
same_above cs ds same shaped fuel t =
    sym (unplaced-above cs)
    ∙ above_same fuel (forks_of (map unplaced cs)) (forks_of (map unplaced ds)) (fork-perm forks (shaped-unplaced cs shaped).forks_once) t
    ∙ unplaced-above ds
  where
    unplaced-above : (es : List Chunk) → above_from fuel (forks_of (map unplaced es)) t ≡ above_from fuel (forks_of es) t
    unplaced-above es = ap (λ (fs : List Fork). above_from fuel fs t) (forks-unplaced es) ∙ above-unplaced fuel (forks_of es) t

    forks : Permᴰ (forks_of (map unplaced cs)) (forks_of (map unplaced ds))
    forks = unfold forks_of in (perm-concat_map forks_in same)

same-counted :
    (cs ds : List Chunk) → SameChunks cs ds → Shaped cs → (a b : Holder) (lock : ℕ)
    → counts_lock (forks_of cs) a b lock ≡ counts_lock (forks_of ds) a b lock
unfolding counts_lock lineage
same-counted cs ds same shaped a b lock =
    λ i.
    any (λ (h : Holder). holds lock h.locks)
    (up_to_parting (a ∷ same_above cs ds same shaped (suc a.team) a.team i) (b ∷ same_above cs ds same shaped (suc b.team) b.team i))

pub same-race : (cs ds : List Chunk) → SameChunks cs ds → Shaped cs → {r : Race} → IsRace cs r → IsRace ds r
same-race cs ds same shaped i =
    record {
      one = i.one;
      other = i.other;
      one_in = perm-mem (accesses-perm cs ds same) i.one_in;
      other_in = perm-mem (accesses-perm cs ds same) i.other_in;
      lower = i.lower;
      writing = i.writing;
      not_atomic = i.not_atomic;
      no_lock = λ lock h p q.
          i.no_lock lock h (counted i.one i.other lock ∙ p) (counted i.other i.one lock ∙ q);
      no-path = λ p. i.no-path (same-path ds cs (Permᴰ.symm same) p);
      no_path_back = λ p. i.no_path_back (same-path ds cs (Permᴰ.symm same) p);
      shared = i.shared;
      element = i.element;
      other_element = i.other_element;
      carried = i.carried;
    }
  where
    counted : (x y : NamedAccess) (lock : ℕ) → counts_lock (forks_of cs) (holder_of x) (holder_of y) lock ≡ counts_lock (forks_of ds) (holder_of x) (holder_of y) lock
    counted x y lock = same-counted cs ds same shaped (holder_of x) (holder_of y) lock

-- the counts
pub same-chunk-count : (cs ds : List Chunk) → SameChunks cs ds → length cs ≡ length ds
same-chunk-count cs ds same = sym (length-map cs unplaced) ∙ perm-length same ∙ length-map ds unplaced

pub same-segment-count : (cs ds : List Chunk) → SameChunks cs ds → length (segments_of cs) ≡ length (segments_of ds)
same-segment-count cs ds same = perm-length (segments-perm cs ds same)

pub same-access-count : (cs ds : List Chunk) → SameChunks cs ds → length (accesses_of cs) ≡ length (accesses_of ds)
same-access-count cs ds same = perm-length (accesses-perm cs ds same)

module _
    (cs ds : List Chunk) (same : SameChunks cs ds)
    (shaped : Shaped cs) (shaped' : Shaped ds) where
  pub same-races : races_of cs ≡ races_of ds
  same-races =
      ascending-unique (races-ascending cs shaped.members_once) (races-ascending ds shaped'.members_once)
      (λ r m. races-intro ds (same-race cs ds same shaped (races-elim cs m)))
      (λ r m. races-intro cs (same-race ds cs (Permᴰ.symm same) shaped' (races-elim ds m)))

  pub same-judgement : judgement_of cs ≡ judgement_of ds
  unfolding judgement_of
  same-judgement =
      rw (same-races, same-chunk-count cs ds same, same-segment-count cs ds same, same-access-count cs ds same)
