-- Chunks with their accesses in another group: the same segments, races and judgement.
use Prim.Native.Nat.{ℕ}
use mathlib.Core.Path.{◌≡◌, refl, ap}
use mathlib.Core.Bool.{Bool}
use mathlib.Core.List.{List, [], ◌∷◌, map}
use lib.ListN.{length-map}
use Rattle.bundle.specs.Lists.{concat_map}
use Rattle.bundle.specs.Chunks.{Chunk, after_command}
use Rattle.bundle.specs.Walk.{borders, Entry, entries_of, opening_at, segments_from, segments_in, segments_of, forks_of}
use Rattle.bundle.specs.declared.index.Fork.{Fork}
use Rattle.bundle.specs.declared.command.Command.{Command}
use Rattle.bundle.proofs.ListLaws.{concat_map-along, concat_map-map}
use Rattle.bundle.proofs.Delimiters.{on-no-access, Accessing, accesses_some, accesses_none, accessings}
use Rattle.bundle.proofs.ShapeAlike.{forks-alike}
use Rattle.verdict.specs.GraphTests.{NodePair, closure_of}
use Rattle.verdict.specs.Accesses.{NamedAccess, access_at, accesses_in, accesses_of, race_at}
use Rattle.verdict.specs.Lineages.{holder_of}
use Rattle.verdict.specs.RaceLists.{clashes, race_with, race_of, races_among, in_order, races_of}
use Rattle.verdict.specs.Judge.{judgement_of}
use Rattle.rewrite.specs.Converting.{in_group, regrouped}
use Rattle.rewrite.proofs.Regrouping.{regrouped-keeps}
use Rattle.rewrite.proofs.RegroupedChunks.{regrouped_chunk, regrouped_entry, entries-regrouped, alike-regrouped}

-- races look at no group
module _ (w : Bool) where
  unfoldable pub regrouped_access : NamedAccess → NamedAccess
  regrouped_access x = record { name = x.name; node = x.node; access = in_group w x.access; locks = x.locks }

  same-race : (closure : List NodePair) (fs : List Fork) (x y : NamedAccess) → race_of closure fs (regrouped_access x) (regrouped_access y) ≡ race_of closure fs x y
  unfolding race_of clashes race_with race_at holder_of regrouped_access in_group
  same-race closure fs x y = refl

  races-with : (closure : List NodePair) (fs : List Fork) (x : NamedAccess) (ys : List NamedAccess)
      → concat_map (race_of closure fs (regrouped_access x)) (map regrouped_access ys) ≡ concat_map (race_of closure fs x) ys
  races-with closure fs x [] = refl
  races-with closure fs x (y ∷ ys) = rw (same-race closure fs x y, races-with closure fs x ys)

  races-of : (closure : List NodePair) (fs : List Fork) (xs ys : List NamedAccess)
      → concat_map (λ x. concat_map (race_of closure fs x) (map regrouped_access ys)) (map regrouped_access xs) ≡ concat_map (λ x. concat_map (race_of closure fs x) ys) xs
  races-of closure fs [] ys = refl
  races-of closure fs (x ∷ xs) ys = rw (races-with closure fs x ys, races-of closure fs xs ys)

  -- segments and accesses
  opening-regrouped : (e : Entry) → opening_at (regrouped_entry w e) ≡ opening_at e
  unfolding opening_at borders after_command regrouped_entry
  opening-regrouped e =
      regrouped-keeps (λ (c : Command). opening_at (record { at = e.at; command = c; state = e.state; segment = e.segment; accesses = e.accesses })) w (λ a. refl) e.command

  segments-in-regrouped : (c : Chunk) → segments_in (regrouped_chunk w c) ≡ segments_in c
  unfolding segments_in
  segments-in-regrouped c =
      rw (entries-regrouped w c)
      (unfold regrouped_chunk in
      (ap (segments_from c.team c.member 0 _) (concat_map-map opening_at (regrouped_entry w) opening-regrouped (entries_of c))))

  segments-regrouped : (cs : List Chunk) → segments_of (map (regrouped_chunk w) cs) ≡ segments_of cs
  unfolding segments_of
  segments-regrouped cs = concat_map-map segments_in (regrouped_chunk w) segments-in-regrouped cs

  access-regrouped : (t m : ℕ) (e : Entry) → access_at t m (regrouped_entry w e) ≡ map regrouped_access (access_at t m e)
  unfolding access_at regrouped_entry regrouped_access regrouped
  access-regrouped t m e = go (accessings e.command)
    where
      at : Command → List NamedAccess
      at c = access_at t m (record { at = e.at; command = c; state = e.state; segment = e.segment; accesses = e.accesses })

      go : {c : Command} → Accessing c → at (regrouped w c) ≡ map regrouped_access (at c)
      go (accesses_some a) = refl
      go (accesses_none {c = c} n) = rw (on-no-access c _ c n, on-no-access {A = List NamedAccess} [] _ c n)

  accesses-in-regrouped : (c : Chunk) → accesses_in (regrouped_chunk w c) ≡ map regrouped_access (accesses_in c)
  unfolding accesses_in
  accesses-in-regrouped c =
      rw (entries-regrouped w c)
      (unfold regrouped_chunk in
      (concat_map-along (access_at c.team c.member) (regrouped_entry w) regrouped_access (access-regrouped c.team c.member) (entries_of c)))

  accesses-regrouped : (cs : List Chunk) → accesses_of (map (regrouped_chunk w) cs) ≡ map regrouped_access (accesses_of cs)
  unfolding accesses_of
  accesses-regrouped cs = concat_map-along accesses_in (regrouped_chunk w) regrouped_access accesses-in-regrouped cs

  races-regrouped : (cs : List Chunk) → races_of (map (regrouped_chunk w) cs) ≡ races_of cs
  unfolding races_of races_among
  races-regrouped cs =
      rw (segments-regrouped cs, forks-alike (regrouped_chunk w) (alike-regrouped w) cs, accesses-regrouped cs)
      (ap in_order (races-of (closure_of (segments_of cs)) (forks_of cs) (accesses_of cs) (accesses_of cs)))

  pub judgement-regrouped : (cs : List Chunk) → judgement_of (map (regrouped_chunk w) cs) ≡ judgement_of cs
  unfolding judgement_of
  judgement-regrouped cs =
      rw (races-regrouped cs, segments-regrouped cs, accesses-regrouped cs, length-map cs (regrouped_chunk w), length-map (accesses_of cs) regrouped_access)
