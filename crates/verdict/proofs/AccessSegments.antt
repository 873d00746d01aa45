-- Each access of a bundle stands in one of its segments.
use Prim.Native.Nat.{ℕ, ◌+◌}
use mathlib.Core.Path.{◌≡◌, refl, sym, ◌∙◌, ap, subst}
use mathlib.Core.Logic.{◌⊎◌, inl, inr}
use mathlib.Core.List.Memᴰ
use mathlib.Core.List.{List, [], ◌∷◌, ◌++◌, map, Memᴰ}
use native.Mathlib.Nat.{add-zero}
use Rattle.bundle.specs.Lists.{concat_map}
use Rattle.bundle.specs.Chunks.{Placed, Chunk, fresh, after_command}
use Rattle.bundle.specs.Walk.{Border, of_chunk, of_barrier, of_region, borders, opens_segment, adds_access, Entry, entries_from, entries_of, Opening, opening_at, segments_from}
use Rattle.bundle.specs.declared.chunk.ChunkState.{ChunkState}
use Rattle.bundle.specs.declared.command.Command.{Command}
use Rattle.bundle.proofs.ListLaws.{concat_map-elim, concat_map-intro}
use Rattle.bundle.proofs.Delimiters.{Accessing, accesses_some, accesses_none, accessings, on-no-access, Opens, opens_member, opens_region, opens_barrier, opens_none, openings, on-no-opening}
use Rattle.bundle.proofs.WalkLaws.{first-segment}
use Rattle.verdict.specs.Graph.{Segment, segments_in, segments_of}
use Rattle.verdict.specs.Accesses.{NamedAccess, access_at, accesses_in, accesses_of}

-- the segment that an access stands in
pub record Standing (ss : List Segment) (x : NamedAccess) : Type 0 where
  pub segment : Segment
  pub present : Memᴰ segment ss
  pub node : segment.node ≡ x.node
  pub team : x.name.team ≡ x.node.team
  pub member : x.name.member ≡ x.node.member

standing-in : {ss ss' : List Segment} {x : NamedAccess} → ((g : Segment) → Memᴰ g ss → Memᴰ g ss') → Standing ss x → Standing ss' x
standing-in f w = record { segment = w.segment; present = f w.segment w.present; node = w.node; team = w.team; member = w.member }

module _ (t m : ℕ) where
  module _ (p : Placed) (k : ChunkState) (g n : ℕ) (x : NamedAccess) where
    abbrev entry_of : Command → Entry
    entry_of c = record { at = p.at; command = c; state = k; segment = g; accesses = n }

    -- an access of the command stands in the segment that is open there
    stands_here : (c : Command) → Accessing c → (o : Opening) (os : List Opening) → Memᴰ x (access_at t m (entry_of c)) → Standing (segments_from t m g o os) x
    unfolding access_at
    stands_here c (accesses_some a) o os l =
        let f = first-segment t m g o os in
        let e : x ≡ record { name = record { team = t; member = m; number = n }; node = record { team = t; member = m; number = g }; access = a; locks = k.locks } =
        Memᴰ.eq_of_singleton l
        in
        record {
          segment = f.segment;
          present = subst (Memᴰ f.segment) (sym f.parts) (Memᴰ.head refl);
          node = f.node ∙ ap (λ (y : NamedAccess). y.node) (sym e);
          team = ap (λ (y : NamedAccess). y.name.team) e ∙ ap (λ (y : NamedAccess). y.node.team) (sym e);
          member = ap (λ (y : NamedAccess). y.name.member) e ∙ ap (λ (y : NamedAccess). y.node.member) (sym e);
        }
    stands_here c (accesses_none h) o os l = absurd (Memᴰ.not-nil (subst (Memᴰ x) (on-no-access [] _ c h) l))

    -- one of the commands behind it, in a segment from the next opening on
    stands-behind :
        (c : Command)
        → Opens c
        → (o : Opening) (os : List Opening)
        → ((q : Opening) → Standing (segments_from t m (g + opens_segment c) q os) x)
        → Standing (segments_from t m g o (opening_at (entry_of c) ++ os)) x
    unfolding opening_at borders opens_segment segments_from
    stands-behind c (opens_member u v) o os r = standing-in (λ h l. Memᴰ.tail l) (r _)
    stands-behind c (opens_region u z) o os r = standing-in (λ h l. Memᴰ.tail l) (r _)
    stands-behind c opens_barrier o os r = standing-in (λ h l. Memᴰ.tail l) (r _)
    stands-behind c (opens_none e) o os r =
        let none : opening_at (entry_of c) ≡ [] =
        ap (map (λ (b : Border). record { border = b; state = after_command k c })) (on-no-opening [] (of_chunk ∷ []) (λ u. of_region u ∷ []) (of_barrier k.barriers ∷ []) c e)
        in
        let still : g + opens_segment c ≡ g = ap (λ (i : ℕ). g + i) (on-no-opening {A = ℕ} 0 1 (λ u. 1) 1 c e) ∙ add-zero g in
        rw none (subst (λ (i : ℕ). Standing (segments_from t m i o os) x) still (r o))

  stands_from :
      (k : ChunkState) (g n : ℕ) (ps : List Placed) {x : NamedAccess}
      → Memᴰ x (concat_map (access_at t m) (entries_from k g n ps))
      → (o : Opening)
      → Standing (segments_from t m g o (concat_map opening_at (entries_from k g n ps))) x
  unfolding entries_from
  stands_from k g n [] l o = absurd (Memᴰ.not-nil l)
  stands_from k g n (p ∷ ps) {x} l o =
      go (stands_from k' g' n' ps) (Memᴰ.append_cases (access_at t m (entry_of p k g n x p.command)) l)
    where
      k' : ChunkState
      k' = after_command k p.command

      g' : ℕ
      g' = g + opens_segment p.command

      n' : ℕ
      n' = n + adds_access p.command

      behind : List Entry
      behind = entries_from k' g' n' ps

      go :
          (Memᴰ x (concat_map (access_at t m) behind) → (q : Opening) → Standing (segments_from t m g' q (concat_map opening_at behind)) x)
          → Memᴰ x (access_at t m (entry_of p k g n x p.command)) ⊎ Memᴰ x (concat_map (access_at t m) behind)
          → Standing (segments_from t m g o (opening_at (entry_of p k g n x p.command) ++ concat_map opening_at behind)) x
      go ih (inl i) = stands_here p k g n x p.command (accessings p.command) o _ i
      go ih (inr i) = stands-behind p k g n x p.command (openings p.command) o (concat_map opening_at behind) (ih i)

-- each access of a bundle stands in one of its segments
pub stands : (cs : List Chunk) {x : NamedAccess} → Memᴰ x (accesses_of cs) → Standing (segments_of cs) x
unfolding accesses_of accesses_in segments_of segments_in entries_of
stands cs l =
    let c = concat_map-elim accesses_in cs l in
    standing-in (λ g m. concat_map-intro segments_in c.present m) (stands_from c.source.team c.source.member fresh 0 0 c.source.body c.gives (record { border = of_chunk; state = fresh }))
