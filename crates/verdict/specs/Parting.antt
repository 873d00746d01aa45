-- Two unordered accesses always part into different members of one team (A.3).
use Rattle.std.specs.Prelude.{ℕ, ◌≡◌}
use mathlib.Core.List.{List, [], ◌∷◌, ◌++◌, Memᴰ}
use Rattle.bundle.specs.Chunks.{chunks_of}
use Rattle.bundle.specs.Check.{Accepted, forks_of}
use Rattle.verdict.specs.Graph.{GraphPath, segments_of}
use Rattle.verdict.specs.Accesses.{NamedAccess, accesses_of}
use Rattle.verdict.specs.Lineages.{Holder, holder_of, lineage, up_to_parting}

-- two lineages, each from an access up to the root, go through the same chunks above one team, and there they part into different
-- members; what counts on each side is all below that team and the member in it
pub record Parting (one other : List Holder) : Type 0 where
  pub above : List Holder
  pub member : Holder
  pub other_member : Holder
  pub below : List Holder
  pub other_below : List Holder
  pub whole : one ≡ below ++ (member ∷ above)
  pub other_whole : other ≡ other_below ++ (other_member ∷ above)
  pub one_team : member.team ≡ other_member.team
  pub different_members : member.member ≡ other_member.member → ⊥
  pub counted : up_to_parting one other ≡ below ++ (member ∷ [])
  pub other_counted : up_to_parting other one ≡ other_below ++ (other_member ∷ [])

-- for every accepted bundle and any two of its accesses with no path either way
abbrev pub UnorderedPart : Type 0
UnorderedPart =
    (s : List ℕ) → Accepted s → (x y : NamedAccess)
    → Memᴰ x (accesses_of (chunks_of s))
    → Memᴰ y (accesses_of (chunks_of s))
    → (GraphPath (segments_of (chunks_of s)) x.node y.node → ⊥)
    → (GraphPath (segments_of (chunks_of s)) y.node x.node → ⊥)
    → Parting (lineage (forks_of (chunks_of s)) (holder_of x)) (lineage (forks_of (chunks_of s)) (holder_of y))
