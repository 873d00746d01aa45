-- Lineages: the chunks that an access stands in and below, where two lineages part, and the locks that count for two accesses (A.3).
use Rattle.std.specs.Prelude.{ℕ, zero, suc, Bool, cond, List, [], ◌∷◌, eqb}
use Rattle.bundle.specs.Lists.{any, from_option}
use Rattle.bundle.specs.Locks.{holds}
use Rattle.bundle.specs.Check.{fork_of}
use Rattle.bundle.specs.declared.index.Fork.{Fork}
use Rattle.verdict.specs.Accesses.{NamedAccess}

-- a chunk of a lineage, by team and member, and the locks that it holds: at the access, or at the REGION that leads down to it
pub record Holder : Type 0 where
  pub team : ℕ
  pub member : ℕ
  pub locks : ℕ

-- an access in its own chunk: "its own locks"
unfoldable pub holder_of : NamedAccess → Holder
holder_of x = record { team = x.name.team; member = x.name.member; locks = x.locks }

-- the chunks above those of a team, each with the locks "held, at their REGION commands", from the chunk that forks the team up to the
-- root; the team number falls at each
unfoldable pub above_from : ℕ → List Fork → ℕ → List Holder
above_from zero fs t = []
above_from (suc fuel) fs t =
    from_option []
    (λ (f : Fork). record { team = f.parent; member = f.member; locks = f.state.locks } ∷ above_from fuel fs f.parent)
    (fork_of fs t)

-- a lineage, from an access's own chunk up
unfoldable pub lineage : List Fork → Holder → List Holder
lineage fs h = h ∷ above_from (suc h.team) fs h.team

-- whether a lineage has a chunk of a team
unfoldable pub has_team : List Holder → ℕ → Bool
has_team hs t = any (λ (h : Holder). eqb h.team t) hs

-- "the team where their lineages part into different members": on the way up, the first that both have a chunk of; that unordered accesses
-- have different members of it is a theorem (`Parting`). What a lineage has "up to and including that member"
unfoldable pub up_to_parting : List Holder → List Holder → List Holder
up_to_parting [] other = []
up_to_parting (h ∷ hs) other = h ∷ cond (has_team other h.team) [] (up_to_parting hs other)

-- whether an access counts a lock, against another access: "Locks held above the parting team do not count"
unfoldable pub counts_lock : List Fork → Holder → Holder → ℕ → Bool
counts_lock fs one other lock = any (λ (h : Holder). holds lock h.locks) (up_to_parting (lineage fs one) (lineage fs other))
