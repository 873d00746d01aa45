-- The bundle's races as a list that computes. What a race is stands in `Races`; laws of `proofs/RaceList` say that the list holds exactly
-- the races.
use Rattle.std.specs.Prelude.{ℕ, Bool, cond, not, ◌&&◌, ◌||◌, List, [], ◌∷◌}
use Rattle.bundle.specs.Lists.{up_to, any, concat_map, from_option}
use Rattle.bundle.specs.Chunks.{Chunk}
use Rattle.bundle.specs.Walk.{segments_of, forks_of}
use Rattle.bundle.specs.declared.index.Fork.{Fork}
use Rattle.order.specs.Ranges.{shared_byte, lowest_element}
use Rattle.verdict.specs.GraphTests.{NodePair, closure_of, reaches}
use Rattle.verdict.specs.Accesses.{NamedAccess, accesses_of, name_below, race_below, writes, atomic, race_at}
use Rattle.verdict.specs.Lineages.{Holder, holder_of, counts_lock}
use Rattle.verdict.specs.declared.race.Race.{Race}

-- whether two sides count a lock in common
unfoldable pub common_counted : List Fork → Holder → Holder → Bool
common_counted fs one other = any (λ lock. counts_lock fs one other lock && counts_lock fs other one lock) (up_to 64)

-- what `IsRace` asks of two accesses besides a shared byte, as a test over the closure of the graph and the REGIONs
unfoldable pub clashes : List NodePair → List Fork → NamedAccess → NamedAccess → Bool
clashes closure fs x y =
    name_below x.name y.name
    && (writes x.access.kind || writes y.access.kind)
    && not (atomic x.access.kind && atomic y.access.kind)
    && not (common_counted fs (holder_of x) (holder_of y))
    && not (reaches closure x.node y.node)
    && not (reaches closure y.node x.node)

-- the race of two accesses at the lowest byte that both touch
unfoldable pub race_with : NamedAccess → NamedAccess → ℕ → Race
race_with x y witness =
    race_at x y witness (lowest_element x.access.range witness) (lowest_element y.access.range witness)

unfoldable pub race_of : List NodePair → List Fork → NamedAccess → NamedAccess → List Race
race_of closure fs x y =
    cond (clashes closure fs x y)
    (from_option [] (λ witness. race_with x y witness ∷ []) (shared_byte x.access.range y.access.range))
    []

-- a list of races put into their order
unfoldable pub insert_race : Race → List Race → List Race
insert_race r [] = r ∷ []
insert_race r (q ∷ qs) = cond (race_below r q) (r ∷ q ∷ qs) (q ∷ insert_race r qs)

unfoldable pub in_order : List Race → List Race
in_order [] = []
in_order (r ∷ rs) = insert_race r (in_order rs)

unfoldable pub races_among : List NodePair → List Fork → List NamedAccess → List Race
races_among closure fs xs = concat_map (λ x. concat_map (race_of closure fs x) xs) xs

-- the bundle's races in their order: by races-elim and races-intro exactly those of `IsRace`, and in an accepted bundle by
-- races-ascending each once
unfoldable pub races_of : List Chunk → List Race
races_of cs = in_order (races_among (closure_of (segments_of cs)) (forks_of cs) (accesses_of cs))
