-- `verdict::lineage::Lineages::apart` meets its contract. The invariant: what the two sides count in common stays. The measure: the sum of the two team numbers. Assumes nothing.
use Prim.Native.Nat.{◌+◌}
use mathlib.Core.Path.{◌≡◌}
use Rattle.verdict.specs.RaceLists.{common_counted}
use Rattle.verdict.specs.Linking.{forks_in, side_holder, SidesFit}
use Rattle.verdict.proofs.lineage.Lineages.apart.Given as goal

abbrev pub invariant-loop-first : goal.invariant-loop-first
invariant-loop-first l =
    SidesFit l.self.forks.words.now l.self.links.now l.self.forks.count l.first l.second
    × (common_counted (forks_in l.self.forks.words.now l.self.forks.count) (side_holder l.first) (side_holder l.second)
    ≡ common_counted (forks_in l.self.forks.words.now l.self.forks.count) (side_holder l.initial.first) (side_holder l.initial.second))

abbrev pub decreases-loop-first : goal.decreases-loop-first
decreases-loop-first l = l.first.team + l.second.team
