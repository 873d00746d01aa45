-- `order::climb::ForkTree::label_of_chunk` and `order::climb::ForkTree::label_at`, which call each other, meet their contracts: each climb is a law. The measures
-- are twice the team, and one more for a segment of it. Assumes nothing.
use Prim.Native.Nat.{◌+◌, ◌*◌}
use Rattle.order.proofs.climb.ForkTree.+label_at_label_of_chunk.Given as goal

abbrev pub decreases-label_at : goal.decreases-label_at
decreases-label_at l = 2 * l.team + 1

abbrev pub decreases-label_of_chunk : goal.decreases-label_of_chunk
decreases-label_of_chunk l = 2 * l.team
