-- `order::range::first_pair` meets its contract: each step of Euclid's algorithm is a law. The measure is the stride.
-- Assumes nothing.
use Rattle.order.proofs.range.+first_pair.Given as goal

abbrev pub decreases-first_pair : goal.decreases-first_pair
decreases-first_pair l = l.stride
