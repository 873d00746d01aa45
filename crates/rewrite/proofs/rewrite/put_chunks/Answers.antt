-- `rewrite::rewrite::put_chunks` meets its contract. Assumes nothing.
use Rattle.bundle.proofs.TeamOrder.{front-is}
use Rattle.rewrite.proofs.WordOrder.{for-length}
use Rattle.rewrite.proofs.rewrite.put_chunks.Goals as goal

pub slice_bounds-put_in_order-end : goal.slice_bounds-put_in_order-end
slice_bounds-put_in_order-end c = front-is 512 _ c.requires.0.few

pub put_in_order-requires : goal.put_in_order-requires
put_in_order-requires c = (for-length _ _ (front-is 512 _ c.requires.0.few) c.requires.0, c.requires.1)
