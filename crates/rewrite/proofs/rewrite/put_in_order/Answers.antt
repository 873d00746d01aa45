-- `rewrite::rewrite::put_in_order` meets its contract. Assumes nothing.
use native.Mathlib.Omega.{arith}
use Rattle.rewrite.proofs.WordOrder.{ordered-fit, ordered-put}
use Rattle.rewrite.proofs.rewrite.put_in_order.Goals as goal

pub copy_chunks-requires : goal.copy_chunks-requires
copy_chunks-requires c = ordered-fit _ _ _ (λ i h. omega (arith, c.type_inv.bytes i)) c.requires.0 c.order_chunks.ensures _ c.requires.1

pub returns : goal.returns
returns c = ordered-put _ _ _ (λ i h. omega (arith, c.type_inv.bytes i)) c.requires.0 c.order_chunks.ensures _ c.copy_chunks.ensures
