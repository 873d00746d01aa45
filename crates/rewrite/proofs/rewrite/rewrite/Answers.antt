-- `rewrite::rewrite::rewrite` meets its contract. Assumes nothing.
use mathlib.Core.Path.{◌≡◌, ◌∙◌}
use native.Mathlib.Omega.{arith}
use borrow.Author.Rules.{rules}
use Rattle.std.specs.declared.result.Result.TheVariants.{Err}
use Rattle.rewrite.proofs.FixedChunks.{fixed-order}
use Rattle.rewrite.proofs.WordOrder.{by_index, rewrite-accepted, rewrite-refused, filling-short, filling-written}
use Rattle.rewrite.proofs.rewrite.rewrite.Goals as goal

pub returns-in_err-counts-clause-buffer_after : goal.returns-in_err-counts-clause-buffer_after
returns-in_err-counts-clause-buffer_after c =
    let passed : c.from_residual.result ≡ Err c.in_err-counts.field-0.0 = search rules in
    rw passed (rewrite-refused _ _ c.in_err-counts.ensures)

pub returns-then-buffer-bytes-clause-buffer_after : goal.returns-then-buffer-bytes-clause-buffer_after
returns-then-buffer-bytes-clause-buffer_after c =
    filling-short _ (λ i h. omega (arith, c.type_inv.bytes i)) c.in_ok-counts.ensures.accepted _ c.if-buffer-bytes.true
    ∙ rewrite-accepted _ _ c.in_ok-counts.ensures.accepted

pub returns-then-buffer-bytes-clause-fixed_order : goal.returns-then-buffer-bytes-clause-fixed_order
returns-then-buffer-bytes-clause-fixed_order c = fixed-order _ (λ i h. omega (arith, c.type_inv.bytes i))

pub put_chunks-requires : goal.put_chunks-requires
put_chunks-requires c = (by_index _ _ _ c.in_ok-counts.ensures, c.if-buffer-bytes.false)

pub returns-clause-buffer_after : goal.returns-clause-buffer_after
returns-clause-buffer_after c =
    filling-written _ (λ i h. omega (arith, c.type_inv.bytes i)) c.in_ok-counts.ensures.accepted _ c.if-buffer-bytes.false c.put_chunks.ensures
    ∙ rewrite-accepted _ _ c.in_ok-counts.ensures.accepted

pub returns-clause-fixed_order : goal.returns-clause-fixed_order
returns-clause-fixed_order c = fixed-order _ (λ i h. omega (arith, c.type_inv.bytes i))
