-- `rewrite::convert::convert` meets its contract. Assumes nothing.
use mathlib.Core.Path.{◌≡◌, sym}
use native.Mathlib.Omega.{arith}
use borrow.Author.Rules.{rules}
use Rattle.std.specs.declared.result.Result.TheVariants.{Err}
use Rattle.rewrite.proofs.Conversions.{conversion}
use Rattle.rewrite.proofs.ConvertPass.{convert-refused, size-refused, sized, too_short, all_put}
use Rattle.rewrite.proofs.convert.convert.Goals as goal

pub returns-in_err-check-clause-buffer_after : goal.returns-in_err-check-clause-buffer_after
returns-in_err-check-clause-buffer_after c =
    let passed : c.from_residual.result ≡ Err c.in_err-check.field-0.0 = search rules in
    rw passed (convert-refused _ _ _ (sym c.in_err-check.ensures))

pub returns-in_err-size-clause-buffer_after : goal.returns-in_err-size-clause-buffer_after
returns-in_err-size-clause-buffer_after c =
    let passed : c.from_residual-in_err-size.result ≡ Err c.in_err-size.field-0.0 = search rules in
    rw passed (size-refused _ _ _ c.in_err-size.ensures)

pub returns-in_err-size-clause-conversion : goal.returns-in_err-size-clause-conversion
returns-in_err-size-clause-conversion c = conversion _ (λ i h. omega (arith, c.type_inv.bytes i))

pub returns-then-buffer-size-clause-buffer_after : goal.returns-then-buffer-size-clause-buffer_after
returns-then-buffer-size-clause-buffer_after c =
    too_short (sized _ _ (λ i h. omega (arith, c.type_inv.bytes i)) (sym c.in_ok-check.ensures) c.in_ok-size.ensures) _ c.if-buffer-size.true

pub returns-then-buffer-size-clause-conversion : goal.returns-then-buffer-size-clause-conversion
returns-then-buffer-size-clause-conversion c = conversion _ (λ i h. omega (arith, c.type_inv.bytes i))

pub put_all-requires : goal.put_all-requires
put_all-requires c =
    let x = sized _ _ (λ i h. omega (arith, c.type_inv.bytes i)) (sym c.in_ok-check.ensures) c.in_ok-size.ensures in
    (x.convertible, omega (arith, x.long, c.if-buffer-size.false))

pub returns-clause-buffer_after : goal.returns-clause-buffer_after
returns-clause-buffer_after c =
    all_put (sized _ _ (λ i h. omega (arith, c.type_inv.bytes i)) (sym c.in_ok-check.ensures) c.in_ok-size.ensures) _ c.if-buffer-size.false c.put_all.ensures

pub returns-clause-conversion : goal.returns-clause-conversion
returns-clause-conversion c = conversion _ (λ i h. omega (arith, c.type_inv.bytes i))
