-- `verdict::judge::judge` meets its contract. Assumes nothing.
use mathlib.Core.Path.{◌≡◌}
use borrow.Author.Rules.{rules}
use native.Mathlib.Omega.{arith}
use Rattle.std.specs.declared.result.Result.TheVariants.{Err}
use Rattle.verdict.proofs.JudgeCases.{judge-given, judge-refusal, promised}
use Rattle.verdict.proofs.judge.judge.Goals as goal

pub returns-in_err-counted : goal.returns-in_err-counted
returns-in_err-counted c =
    let passed : c.from_residual.result ≡ Err c.in_err-counted.field-0.0 = search rules in
    let e = judge-refusal _ _ c.in_err-counted.ensures in
    rw passed (record { work_value = e; demand3 = promised _ _ _ (λ i h. omega (arith, c.type_inv.bytes i)) e })

pub returns : goal.returns
returns c =
    let e = judge-given _ _ c.in_ok-counted.ensures c.judgement.ensures in
    record { work_value = e; demand3 = promised _ _ _ (λ i h. omega (arith, c.type_inv.bytes i)) e }
