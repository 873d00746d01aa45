-- `verdict::judge::next_race` meets its contract. Assumes nothing.
use mathlib.Core.Path.{◌≡◌}
use borrow.Author.Rules.{rules}
use Rattle.std.specs.declared.result.Result.TheVariants.{Err}
use Rattle.verdict.proofs.JudgeCases.{next-given, next-refusal}
use Rattle.verdict.proofs.judge.next_race.Goals as goal

pub returns-in_err-counted : goal.returns-in_err-counted
returns-in_err-counted c =
    let passed : c.from_residual.result ≡ Err c.in_err-counted.field-0.0 = search rules in
    rw passed (next-refusal _ _ _ _ _ c.in_err-counted.ensures)

pub returns : goal.returns
returns c = next-given _ _ _ _ _ c.in_ok-counted.ensures
