-- `rows::checker::check_given` meets its contract. Assumes nothing.
use mathlib.Core.Path.{◌≡◌, sym, ◌∙◌}
use borrow.Author.Rules.{rules}
use Rattle.std.specs.declared.result.Result.TheVariants.{Err}
use Rattle.rows.proofs.Answers.{same-of, not-all, told-same, told-other, told-refused}
use Rattle.rows.proofs.checker.check_given.Goals as goal

pub returns-in_err-count : goal.returns-in_err-count
returns-in_err-count g c =
    λ rows long each.
    let passed : c.from_residual.result ≡ Err c.in_err-count.field-0.0 = search rules in
    rw passed (told-refused _ rows c.in_err-count.ensures)

pub returns-then-same-given : goal.returns-then-same-given
returns-then-same-given g c =
    λ rows long each.
    told-same c.in_ok-count.ensures rows (same-of _ _ rows c.min.ensures long each c.count_same-same.ensures) c.if-same-count.true (c.if-same-given.true ∙ long)

pub returns : goal.returns
returns g c =
    λ rows long each.
    told-other c.in_ok-count.ensures rows (same-of _ _ rows c.min.ensures long each c.count_same-same.ensures)
    (λ all as_long. not-all c.else-same-count.either all (as_long ∙ sym long))
