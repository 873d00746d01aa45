-- `rows::checker::count_same` meets its contract. Assumes nothing.
use mathlib.Core.Path.{sym, ◌∙◌}
use native.Mathlib.Omega.{arith}
use Rattle.rows.specs.Slots.{row_in}
use Rattle.rows.proofs.Comparing.{unlike-rows}
use Rattle.rows.proofs.Filling.{agree-all, agree-to}
use Rattle.rows.proofs.checker.count_same.Goals as goal

pub returns-then-ne : goal.returns-then-ne
returns-then-ne g c =
    λ given room each.
    let d = row_in c.args.words.now 0 in
    agree-to (row_in c.args.words.now) c.args.count given d room c.loop-i.i c.loop-i-test.true
    (λ k h. each k (omega (arith, h, c.loop-i-test.true)) (row_in c.args.words.now k) d (c.loop-i.invariant k h))
    (λ q. unlike-rows _ _ c.ne.ensures c.if-ne.true (c.row_at.ensures ∙ q ∙ sym (each c.loop-i.i c.loop-i-test.true c.at.result d c.at.ensures)))

pub returns : goal.returns
returns g c =
    λ given room each.
    let d = row_in c.args.words.now 0 in
    agree-all (row_in c.args.words.now) c.args.count given d room
    (λ k h. each k h (row_in c.args.words.now k) d (c.loop-i.invariant k (omega (arith, h, c.loop-i-test.false))))
