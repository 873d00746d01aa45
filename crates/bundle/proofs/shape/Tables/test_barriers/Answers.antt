-- `bundle::shape::Tables::test_barriers` meets its contract. Assumes nothing.
use mathlib.Core.Path.{◌∙◌}
use native.Mathlib.Omega.{arith}
use borrow.Author.Rules.{rules}
use Rattle.bundle.specs.Shape.{unlike_at, uneven_at}
use Rattle.bundle.proofs.FailingAt.{found-at, found-none}
use Rattle.bundle.proofs.ShapeTests.{one-unlike, none-uneven, complete-uneven, cut-uneven}
use Rattle.bundle.proofs.shape.Tables.test_barriers.Goals as goal

pub returns-in_default : goal.returns-in_default
returns-in_default c =
    let first = found-none {t = uneven_at _ _ _} c.first_failing.ensures c.in_default.is (λ i b e. search rules) in
    none-uneven _ _ _ _ _ _ _ c.requires first (omega arith)

pub returns-then-row : goal.returns-then-row
returns-then-row c =
    let first = found-at {t = uneven_at _ _ _} c.first_failing.ensures c.in-Some.is (λ i b e. search rules) in
    rw c.at-row.ensures at c.refuse.ensures ∙ complete-uneven _ _ _ _ _ _ _ c.requires first.1 first.0 c.at-row.ensures c.if-row.true

pub returns-in-Some-first_failing : goal.returns-in-Some-first_failing
returns-in-Some-first_failing c =
    let unlike = found-at {t = unlike_at _ _ _} c.first_failing-2.ensures c.in-Some-first_failing.is (λ i b e. search rules) in
    rw c.at.ensures at c.refuse-in-Some-first_failing.ensures ∙ one-unlike _ _ _ _ _ _ _ c.requires unlike.1 unlike.0

pub returns : goal.returns
returns c =
    let first = found-at {t = uneven_at _ _ _} c.first_failing.ensures c.in-Some.is (λ i b e. search rules) in
    let unlike = found-none {t = unlike_at _ _ _} c.first_failing-2.ensures c.in_default-first_failing.is (λ i b e. search rules) in
    rw c.at-row.ensures at c.refuse-2.ensures ∙ cut-uneven _ _ _ _ _ _ _ c.requires first.1 first.0 c.at-row.ensures c.if-row.false unlike (omega arith)
