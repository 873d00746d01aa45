-- `bundle::shape::test_all` meets its contract. Assumes nothing.
use mathlib.Core.Path.{◌∙◌}
use native.Mathlib.Omega.{arith}
use borrow.Author.Rules.{rules}
use Rattle.bundle.specs.Shape.{forked_by}
use Rattle.bundle.proofs.FailingAt.{found-at, found-none}
use Rattle.bundle.proofs.ShapeTests.{forked-twice, one-stray, none-stray, past-9}
use Rattle.bundle.proofs.shape.test_all.Goals as goal

pub returns-in-Some : goal.returns-in-Some
returns-in-Some c =
    let forked = found-at {t = forked_by _ _} c.first_failing.ensures c.in-Some.is (λ i b e. search rules) in
    rw c.at.ensures at c.refuse.ensures ∙ forked-twice _ _ _ _ _ c.requires.by_team forked.1 forked.0

pub returns-in-Some-first_stray : goal.returns-in-Some-first_stray
returns-in-Some-first_stray c =
    let forked = found-none {t = forked_by _ _} c.first_failing.ensures c.in_default.is (λ i b e. search rules) in
    let stray = found-at c.first_stray.ensures.first c.in-Some-first_stray.is (λ i b e. e) in
    let met = rw c.in-Some-first_stray.is at c.first_stray.ensures.met in
    rw c.at-in-Some-first_stray.ensures at c.refuse-in-Some-first_stray.ensures
    ∙ one-stray _ _ _ _ _ c.requires.by_team forked (omega arith) stray.1 met stray.0

pub test_settled-requires : goal.test_settled-requires
test_settled-requires c =
    let forked = found-none {t = forked_by _ _} c.first_failing.ensures c.in_default.is (λ i b e. search rules) in
    let stray = found-none c.first_stray.ensures.first c.in_default-first_stray.is (λ i b e. e) in
    none-stray _ _ _ _ _ c.requires.by_team forked (omega arith) stray (rw c.in_default-first_stray.is at c.first_stray.ensures.met) (omega arith)

pub returns : goal.returns
returns c =
    let forked = found-none {t = forked_by _ _} c.first_failing.ensures c.in_default.is (λ i b e. search rules) in
    let stray = found-none c.first_stray.ensures.first c.in_default-first_stray.is (λ i b e. e) in
    let met = rw c.in_default-first_stray.is at c.first_stray.ensures.met in
    c.test_settled.ensures ∙ past-9 _ _ _ _ _ c.requires.by_team forked (omega arith) stray met (omega arith)
