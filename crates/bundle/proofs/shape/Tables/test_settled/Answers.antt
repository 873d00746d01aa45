-- `bundle::shape::Tables::test_settled` meets its contract. Assumes nothing.
use mathlib.Core.Path.{◌∙◌}
use native.Mathlib.Omega.{arith}
use borrow.Author.Rules.{rules}
use Rattle.bundle.specs.Shape.{lacks_at, deep_at}
use Rattle.bundle.proofs.FailingAt.{found-at, found-none}
use Rattle.bundle.proofs.ShapeTests.{root-missing, chunk-missing, one-deep, none_deep}
use Rattle.bundle.proofs.shape.Tables.test_settled.Goals as goal

pub returns-then-not-met : goal.returns-then-not-met
returns-then-not-met c = c.refuse.ensures ∙ root-missing _ _ _ _ _ _ _ c.requires c.slot_of.ensures c.met.ensures c.if-not-met.true

pub returns-in-Some : goal.returns-in-Some
returns-in-Some c =
    let lacks = found-at {t = lacks_at _ _} c.first_failing.ensures c.in-Some.is (λ i b e. search rules) in
    rw c.at.ensures at c.refuse-in-Some.ensures
    ∙ chunk-missing _ _ _ _ _ _ _ c.requires c.slot_of.ensures c.met.ensures c.if-not-met.false lacks.1 lacks.0

pub returns-in-Some-first_failing : goal.returns-in-Some-first_failing
returns-in-Some-first_failing c =
    let lacks = found-none {t = lacks_at _ _} c.first_failing.ensures c.in_default.is (λ i b e. search rules) in
    let deep = found-at {t = deep_at _ _} c.first_failing-2.ensures c.in-Some-first_failing.is (λ i b e. search rules) in
    rw c.at-in-Some-first_failing.ensures at c.refuse-in-Some-first_failing.ensures
    ∙ one-deep _ _ _ _ _ _ _ c.requires c.slot_of.ensures c.met.ensures c.if-not-met.false lacks (omega arith) deep.1 deep.0

pub returns : goal.returns
returns c =
    let lacks = found-none {t = lacks_at _ _} c.first_failing.ensures c.in_default.is (λ i b e. search rules) in
    let deep = found-none {t = deep_at _ _} c.first_failing-2.ensures c.in_default-first_failing.is (λ i b e. search rules) in
    c.test_barriers.ensures ∙ none_deep _ _ _ _ _ _ _ c.requires c.slot_of.ensures c.met.ensures c.if-not-met.false lacks (omega arith) deep (omega arith)
