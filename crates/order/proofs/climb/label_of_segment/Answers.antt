-- `order::climb::label_of_segment` meets its contract: as check, then the label by the index of an accepted bundle. Assumes nothing.
use mathlib.Core.Path.{subst}
use Rattle.std.proofs.lemmas.Result.{err_from_is_err_and}
use Rattle.order.specs.Labels.{Labelled}
use Rattle.order.proofs.Climbs.{climbable-rows, joinable-rows, found-label, check-refuses, unlabelled}
use Rattle.order.proofs.climb.label_of_segment.Goals as goal

pub returns-in_err-counts : goal.returns-in_err-counts
returns-in_err-counts c =
    let a = c.args in
    let p = err_from_is_err_and c.from_residual.result c.from_residual.ensures.1 in
    rw (p.1, p.2) (unlabelled _ (check-refuses a.bytes.now a.team a.member a.segment c.in_err-counts.ensures))

pub label_by_rows-requires : goal.label_by_rows-requires
label_by_rows-requires c = joinable-rows c.in_ok-counts.ensures _ _ _

pub invariant_of-label_by_rows : goal.invariant_of-label_by_rows
invariant_of-label_by_rows c = record { climbable = climbable-rows c.in_ok-counts.ensures }

pub returns : goal.returns
returns c =
    let a = c.args in
    subst (Labelled c.label_by_rows.result) (found-label c.in_ok-counts.ensures a.team a.member a.segment) c.label_by_rows.ensures
