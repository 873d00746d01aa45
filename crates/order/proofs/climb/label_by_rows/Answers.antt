-- `order::climb::label_by_rows` meets its contract: the chunk's row, the regions joined, and the label by climbing. Assumes nothing.
use mathlib.Core.Path.{subst}
use Rattle.bundle.specs.Index.{fork_rows_in}
use Rattle.order.specs.Labels.{Labelled}
use Rattle.order.proofs.Climbs.{chunk-missing, segment-missing, segment-there, labelled, unlabelled}
use Rattle.order.proofs.climb.label_by_rows.Goals as goal

pub returns-in_default : goal.returns-in_default
returns-in_default c = unlabelled _ (chunk-missing _ _ _ _ _ _ c.in_default.ensures)

pub returns-then-row-barriers : goal.returns-then-row-barriers
returns-then-row-barriers c =
    unlabelled _ (segment-missing _ _ _ _ _ _ c.in-Some.ensures c.at-row.ensures c.joined_before-joined.ensures c.if-row-barriers.true)

pub returns : goal.returns
returns c =
    let a = c.args in
    subst (Labelled _)
    (segment-there _ _ _ _ _ _ c.in-Some.ensures c.at-row.ensures c.joined_before-joined.ensures c.if-row-barriers.false)
    (labelled (fork_rows_in a.tree.forks) a.team a.member _ c.label_at.result c.label_at.ensures)
