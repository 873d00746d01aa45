-- `order::climb::ForkTree::label_of_chunk` and `order::climb::ForkTree::label_at`, which call each other, meet their contracts: each climb is a law. The measures
-- are twice the team, and one more for a segment of it. Assumes nothing.
use mathlib.Core.Path.{◌∙◌, ap}
use native.Mathlib.Omega.{arith}
use Rattle.order.specs.Climbing.{extended}
use Rattle.order.proofs.Climbs.{fork-team, fork-unfound, fork-found, row-few, room-left, label-from, root-chunk, unforked-chunk, forked-chunk}
use Rattle.order.proofs.climb.ForkTree.+label_at_label_of_chunk.Goals as goal

pub label_at-with-requires : goal.label_at-with-requires
label_at-with-requires t c = room-left _ c.args.self.climbable c.args.team c.label_of_chunk-chunk.result c.label_of_chunk-chunk.ensures

pub label_at-returns : goal.label_at-returns
label_at-returns t c =
    let chunk = c.label_of_chunk-chunk.result in
    c.with.ensures
    ∙ ap (extended chunk.label) c.last_triple.ensures
    ∙ label-from _ c.args.self.climbable c.args.team c.args.member c.args.state chunk c.label_of_chunk-chunk.ensures

pub label_of_chunk-returns-then-team-eq0 : goal.label_of_chunk-returns-then-team-eq0
label_of_chunk-returns-then-team-eq0 t c =
    root-chunk _ c.args.self.climbable c.args.team c.empty.result c.if-team-eq0.true c.empty.ensures

pub label_of_chunk-returns-in_default : goal.label_of_chunk-returns-in_default
label_of_chunk-returns-in_default t c =
    unforked-chunk _ c.args.self.climbable c.args.team c.empty-in_default.result c.if-team-eq0.false c.empty-in_default.ensures
    (fork-unfound _ _ _ c.in_default.ensures)

pub label_of_chunk-label_at-requires : goal.label_of_chunk-label_at-requires
label_of_chunk-label_at-requires t c =
    let lower = fork-team _ c.args.self.climbable.falls (fork-found _ _ _ c.in-Some.ensures c.at-fork.ensures) in (
      omega (arith, c.decreases, lower),
      (row-few _ c.in-Some.i c.at-fork.ensures).1,
    )

pub label_of_chunk-returns : goal.label_of_chunk-returns
label_of_chunk-returns t c =
    forked-chunk _ c.args.self.climbable c.args.team c.at-fork.result c.label_at.result c.if-team-eq0.false
    (fork-found _ _ _ c.in-Some.ensures c.at-fork.ensures)
    c.label_at.ensures
