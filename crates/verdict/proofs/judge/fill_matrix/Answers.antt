-- `verdict::judge::fill_matrix` meets its contract. Assumes nothing.
use mathlib.Core.Path.{sym}
use Rattle.verdict.proofs.JudgeCases.{matrix-long, matrix-filled}
use Rattle.verdict.proofs.judge.fill_matrix.Goals as goal

pub slice_bounds-reach-end-2 : goal.slice_bounds-reach-end-2
slice_bounds-reach-end-2 c =
    sym (matrix-long c.args.area.now c.requires.1)

pub reach-requires : goal.reach-requires
reach-requires c =
    (c.requires.0, matrix-long c.args.area.now c.requires.1)

pub returns : goal.returns
returns c =
    matrix-filled c.args.area.now c.requires.1 _ c.reach.ensures
