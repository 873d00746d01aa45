-- `verdict::judge::fill_rows` meets its contract. Assumes nothing.
use Rattle.verdict.proofs.JudgeCases.{rows-filled}
use Rattle.verdict.proofs.judge.fill_rows.Goals as goal

pub returns : goal.returns
returns c =
    rows-filled c.args.area.now c.requires.2 _ c.fill.ensures
