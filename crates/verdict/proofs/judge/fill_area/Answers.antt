-- `verdict::judge::fill_area` meets its contract. Assumes nothing.
use borrow.Author.Rules.{rules}
use mathlib.Core.Path.{refl, ◌∙◌}
use native.Mathlib.Omega.{arith}
use Rattle.verdict.proofs.JudgeCases.{rows-room, tables-for, area-filled}
use Rattle.verdict.proofs.judge.fill_area.Goals as goal

pub fill_rows-counts-requires : goal.fill_rows-counts-requires
fill_rows-counts-requires c = (
  c.requires.0,
  record { end_table = search rules; open_table = search rules; node_table = search rules; row_table = rows-room c.args.area.now c.requires.1 },
  c.requires.1,
)

pub fill_matrix-requires : goal.fill_matrix-requires
fill_matrix-requires c =
    (tables-for _ c.fill_rows-counts.ensures.0 c.requires.0, omega (arith, c.fill_rows-counts.ensures.1, c.requires.1))

pub returns : goal.returns
returns c =
    let closed = c.fill_matrix.ensures in (
      area-filled _ c.fill_rows-counts.ensures.0 c.requires.0 c.fill_rows-counts.new.area _ refl closed,
      closed.len ∙ c.fill_rows-counts.ensures.1,
    )
