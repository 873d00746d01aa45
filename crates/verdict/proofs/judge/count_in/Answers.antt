-- `verdict::judge::count_in` meets its contract. Assumes nothing.
use mathlib.Core.Path.{◌≡◌, refl}
use native.Mathlib.Omega.{arith}
use borrow.Author.Rules.{rules}
use Rattle.std.specs.declared.result.Result.TheVariants.{Err}
use Rattle.verdict.proofs.JudgeCases.{regions-of, area-fits, census-counted}
use Rattle.verdict.proofs.judge.count_in.Goals as goal

pub fill_area-counts-requires : goal.fill_area-counts-requires
fill_area-counts-requires c = (c.in_ok-indexed.ensures.accepted, c.requires)

pub tally_area-tally-requires : goal.tally_area-tally-requires
tally_area-tally-requires c =
    let indexed = c.in_ok-indexed.ensures in
    area-fits _ _ c.fill_area-counts.ensures.0 indexed.accepted (regions-of indexed) (omega (arith, c.fill_area-counts.ensures.1, c.requires))

pub returns : goal.returns
returns c =
    let indexed = c.in_ok-indexed.ensures in (
      (indexed.accepted, census-counted _ _ c.fill_area-counts.ensures.0 indexed _ c.tally_area-tally.ensures),
      c.fill_area-counts.ensures.1,
    )

pub returns-in_err-indexed : goal.returns-in_err-indexed
returns-in_err-indexed c =
    let passed : c.from_residual.result ≡ Err c.in_err-indexed.field-0.0 = search rules in
    rw passed (c.in_err-indexed.ensures, refl)
