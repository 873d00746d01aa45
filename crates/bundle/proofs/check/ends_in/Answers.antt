-- `bundle::check::ends_in` meets its contract. Assumes nothing.
use mathlib.Core.Path.{refl}
use native.Mathlib.Omega.{arith}
use Rattle.bundle.proofs.Tables.{below-some, below-none}
use Rattle.bundle.proofs.CheckCases.{ends-none, ends_some}
use Rattle.bundle.proofs.check.ends_in.Goals as goal

pub returns-in_default : goal.returns-in_default
returns-in_default c = ends-none _ _ _ _ _ refl (below-none c.in_default.ensures)

pub returns : goal.returns
returns c =
    let i = below-some c.in-Some.ensures in
    ends_some _ _ _ _ _ i.0 (omega (arith, i.0, i.1)) c.at-row.ensures
