-- `listing::names::copy_rows` meets its contract. The invariant: the rows passed are copied. Assumes nothing.
use native.Mathlib.Omega.{arith}
use Rattle.verdict.proofs.AccessRows.{row-slim}
use Rattle.listing.proofs.RankLaws.{copied_none, copied_more}
use Rattle.listing.proofs.names.copy_rows.Goals as goal

pub loop-i-init : goal.loop-i-init
loop-i-init c = copied_none _ _ _

pub add_access-requires : goal.add_access-requires
add_access-requires c =
    let fits = c.requires.1 in (
      record { below = omega (arith, c.loop-i-test.true, fits.few); whole = omega (arith, c.loop-i.invariant.long, fits.whole) },
      rw c.access_at.ensures (row-slim _ _),
    )

pub loop-i-preserved : goal.loop-i-preserved
loop-i-preserved c = copied_more _ _ _ c.loop-i.invariant c.add_access.ensures c.access_at.ensures
