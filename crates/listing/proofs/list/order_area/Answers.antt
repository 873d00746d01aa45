-- `listing::list::order_area` meets its contract. Assumes nothing.
use native.Mathlib.Omega.{arith}
use Rattle.verdict.proofs.JudgeCases.{rows-room}
use Rattle.listing.proofs.list.order_area.Goals as goal

pub by_name-requires : goal.by_name-requires
by_name-requires c =
    let pre = c.requires in (
      record { few = pre.1; whole = rows-room c.args.area.now pre.0 },
      record { few = pre.1; whole = omega (arith, pre.2) },
    )

pub returns : goal.returns
returns c = c.by_name.ensures
