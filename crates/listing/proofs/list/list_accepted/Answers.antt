-- `listing::list::list_accepted` meets its contract. Assumes nothing.
use mathlib.Core.Path.{refl, sym}
use native.Mathlib.Omega.{arith}
use Rattle.listing.proofs.ListCases.{ordered-in, ordered-fits, races-few, kept}
use Rattle.listing.proofs.list.list_accepted.Goals as goal

pub fill_area-counts-requires : goal.fill_area-counts-requires
fill_area-counts-requires c = let pre = c.requires in (pre.0, pre.2)

pub order_area-requires : goal.order_area-requires
order_area-requires c =
    let filled = c.fill_area-counts.ensures in
    (omega (arith, filled.1, c.requires.2), omega (arith, filled.0.access_count, filled.0.rows.few), refl)

pub slice_bounds-push_area-end : goal.slice_bounds-push_area-end
slice_bounds-push_area-end c = sym c.order_area.ensures.long

pub push_area-races-requires : goal.push_area-races-requires
push_area-races-requires c =
    let filled = c.fill_area-counts.ensures in
    let pre = c.requires in
    ordered-fits _ _ filled.0 (omega (arith, filled.1, pre.2)) c.order_area.ensures refl pre.0 pre.1

pub slice_bounds-settle-end : goal.slice_bounds-settle-end
slice_bounds-settle-end c = sym c.order_area.ensures.long

pub settle-whole-requires : goal.settle-whole-requires
settle-whole-requires c =
    let filled = c.fill_area-counts.ensures in
    ordered-in _ _ filled.0 (omega (arith, filled.1, c.requires.2)) c.order_area.ensures refl

pub overflow_cast-result : goal.overflow_cast-result
overflow_cast-result c =
    let filled = c.fill_area-counts.ensures in
    record { fits = races-few _ _ filled.0 (omega (arith, filled.1, c.requires.2)) c.order_area.ensures refl _ c.push_area-races.ensures }

pub returns : goal.returns
returns c =
    let filled = c.fill_area-counts.ensures in
    let pre = c.requires in (
      kept _ _ filled.0 (omega (arith, filled.1, pre.2)) c.order_area.ensures refl pre.0 pre.1
          (λ i. omega (arith, c.slice_known-5-1.given i)) _ _ _ c.push_area-races.ensures c.settle-whole.ensures refl,
      filled.1,
    )
