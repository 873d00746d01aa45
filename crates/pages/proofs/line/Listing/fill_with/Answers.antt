-- `pages::fill::Listing::fill_with` meets its contract. Assumes nothing.
use mathlib.Core.Path.{◌≡◌}
use native.Mathlib.Omega.{arith}
use Rattle.pages.proofs.Paging.{page-begun, fill-ended, fill-gone-on, fill-full}
use Rattle.pages.proofs.line.Listing.fill_with.Goals as goal

pub loop-next-init : goal.loop-next-init
loop-next-init c = (omega arith, page-begun _ _ _)

pub returns-then-after-size : goal.returns-then-after-size
returns-then-after-size c =
    fill-full _ _ _ (omega (arith, c.shown.ensures)) c.loop-next.invariant.1 c.loop-next-test.true c.put_next-after.ensures c.if-after-size.true

pub loop-next-preserved : goal.loop-next-preserved
loop-next-preserved c =
    (omega arith, fill-gone-on _ _ _ (omega (arith, c.shown.ensures)) c.loop-next.invariant.1 c.loop-next-test.true c.put_next-after.ensures c.if-after-size.false)

pub returns : goal.returns
returns c =
    let last : c.max.result ≡ c.loop-next.next = omega (arith, c.max.ensures, c.loop-next.invariant.0, c.loop-next-test.false, c.loop-next.auto.next) in
    rw last (fill-ended _ _ _ (omega (arith, c.shown.ensures)) c.loop-next.invariant.1 c.loop-next-test.false)
