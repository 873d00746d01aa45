-- `listing::list::settle` meets its contract. Assumes nothing.
use Rattle.listing.proofs.SettleLaws.{settled-none, settled-all, fitting-parts}
use Rattle.listing.proofs.list.settle.Goals as goal

pub returns-then-not-fits : goal.returns-then-not-fits
returns-then-not-fits c =
    let start = c.args in
    settled-none _ start.accesses start.races start.names.now start.numbers.now start.spare.now c.fits.ensures c.if-not-fits.true c.clear_all.ensures

pub put_all-requires : goal.put_all-requires
put_all-requires c =
    fitting-parts _ c.args.accesses c.args.races c.args.names.now c.args.numbers.now c.args.spare.now c.fits.ensures c.requires c.if-not-fits.false

pub returns : goal.returns
returns c =
    let start = c.args in
    settled-all _ start.accesses start.races start.names.now start.numbers.now start.spare.now c.fits.ensures c.if-not-fits.false c.put_all.ensures
