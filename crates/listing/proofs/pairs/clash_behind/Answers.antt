-- `listing::pairs::clash_behind` meets its contract. Assumes nothing.
use borrow.Author.Tests.{lt-ltb, le-ltb}
use native.Mathlib.Omega.{arith}
use Rattle.listing.proofs.pairs.clash_behind.Goals as goal

pub returns-then-j-one : goal.returns-then-j-one
returns-then-j-one c = rw (le-ltb _ _ c.if-j-one.true)

pub returns : goal.returns
returns c =
    let start = c.args in
    rw (lt-ltb start.one.at start.j (omega (arith, c.if-j-one.false))) c.clash.ensures
