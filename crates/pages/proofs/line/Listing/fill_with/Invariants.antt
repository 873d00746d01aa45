-- `pages::fill::Listing::fill_with` meets its contract. The invariant: the page so far. Assumes nothing.
use Prim.Native.Nat.{◌≤◌, max}
use Rattle.pages.specs.Listings.{lines_in}
use Rattle.pages.proofs.Paging.{PageTo}
use Rattle.pages.proofs.line.Listing.fill_with.Given as goal

abbrev pub invariant-loop-next : goal.invariant-loop-next
invariant-loop-next l =
    (l.next ≤ max l.from l.lines)
    × PageTo (lines_in l.self.totals l.self.names.now l.self.numbers.now) l.from l.initial.buffer l.next l.size l.buffer
