-- `pages::line::Listing::put_line_with` meets its contract. Assumes nothing.
use Rattle.pages.proofs.Indexing.{line_first, at-race, at_last, at_none, printed-none}
use Rattle.text.proofs.Printing.{printed-as}
use Rattle.pages.proofs.line.Listing.put_line_with.Goals as goal

pub returns-then-index-eq0 : goal.returns-then-index-eq0
returns-then-index-eq0 c = printed-as _ _ (rw c.if-index-eq0.true (line_first _ _ _)) c.put_counts.ensures

pub returns-then-index-races : goal.returns-then-index-races
returns-then-index-races c =
    printed-as _ _ (at-race _ _ _ _ _ c.shown-races.ensures c.if-index-eq0.false c.if-index-races.true) c.put_number.ensures

pub returns-then-index-races-2 : goal.returns-then-index-races-2
returns-then-index-races-2 c = printed-as _ _ (at_last _ _ _ _ _ c.shown-races.ensures c.if-index-races-2.true) c.put_last.ensures

pub returns : goal.returns
returns c =
    printed-as _ _ (at_none _ _ _ _ _ c.shown-races.ensures c.if-index-races.false c.if-index-races-2.false) (printed-none _ _)
