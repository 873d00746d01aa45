-- `pages::line::put_last` meets its contract. Assumes nothing.
use Rattle.pages.proofs.Indexing.{last-free, last-pairs}
use Rattle.text.proofs.Printing.{printed-as}
use Rattle.pages.proofs.line.put_last.Goals as goal

pub returns-then-races-eq0 : goal.returns-then-races-eq0
returns-then-races-eq0 c = printed-as _ _ (last-free _ c.if-races-eq0.true) c.put_race_free.ensures

pub returns : goal.returns
returns c = printed-as _ _ (last-pairs _ c.if-races-eq0.false) c.put_pairs.ensures
