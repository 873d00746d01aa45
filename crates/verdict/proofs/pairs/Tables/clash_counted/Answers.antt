-- `verdict::pairs::Tables::clash_counted` meets its contract. Assumes nothing.
use Rattle.verdict.proofs.ClashWords.{counted-fails, counted-told}
use Rattle.verdict.proofs.pairs.Tables.clash_counted.Goals as goal

pub clash-requires : goal.clash-requires
clash-requires c = (c.requires.row-in, c.requires.within)

pub returns-then-not-clash : goal.returns-then-not-clash
returns-then-not-clash c = counted-fails c.clash.ensures c.if-not-clash.true _

pub counted_apart-requires : goal.counted_apart-requires
counted_apart-requires c = (c.requires.around, c.requires.row_is, c.requires.row-in)

pub returns : goal.returns
returns c = counted-told c.clash.ensures c.if-not-clash.false c.counted_apart.ensures
