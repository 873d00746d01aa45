-- `verdict::pairs::Tables::add_block` meets its contract. Assumes nothing.
use Rattle.verdict.proofs.PairBlocks.{none-met}
use Rattle.verdict.proofs.pairs.Tables.add_block.Goals as goal

pub returns-then-not-some_meet : goal.returns-then-not-some_meet
returns-then-not-some_meet c =
    let fits = c.requires.0.rows_fit in
    none-met _ _ _ _ _ fits.ordered fits.short (c.some_meet.ensures c.if-not-some_meet.true)

pub clashing-word-requires : goal.clashing-word-requires
clashing-word-requires c = (c.requires.0.rows_fit, c.requires.1, c.requires.2)

pub add_passing-requires : goal.add_passing-requires
add_passing-requires c = (c.requires.0, c.clashing-word.ensures)
