-- `verdict::pairs::comes_later` meets its contract. Assumes nothing.
use Rattle.verdict.proofs.PairCases.{later-told}
use Rattle.verdict.proofs.pairs.comes_later.Goals as goal

pub returns : goal.returns
returns c =
    let a = c.args in
    later-told a.one a.other a.sum a.witness c.name_in-first.ensures c.name_of.ensures c.name_below.ensures c.name_of-2.ensures
    c.name_below-2.ensures
