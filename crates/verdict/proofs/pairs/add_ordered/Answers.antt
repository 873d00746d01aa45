-- `verdict::pairs::add_ordered` meets its contract. Assumes nothing.
use Rattle.verdict.proofs.PairCases.{sum_kept, sum-counted}
use Rattle.verdict.proofs.pairs.add_ordered.Goals as goal

pub returns-then-takes_place : goal.returns-then-takes_place
returns-then-takes_place c =
    let a = c.args in
    sum_kept a.key a.sum a.one.row a.other.row a.one.at a.other.at a.witness c.name_of.ensures c.name_of-2.ensures
    c.takes_place.ensures c.requires.0 c.requires.1 c.if-takes_place.true c.side_of.ensures c.side_of-then-takes_place.ensures

pub returns : goal.returns
returns c =
    let a = c.args in
    sum-counted a.key a.sum a.one.row a.other.row a.one.at a.other.at a.witness c.name_of.ensures c.name_of-2.ensures
    c.takes_place.ensures c.if-takes_place.false c.counted.ensures
