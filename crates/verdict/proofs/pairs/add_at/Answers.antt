-- `verdict::pairs::add_at` meets its contract. Assumes nothing.
use Rattle.verdict.proofs.PairCases.{one-first, other-first, later-summed}
use Rattle.verdict.proofs.pairs.add_at.Goals as goal

pub returns-then-comes_later : goal.returns-then-comes_later
returns-then-comes_later c =
    let a = c.args in
    later-summed a.key a.sum a.one.row a.other.row a.one.at a.other.at a.witness c.comes_later.ensures c.if-comes_later.true
    c.counted.ensures

pub returns-then-name_below : goal.returns-then-name_below
returns-then-name_below c =
    let a = c.args in
    one-first a.key a.sum a.one.row a.other.row a.one.at a.other.at a.witness c.name_of.ensures c.name_of-2.ensures
    c.name_below.ensures c.if-name_below.true c.add_ordered.ensures

pub returns : goal.returns
returns c =
    let a = c.args in
    other-first a.key a.sum a.one.row a.other.row a.one.at a.other.at a.witness c.name_of.ensures c.name_of-2.ensures
    c.name_below.ensures c.if-name_below.false c.add_ordered-2.ensures
