-- `verdict::pairs::lowest` meets its contract. Assumes nothing.
use mathlib.Core.Path.{◌∙◌, ap₂}
use Rattle.order.specs.Ranges.{shared_byte}
use Rattle.order.proofs.SharedByte.{shared-swap}
use Rattle.verdict.proofs.PairCases.{base-near}
use Rattle.verdict.proofs.pairs.lowest.Goals as goal

pub returns-then-near : goal.returns-then-near
returns-then-near c =
    base-near c.args.one c.args.other c.requires.0 c.requires.1 c.near.ensures c.if-near.true

pub returns-then-near-2 : goal.returns-then-near-2
returns-then-near-2 c =
    base-near c.args.other c.args.one c.requires.1 c.requires.0 c.near-2.ensures c.if-near-2.true
    ∙ shared-swap _ _

pub returns : goal.returns
returns c = c.shared_byte.ensures ∙ ap₂ shared_byte c.range_of.ensures c.range_of-2.ensures
