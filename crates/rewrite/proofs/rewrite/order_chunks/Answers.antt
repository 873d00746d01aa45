-- `rewrite::rewrite::order_chunks` meets its contract. Assumes nothing.
use mathlib.Core.Path.{◌∙◌, ap}
use Rattle.sorting.specs.Order.{sorted}
use Rattle.bundle.proofs.TeamOrder.{sorting-sorts}
use borrow.Author.Rules.{rules}
use Rattle.rewrite.proofs.rewrite.order_chunks.Goals as goal

pub returns : goal.returns
returns c = sorting-sorts _ _ _ _ c.sort.ensures (search rules) ∙ ap sorted c.number_chunks.ensures
