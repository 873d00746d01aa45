-- `order::range::shared_of_valid` meets its contract. Assumes nothing.
use mathlib.Core.Path.{◌≡◌, ap, ◌∙◌}
use borrow.Author.Rules.{rules}
use Rattle.std.specs.Option.{option_map}
use Rattle.order.specs.Pairs.{turned_over, turned_of}
use Rattle.order.proofs.Elements.{turned-is, overlap-swap}
use Rattle.order.proofs.range.shared_of_valid.Goals as goal

pub returns : goal.returns
returns c =
    let e : c.map.result ≡ option_map turned_over c.shared_upward-2.result = search rules in
    rw (e, turned-is) (ap turned_of c.shared_upward-2.ensures ∙ overlap-swap _ _)
