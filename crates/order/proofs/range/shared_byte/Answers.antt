-- `order::range::shared_byte` meets its contract. Assumes nothing.
use mathlib.Core.Path.{◌≡◌, sym, ◌∙◌}
use borrow.Author.Rules.{rules}
use Rattle.std.specs.Option.{option_map}
use Rattle.order.specs.declared.range.Meeting.{Meeting}
use Rattle.order.proofs.PairBytes.{meeting-shared, none_first, none-second}
use Rattle.order.proofs.SharedByte.{shared-swap}
use Rattle.order.proofs.range.shared_byte.Goals as goal

pub returns-then-not-touches_some : goal.returns-then-not-touches_some
returns-then-not-touches_some c = none_first _ _ (sym c.touches_some.ensures ∙ c.if-not-touches_some.true)

pub returns-then-not-touches_some-2 : goal.returns-then-not-touches_some-2
returns-then-not-touches_some-2 c = none-second _ _ (sym c.touches_some-2.ensures ∙ c.if-not-touches_some-2.true)

pub returns-then-first-second : goal.returns-then-first-second
returns-then-first-second c =
    let e : c.map.result ≡ option_map (λ (m : Meeting). m.byte) c.meet_in_order.result = search rules in
    rw e (meeting-shared _ _ c.meet_in_order.result c.meet_in_order.ensures)

pub returns : goal.returns
returns c =
    let e : c.map-2.result ≡ option_map (λ (m : Meeting). m.byte) c.meet_in_order-2.result = search rules in
    rw e (meeting-shared _ _ c.meet_in_order-2.result c.meet_in_order-2.ensures ∙ shared-swap _ _)
