-- Swapping two labels (A.8): the comparison of the second with the first, from that of the first with the second.
use Rattle.std.specs.Prelude.{◌≡◌, Bool, cond, eqb}
use Rattle.bundle.specs.Answer.{Answer, gives, refuses}
use Rattle.order.specs.Labels.{label_ok, compare_of}
use Rattle.order.specs.declared.label.Label.{Label}
use Rattle.order.specs.declared.label.Order.{Order}
use Rattle.order.specs.declared.label.Order.TheVariants as Ord

-- "Swapping two labels turns before into after and leaves same and concurrent"
unfoldable pub reversed : Order → Order
reversed Ord.Same = Ord.Same
reversed Ord.Before = Ord.After
reversed Ord.After = Ord.Before
reversed Ord.Concurrent = Ord.Concurrent

-- What is refused stays refused, with the same number: 16 at the same triple; 15 at the label that is now the first bad one, which is 1 for the
-- second label as it stood before, or 2 where that one is good
unfoldable pub swapped : Bool → Answer Order → Answer Order
swapped secondOk (gives order) = gives (reversed order)
swapped secondOk (refuses number place) = refuses number (cond (eqb number 15) (cond secondOk 2 1) place)

-- for any two labels, also those of no segment
abbrev pub Swapping : Type 0
Swapping = (first second : Label) → compare_of second first ≡ swapped (label_ok second) (compare_of first second)
