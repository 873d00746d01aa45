-- `order::range::first_pair` meets its contract: each step of Euclid's algorithm is a law. The measure is the stride.
-- Assumes nothing.
use native.Mathlib.Omega.{arith}
use Rattle.order.proofs.Euclid.{low-reached, element_below, start_fits, pair-below, pair-past, pair-none}
use Rattle.order.proofs.range.+first_pair.Goals as goal

pub first_from-element-requires : goal.first_from-element-requires
first_from-element-requires t c = (grind arith, c.requires.stride_fits, low-reached c.requires c.if-count-stride.false)

pub overflow_mul-start : goal.overflow_mul-start
overflow_mul-start t c = record { fits = omega (arith, start_fits c.requires c.if-count-stride.false c.first_from-element.ensures) }

pub overflow_sub-count-2 : goal.overflow_sub-count-2
overflow_sub-count-2 t c = omega (arith, element_below c.requires c.if-count-stride.false c.first_from-element.ensures)

pub returns-in_default : goal.returns-in_default
returns-in_default t c = pair-none c.requires c.first_from-element.ensures c.if-start-high.false c.in_default.ensures

pub returns-then-sum-count : goal.returns-then-sum-count
returns-then-sum-count t c =
    pair-below c.requires c.first_from-element.ensures c.if-start-high.false c.in-Some.field-0 c.in-Some.ensures c.if-sum-count.true

pub returns : goal.returns
returns t c =
    pair-past c.requires c.first_from-element.ensures c.if-start-high.false c.in-Some.field-0 c.in-Some.ensures c.if-sum-count.false
