-- The first pair of near elements by Euclid's algorithm on the strides, over plain numbers.
-- `quotient` and `rest` are those of the spacing by the stride, and `element` is the first element at or past low.
use Prim.Native.Nat.{ℕ, suc, ◌+◌, ◌*◌, ◌-◌, ◌/◌, ◌%◌, ◌<◌, ◌≤◌}
use mathlib.Core.Path.{◌≡◌, ap, subst}
use native.Mathlib.Nat.{div-add-mod', mod-lt, mul-le-mul_left, mul-le-mul_right, lt_of_mul-lt-mul_right}
use native.Mathlib.Omega.{arith}
use Rattle.std.specs.declared.option.Option.{Option}
use Rattle.std.specs.declared.option.Option.TheVariants.{Some, None}
use Rattle.order.specs.Pairs.{FirstFrom, Near, Least, FirstPair, PairGiven}
use Rattle.order.specs.declared.range.ElementPair.{ElementPair}

-- the first element at or past low
pub first-from : (stride low : ℕ) → 1 ≤ stride → FirstFrom stride low ((low + (stride - 1)) / stride)
first-from stride low some =
    let x : ℕ = low + (stride - 1) in
    let whole = div-add-mod' x stride in
    let below = mod-lt x some in
    record { reaches = omega arith; closest = omega arith }

pub first-least : (stride low element k : ℕ) → FirstFrom stride low element → low ≤ k * stride → element ≤ k
first-least stride low element k c past =
    let below : element * stride < suc k * stride = omega (arith, c.closest) in
    omega (arith, lt_of_mul-lt-mul_right stride below)

-- it is below 65,536 where such an element reaches low
pub first_fits : (stride low : ℕ) → 1 ≤ stride → low ≤ 65535 * stride → (low + (stride - 1)) / stride < 65536
first_fits stride low some long = omega (arith, first-least stride low ((low + (stride - 1)) / stride) 65535 (first-from stride low some) long)

-- one step of Euclid's algorithm: the first pair of the inner step makes the first pair
abbrev pub FirstInner : (stride rest low high count limit element : ℕ) → Option ElementPair → Type 0
FirstInner stride rest low high count limit element =
    FirstPair rest stride (element * stride - high) (element * stride - low) limit (count - element)

module _ (stride spacing low high quotient rest element : ℕ)
    (whole : quotient * stride + rest ≡ spacing)
    (c : FirstFrom stride low element)
    (past : high < element * stride)
    (ordered : low ≤ high) where
  times : (j : ℕ) → j * (quotient * stride + rest) ≡ j * spacing
  times j = ap (λ x. j * x) whole

  step_down : (i j : ℕ) → Near stride spacing low high (element + i + quotient * j) j
      → Near rest stride (element * stride - high) (element * stride - low) j i
  step_down i j near =
      record {
        from = omega (arith, times j, near.to, c.reaches);
        to = omega (arith, times j, near.from, c.reaches);
      }

  step-up : (i j : ℕ) → Near rest stride (element * stride - high) (element * stride - low) j i
      → Near stride spacing low high (element + i + quotient * j) j
  step-up i j near =
      record {
        from = omega (arith, times j, near.to, c.reaches);
        to = omega (arith, times j, near.from, c.reaches);
      }

  far : (i j : ℕ) → Near stride spacing low high i j → element + quotient * j ≤ i
  far i j near =
      let below : (element + quotient * j) * stride < suc i * stride = omega (arith, times j, near.from, c.closest) in
      omega (arith, lt_of_mul-lt-mul_right stride below)

  -- each near pair is made of one of the inner step
  pub record Made (i j : ℕ) : Type 0 where
    pub inner : ℕ
    pub same : i ≡ element + inner + quotient * j
    pub near : Near rest stride (element * stride - high) (element * stride - low) j inner

  made : (i j : ℕ) → Near stride spacing low high i j → Made i j
  made i j near =
      let h : element + quotient * j ≤ i = far i j near in
      let x : ℕ = i - (element + quotient * j) in
      let e : i ≡ element + x + quotient * j = omega arith in
      record { inner = x; same = e; near = step_down x j (subst (λ k. Near stride spacing low high k j) e near) }

  module _ (count limit : ℕ) where
    abbrev Inner : Option ElementPair → Type 0
    Inner = FirstInner stride rest low high count limit element

    made-least : (p : ElementPair) (i j : ℕ) → Inner (Some p) → i < count → j < limit → Made i j
        → (element + p.other + quotient * p.one ≤ i) × (p.one ≤ j)
    made-least p i j l hi hj w =
        let h = l.least j w.inner hj (omega (arith, w.same)) w.near in
        (omega (arith, w.same, mul-le-mul_left quotient h.0), h.0)

    pub up_least : (p : ElementPair) → Inner (Some p) → element + p.other + quotient * p.one < count
        → Least stride spacing low high count limit (element + p.other + quotient * p.one) p.one
    up_least p l below =
        record {
          one_below = below;
          other_below = l.one_below;
          near = step-up p.other p.one l.near;
          least = λ i j hi hj near. made-least p i j l hi hj (made i j near);
        }

    pub up_none : (p : ElementPair) → Inner (Some p) → count ≤ element + p.other + quotient * p.one
        → FirstPair stride spacing low high count limit None
    up_none p l over i j hi hj near = omega (arith, (made-least p i j l hi hj (made i j near)).0)

    pub step-none : Inner None → FirstPair stride spacing low high count limit None
    step-none none i j hi hj near = nothing (made i j near)
      where
        nothing : Made i j → ⊥
        nothing w = none j w.inner hj (omega (arith, w.same)) w.near

-- at the numbers of the code
module _ {stride spacing low high count limit : ℕ} (g : PairGiven stride spacing low high count limit) where
  module _ (long : low ≤ (count - 1) * stride) where
    pub low-reached : low ≤ 65535 * stride
    low-reached =
        let last : count - 1 ≤ 65535 = omega (arith, g.count_fits) in
        omega (arith, mul-le-mul_right stride last)

    -- the first element at or past low is below the count, and where it starts is a number of 64 bits
    module _ {element : ℕ} (f : FirstFrom stride low element) where
      pub element_below : element < count
      element_below = omega (arith, first-least stride low element (count - 1) f long)

      pub start_fits : element * stride < 8590000128
      start_fits = omega (arith, f.closest)

  module _ {element : ℕ} (f : FirstFrom stride low element) (past : high < element * stride) where
    -- the inner step's pair makes one below the count, or one past it
    pub pair-below : (p : ElementPair)
        → FirstInner stride (spacing % stride) low high count limit element (Some p)
        → element + p.other + spacing / stride * p.one < count
        → Least stride spacing low high count limit (element + p.other + spacing / stride * p.one) p.one
    pair-below =
        up_least
        stride spacing low high (spacing / stride) (spacing % stride) element
        (div-add-mod' spacing stride) f past g.ordered count limit

    pub pair-past : (p : ElementPair)
        → FirstInner stride (spacing % stride) low high count limit element (Some p)
        → count ≤ element + p.other + spacing / stride * p.one
        → FirstPair stride spacing low high count limit None
    pair-past =
        up_none
        stride spacing low high (spacing / stride) (spacing % stride) element
        (div-add-mod' spacing stride) f past g.ordered count limit

    pub pair-none : FirstInner stride (spacing % stride) low high count limit element None → FirstPair stride spacing low high count limit None
    pair-none =
        step-none
        stride spacing low high (spacing / stride) (spacing % stride) element
        (div-add-mod' spacing stride) f past g.ordered count limit
