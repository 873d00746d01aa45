-- Inner: pairs of elements, one of each of two ranges, that share a byte, and what the functions promise.
use Rattle.std.specs.Prelude.{ℕ, ◌+◌, ◌-◌, ◌*◌, ◌/◌, ◌<◌, ◌≤◌, Bool, cond, ◌&&◌, ◌||◌, eqb, leb, ltb, max}
use Rattle.std.proofs.Math.Option as Maybe
use Rattle.std.specs.declared.option.Option.{Option}
use Rattle.std.specs.declared.option.Option.TheVariants.{Some, None}
use Rattle.bundle.specs.declared.command.Range.{Range}
use Rattle.order.specs.Ranges.{Touches, LeastShared, LowestElement}
use Rattle.order.specs.declared.range.Overlap.{Overlap}
use Rattle.order.specs.declared.range.Meeting.{Meeting}
use Rattle.order.specs.declared.range.ElementPair.{ElementPair}

-- whether a range touches any byte
abbrev pub touches_some : Range → Bool
touches_some r = leb 1 r.count && leb 1 r.size

-- the first element of a stride that starts at or past low
pub record FirstFrom (stride low element : ℕ) : Type 0 where
  pub reaches : low ≤ element * stride
  pub closest : element * stride < low + stride

-- the start of the one element lies between the bounds, seen from the start of the other;
-- `spacing` is the stride of the other range, and `limit` its count
pub record Near (stride spacing low high one other : ℕ) : Type 0 where
  pub from : other * spacing + low ≤ one * stride
  pub to : one * stride ≤ other * spacing + high

-- the near pair within the counts that is least in both elements
pub record Least (stride spacing low high count limit one other : ℕ) : Type 0 where
  pub one_below : one < count
  pub other_below : other < limit
  pub near : Near stride spacing low high one other
  pub least : (i j : ℕ) → i < count → j < limit → Near stride spacing low high i j → (one ≤ i) × (other ≤ j)

-- what it is to be the first pair, or that there is none
abbrev pub FirstPair : (stride spacing low high count limit : ℕ) → Option ElementPair → Type 0
FirstPair stride spacing low high count limit (Some p) = Least stride spacing low high count limit p.one p.other
FirstPair stride spacing low high count limit None =
    (i j : ℕ) → i < count → j < limit → Near stride spacing low high i j → ⊥

-- the numbers for which the first pair is looked for
pub record PairGiven (stride spacing low high count limit : ℕ) : Type 0 where
  pub stride_fits : stride < 65536
  pub spacing_fits : spacing < 65536
  pub low_some : 1 ≤ low
  pub low_fits : low < 8589934592
  pub ordered : low ≤ high
  pub counted : 1 ≤ count
  pub count_fits : count < 65536
  pub limited : 1 ≤ limit
  pub limit_fits : limit < 65536

-- two ranges that touch some byte, the one with the lower base first
pub record InOrder (lower upper : Range) : Type 0 where
  pub lower_counted : 1 ≤ lower.count
  pub lower_sized : 1 ≤ lower.size
  pub upper_counted : 1 ≤ upper.count
  pub upper_sized : 1 ≤ upper.size
  pub bases : lower.base ≤ upper.base

-- the first pair of elements of two ranges that share a byte
abbrev pub PairOf : Range → Range → Option ElementPair → Type 0
PairOf lower upper =
    FirstPair
    lower.stride
    upper.stride
    (upper.base - lower.base - (lower.size - 1))
    (upper.base - lower.base + (upper.size - 1))
    lower.count
    upper.count

-- the lowest element that covers a byte which a range touches: the first whose end lies past the byte, by the end of element 0 and the stride
unfoldable pub element_from : ℕ → ℕ → ℕ → ℕ
element_from end stride byte = cond (ltb byte end) 0 (cond (eqb stride 0 || eqb end 0) 0 ((byte - end) / stride + 1))

-- the same for a range
abbrev pub element_by : Range → ℕ → ℕ
element_by r byte = element_from (r.base + r.size) r.stride byte

-- the lowest byte that both elements of a pair touch, and the pair
unfoldable pub pair_meeting : Option ElementPair → Range → Range → Option Meeting
pair_meeting (Some p) lower upper =
    Some (record { byte = max (lower.base + p.one * lower.stride) (upper.base + p.other * upper.stride); one = p.one; other = p.other })
pair_meeting None lower upper = None

-- the lowest byte that two ranges share and the lowest elements that cover it, or that there is none
abbrev pub MeetingOf : Range → Range → Option Meeting → Type 0
MeetingOf a b (Some m) = LeastShared a b m.byte × LowestElement a m.byte m.one × LowestElement b m.byte m.other
MeetingOf a b None = (byte : ℕ) → Touches a byte → Touches b byte → ⊥

-- the overlap for the two ranges in the other order
abbrev pub turned_over : Overlap → Overlap
turned_over o = record { byte = o.byte; first_element = o.second_element; second_element = o.first_element }

abbrev pub turned_of : Maybe.Option Overlap → Maybe.Option Overlap
turned_of Maybe.none = Maybe.none
turned_of (Maybe.some o) = Maybe.some (turned_over o)
