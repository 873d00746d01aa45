-- The laws of the comparison among the segments of one bundle (A.8), cut bundles included; and a key to sort segments by.
use Rattle.std.specs.Prelude.{ℕ, ◌≡◌, true, ◌↔◌}
use mathlib.Core.List.{List, [], ◌∷◌, Memᴰ}
use Rattle.bundle.specs.Answer.{Answer, gives, when_given}
use Rattle.bundle.specs.Chunks.{chunks_of}
use Rattle.bundle.specs.Check.{Accepted}
use Rattle.order.specs.Labels.{label_of, holding, compare_of}
use Rattle.order.specs.declared.label.Triple.{Triple}
use Rattle.order.specs.declared.label.Order.{Order}
use Rattle.order.specs.declared.label.Order.TheVariants as Ord
use Rattle.verdict.specs.Accesses.{lex_less}
use Rattle.verdict.specs.Graph.{Node, Segment, segments_of}

-- the label of the segment that has this name, as `label_of_segment` promises it
unfoldable pub label_at : List ℕ → Node → Answer (List Triple)
label_at s g = label_of s g.team g.member g.number

-- what is told to a caller who asks for the labels of two segments and compares them, as `compare` promises it
unfoldable pub order_in : List ℕ → Node → Node → Answer Order
order_in s g h =
    when_given (label_at s g) (λ first. when_given (label_at s h) (λ second. compare_of (holding first) (holding second)))

-- a segment of the bundle
abbrev pub SegmentIn : List ℕ → Segment → Type 0
SegmentIn s g = Memᴰ g (segments_of (chunks_of s))

-- "Among the segment labels of an accepted bundle, before composes: first before second and second before third gives first before third"
abbrev pub BeforeComposes : Type 0
BeforeComposes =
    (s : List ℕ) → Accepted s → (g h i : Segment) → SegmentIn s g → SegmentIn s h → SegmentIn s i
    → order_in s g.node h.node ≡ gives Ord.Before
    → order_in s h.node i.node ≡ gives Ord.Before
    → order_in s g.node i.node ≡ gives Ord.Before

-- "Same holds for one segment only with itself"
abbrev pub SameIsItself : Type 0
SameIsItself =
    (s : List ℕ) → Accepted s → (g h : Segment) → SegmentIn s g → SegmentIn s h
    → (order_in s g.node h.node ≡ gives Ord.Same) ↔ (g ≡ h)

-- the key of a label: of each triple the interval, then the offset. Keys are compared as lists of numbers, a proper prefix first (`lex_less`)
unfoldable pub sort_key : List Triple → List ℕ
sort_key [] = []
sort_key (t ∷ ts) = t.interval ∷ t.offset ∷ sort_key ts

-- two segments have labels; where the first is before the second, its key is lower; and where the keys are equal, they are one segment
pub record KeysTell (s : List ℕ) (g h : Segment) : Type 0 where
  pub first : List Triple
  pub second : List Triple
  pub first_label : label_at s g.node ≡ gives first
  pub second_label : label_at s h.node ≡ gives second
  pub before : order_in s g.node h.node ≡ gives Ord.Before → lex_less (sort_key first) (sort_key second) ≡ true
  pub one : sort_key first ≡ sort_key second → g ≡ h

-- so a list of a bundle's segments by ascending key has each of them once, and none behind one that it is before
abbrev pub SortedByKey : Type 0
SortedByKey = (s : List ℕ) → Accepted s → (g h : Segment) → SegmentIn s g → SegmentIn s h → KeysTell s g h
