-- Labels agree with the graph: what comparing the labels of two segments answers is what the graph says of them.
use Rattle.std.specs.Prelude.{ℕ, ◌≡◌, ◌↔◌}
use mathlib.Core.List.{List, Memᴰ}
use Rattle.bundle.specs.Answer.{gives}
use Rattle.bundle.specs.Chunks.{chunks_of}
use Rattle.bundle.specs.Check.{Accepted}
use Rattle.order.specs.Labels.{label_of, holding, compare_of}
use Rattle.order.specs.declared.label.Triple.{Triple}
use Rattle.order.specs.declared.label.Order.{Order}
use Rattle.order.specs.declared.label.Order.TheVariants as Ord
use Rattle.verdict.specs.Graph.{Node, Segment, GraphPath, segments_of}

-- what each order says of two nodes of the graph
abbrev pub Tells : List Segment → Node → Node → Order → Type 0
Tells ss a b Ord.Same = a ≡ b
Tells ss a b Ord.Before = (a ≡ b → ⊥) × GraphPath ss a b
Tells ss a b Ord.After = (a ≡ b → ⊥) × GraphPath ss b a
Tells ss a b Ord.Concurrent = (GraphPath ss a b → ⊥) × (GraphPath ss b a → ⊥)

-- two segments have labels, comparing them is not refused, and the answer is an order exactly where the graph says so
pub record Agrees (s : List ℕ) (a b : Segment) : Type 0 where
  pub first : List Triple
  pub second : List Triple
  pub first_label : label_of s a.node.team a.node.member a.node.number ≡ gives first
  pub second_label : label_of s b.node.team b.node.member b.node.number ≡ gives second
  pub order : Order
  pub compared : compare_of (holding first) (holding second) ≡ gives order
  pub exactly : (o : Order) → (order ≡ o) ↔ Tells (segments_of (chunks_of s)) a.node b.node o

-- for every accepted bundle and any two of its segments
abbrev pub LabelsAgree : Type 0
LabelsAgree =
    (s : List ℕ) → Accepted s → (a b : Segment)
    → Memᴰ a (segments_of (chunks_of s))
    → Memᴰ b (segments_of (chunks_of s))
    → Agrees s a b
