-- The bytes that a range touches, the lowest byte that two ranges share, and the elements that cover it. The lists that compute them stand in
-- `SharedBytes`.
use Rattle.std.specs.Prelude.{ℕ, ◌+◌, ◌*◌, ◌≤◌, ◌<◌, ◌≡◌, cond}
use Rattle.std.proofs.Math.Option.{Option}
use Rattle.std.specs.declared.option.Option as Opt
use Rattle.std.specs.declared.result.Result.{Result}
use Rattle.bundle.specs.Answer.{Answer, gives, refuses, when_given}
use Rattle.bundle.specs.Answer.{answer_of}
use Rattle.bundle.specs.Lists.{option_of}
use Rattle.bundle.specs.declared.refusal.Refusal.{Refusal}
use Rattle.bundle.specs.Commands.{range_ok}
use Rattle.bundle.specs.declared.command.Range.{Range}
-- here and in the layers above
unfoldable pub use Rattle.order.specs.SharedBytes.{shared_byte, lowest_element, overlap_of}
use Rattle.order.specs.declared.range.Overlap.{Overlap}

-- "It touches the bytes base + k times stride + j, with k below count and j below size"
pub record Touches (r : Range) (byte : ℕ) : Type 0 where
  pub element : ℕ
  pub within : ℕ
  pub element_below : element < r.count
  pub within_below : within < r.size
  pub at : byte ≡ r.base + element * r.stride + within

-- the lowest byte that both touch: a race's "witness is the lowest shared byte"
pub record LeastShared (a b : Range) (w : ℕ) : Type 0 where
  pub one : Touches a w
  pub other : Touches b w
  pub lowest : (byte : ℕ) → byte < w → Touches a byte → Touches b byte → ⊥

-- an element k of a range covers a byte: one of its bytes base + k times stride + j
pub record Covers (r : Range) (byte element : ℕ) : Type 0 where
  pub element_below : element < r.count
  pub from : r.base + element * r.stride ≤ byte
  pub to : byte < r.base + element * r.stride + r.size

-- A.2: "the lowest element number covering that byte"
pub record LowestElement (r : Range) (byte element : ℕ) : Type 0 where
  pub covers : Covers r byte element
  pub lowest : (k : ℕ) → k < element → Covers r byte k → ⊥

-- "Lowest shared byte of two ranges": 5 at 1 or 2 for the first bad range, else the byte or none; A.2: "also gives, for each range, the lowest
-- element number covering that byte"
unfoldable pub shared_of : Range → Range → Answer (Option Overlap)
shared_of a b = cond (range_ok a) (cond (range_ok b) (gives (overlap_of a b)) (refuses 5 2)) (refuses 5 1)

-- what the code's answer says
abbrev pub sharing_of : Result (Opt.Option Overlap) Refusal → Answer (Option Overlap)
sharing_of r = when_given (answer_of r) (λ (o : Opt.Option Overlap). gives (option_of o))
