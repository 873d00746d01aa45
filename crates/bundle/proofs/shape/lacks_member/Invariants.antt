-- `bundle::shape::lacks_member` meets its contract: each member that is passed was met. Assumes nothing.
use Prim.Native.Nat.{ℕ, ◌<◌}
use mathlib.Core.Path.{◌≡◌}
use mathlib.Core.Bool.{true}
use Rattle.bundle.specs.Shape.{met_at}
use Rattle.bundle.proofs.shape.lacks_member.Given as goal

abbrev pub invariant-loop-member : goal.invariant-loop-member
invariant-loop-member l = (m : ℕ) → m < l.member → met_at l.masks l.slot m ≡ true
