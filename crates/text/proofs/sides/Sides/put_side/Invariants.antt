-- `text::sides::Sides::put_side` meets its contract. The invariant: the rows passed are zeros. Assumes nothing.
use mathlib.Core.Path.{◌≡◌}
use mathlib.Core.List.{◌++◌}
use Prim.Native.Nat.{◌+◌, ◌-◌, ◌≤◌, max}
use lib.ListN.{length, take, replicate}
use Rattle.text.proofs.sides.Sides.put_side.Given as goal

abbrev pub invariant-loop-lacking : goal.invariant-loop-lacking
invariant-loop-lacking l =
    let rows = l.initial.self-inside in
    (l.lacking ≤ max rows.count (l.rank + 1))
    × (l.self-inside.count ≡ rows.count)
    × (length l.self-inside.sides ≡ 1024)
    × (take l.lacking l.self-inside.sides ≡ take rows.count rows.sides ++ replicate (l.lacking - rows.count) (replicate 32 0))
