-- `judge_build::file::read_file` meets its contract. The measure: the bytes left. Assumes nothing.
use mathlib.Core.Path.{◌≡◌}
use Prim.Native.Nat.{◌-◌, ◌≤◌}
use lib.ListN.{length}
use Rattle.judge_build.proofs.file.read_file.Given as goal

abbrev pub invariant-loop-done : goal.invariant-loop-done
invariant-loop-done l = (l.done ≤ 65537) × (length l.bytes ≡ 65537)

abbrev pub decreases-loop-done : goal.decreases-loop-done
decreases-loop-done l = 65537 - l.done
