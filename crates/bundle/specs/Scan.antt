-- The scan: check's tests of each command, front to back, in the order 2, 3, 4, 20, 5, 6, 7.
use Rattle.std.specs.Prelude.{ℕ, ◌+◌, Bool, true, false, cond, not, ◌&&◌, ◌||◌, List, [], ◌∷◌, eqb, ltb}
use Rattle.bundle.specs.Answer.{Answer, gives, refuses, when_given}
use Rattle.bundle.specs.Locks.{holds}
use Rattle.bundle.specs.Commands.{in_range}
use Rattle.bundle.specs.Cases.{on_delimiter, on_region, on_access}
use Rattle.bundle.specs.Chunks.{Placed, fresh, after_command, front_of}
unfoldable pub use Rattle.bundle.specs.Walk.{opens_segment, adds_access}
use Rattle.bundle.specs.declared.scan.Scan.{Scan}
use Rattle.bundle.specs.declared.command.Command.{Command}
use Rattle.bundle.specs.declared.command.Command.TheVariants as Com

unfoldable pub is_member : Command → Bool
is_member = on_delimiter false (λ t m. true) false

-- 4: not MEMBER outside a chunk, MEMBER inside one
unfoldable pub misplaced : Scan → Command → Bool
misplaced k c = cond (is_member c) k.inside (not k.inside)

-- 20: "an access of the other group than the bundle's first access" (A.6). The scan has the group of the accesses so far, which is that of
-- the first
unfoldable pub differs : Bool → Bool → Bool
differs wide other = cond wide (not other) other

unfoldable pub of_other_group : Scan → Command → Bool
of_other_group k = on_access false (λ a. ltb 0 k.accesses && differs k.wide a.wide)

-- 5: the operands' ranges, and the own-team rule: "A REGION's team number is greater than that of the chunk it stands in"
unfoldable pub above_own_team : ℕ → Command → Bool
above_own_team own = on_region true (λ t z. ltb own t)

-- 6: a held lock acquired, an unheld one released, or one held at END; CUT "allows held locks"
unfoldable pub misuses_lock : ℕ → Command → Bool
misuses_lock locks (Com.Member t m) = false
misuses_lock locks Com.End = not (eqb locks 0)
misuses_lock locks (Com.Region t z) = false
misuses_lock locks Com.Barrier = false
misuses_lock locks (Com.Acquire l) = holds l locks
misuses_lock locks (Com.Release l) = not (holds l locks)
misuses_lock locks (Com.Access a) = false
misuses_lock locks Com.Cut = false

-- 7: the 513th segment or 1,025th access
unfoldable pub too_many : Scan → Command → Bool
too_many k c = ltb 512 (k.segments + opens_segment c) || ltb 1024 (k.accesses + adds_access c)

-- the number of the first test that the command fails here, 0 where it passes all
unfoldable pub fault_of : Scan → Command → ℕ
fault_of k c =
    cond (misplaced k c) 4
    (cond (of_other_group k c) 20
    (cond (not (in_range c && above_own_team k.team c)) 5
    (cond (misuses_lock k.state.locks c) 6
    (cond (too_many k c) 7 0))))

unfoldable pub start : Scan
start = record { inside = false; team = 0; state = fresh; segments = 0; accesses = 0; wide = false }

-- the scan after a command
unfoldable pub scanned : Scan → Command → Scan
scanned k c =
    record {
      inside = on_delimiter k.inside (λ t m. true) false c;
      team = on_delimiter k.team (λ t m. t) 0 c;
      state = on_delimiter (after_command k.state c) (λ t m. fresh) fresh c;
      segments = k.segments + opens_segment c;
      accesses = k.accesses + adds_access c;
      wide = on_access k.wide (λ a. a.wide) c;
    }

-- 4: the bundle ending inside a chunk, at its length
unfoldable pub finish : Scan → ℕ → Answer Scan
finish k past = cond k.inside (refuses 4 past) (gives k)

-- the first command that fails a test, with the test's number, at its offset
unfoldable pub walk : List Placed → Answer ℕ → Scan → Answer Scan
walk [] stop k = when_given stop (finish k)
walk (p ∷ ps) stop k =
    cond (eqb (fault_of k p.command) 0)
    (walk ps stop (scanned k p.command))
    (refuses (fault_of k p.command) p.at)

unfoldable pub scan_of : List ℕ → Answer Scan
scan_of s = walk (front_of s).placed (front_of s).stop start
