-- Lock sets: locks 0 to 63 as a number of 64 bits; lock l is held where bit l is set.
use Rattle.std.specs.Prelude.{ℕ, ◌+◌, ◌-◌, ◌/◌, ◌%◌, ◌^◌, Bool, ◌&&◌, eqb}
use Rattle.bundle.specs.Lists.{up_to, any}

unfoldable pub holds : ℕ → ℕ → Bool
holds lock locks = eqb (locks / 2 ^ lock % 2) 1

-- the set after a lock that it lacks is acquired, or one that it holds is released
unfoldable pub acquired : ℕ → ℕ → ℕ
acquired lock locks = locks + 2 ^ lock

unfoldable pub released : ℕ → ℕ → ℕ
released lock locks = locks - 2 ^ lock

-- whether two sets have a lock in common
unfoldable pub common_lock : ℕ → ℕ → Bool
common_lock a b = any (λ lock. holds lock a && holds lock b) (up_to 64)
