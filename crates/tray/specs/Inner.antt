-- What was put at a buffer's start.
use Rattle.std.specs.Prelude.{ℕ, ◌≤◌}
use Rattle.bundle.specs.Answer.{Answer, gives, refuses}

-- it ends within so many bytes; a refusal puts nothing
abbrev pub PutWithin : Answer ℕ → ℕ → Type 0
PutWithin (gives next) room = next ≤ room
PutWithin (refuses n p) room = Unit {0}
