-- Questions asked of a command, each with a default for the commands that it does not concern.
use Rattle.std.specs.Prelude.{ℕ}
use Rattle.bundle.specs.declared.command.Access.{Access}
use Rattle.bundle.specs.declared.command.Command.{Command}
use Rattle.bundle.specs.declared.command.Command.TheVariants as Com

module _ {A : Type 0} where
  -- "MEMBER opens a chunk", "END closes the chunk", "CUT .. closes a chunk in place of END"
  abbrev pub on_delimiter : A → (ℕ → ℕ → A) → A → Command → A
  on_delimiter other opens closes (Com.Member t m) = opens t m
  on_delimiter other opens closes Com.End = closes
  on_delimiter other opens closes (Com.Region t z) = other
  on_delimiter other opens closes Com.Barrier = other
  on_delimiter other opens closes (Com.Acquire l) = other
  on_delimiter other opens closes (Com.Release l) = other
  on_delimiter other opens closes (Com.Access a) = other
  on_delimiter other opens closes Com.Cut = closes

  -- "MEMBER, REGION and BARRIER each open a segment"
  abbrev pub on_opening : A → A → (ℕ → A) → A → Command → A
  on_opening other member region barrier (Com.Member t m) = member
  on_opening other member region barrier Com.End = other
  on_opening other member region barrier (Com.Region t z) = region t
  on_opening other member region barrier Com.Barrier = barrier
  on_opening other member region barrier (Com.Acquire l) = other
  on_opening other member region barrier (Com.Release l) = other
  on_opening other member region barrier (Com.Access a) = other
  on_opening other member region barrier Com.Cut = other

  -- REGION forks a team
  abbrev pub on_region : A → (ℕ → ℕ → A) → Command → A
  on_region other region (Com.Member t m) = other
  on_region other region Com.End = other
  on_region other region (Com.Region t z) = region t z
  on_region other region Com.Barrier = other
  on_region other region (Com.Acquire l) = other
  on_region other region (Com.Release l) = other
  on_region other region (Com.Access a) = other
  on_region other region Com.Cut = other

  -- the four kinds of access
  abbrev pub on_access : A → (Access → A) → Command → A
  on_access other access (Com.Member t m) = other
  on_access other access Com.End = other
  on_access other access (Com.Region t z) = other
  on_access other access Com.Barrier = other
  on_access other access (Com.Acquire l) = other
  on_access other access (Com.Release l) = other
  on_access other access (Com.Access a) = access a
  on_access other access Com.Cut = other

  -- END: a chunk that it closes is complete
  abbrev pub on_end : A → A → Command → A
  on_end other end (Com.Member t m) = other
  on_end other end Com.End = end
  on_end other end (Com.Region t z) = other
  on_end other end Com.Barrier = other
  on_end other end (Com.Acquire l) = other
  on_end other end (Com.Release l) = other
  on_end other end (Com.Access a) = other
  on_end other end Com.Cut = other
