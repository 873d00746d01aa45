-- Inner: what the functions that measure and write a conversion promise each other.
use Rattle.std.specs.Prelude.{ℕ, ◌+◌, ◌≤◌, ◌≡◌, Bool, true, None, length}
use mathlib.Core.List.{List, [], ◌∷◌, Memᴰ}
use Rattle.std.specs.Bool.{then_some}
use Rattle.std.specs.Option.{option_or}
use Rattle.bundle.specs.Answer.{Answer, gives, when_given}
use Rattle.bundle.specs.Commands.{bytes_of, in_range}
use Rattle.bundle.specs.Chunks.{Placed, front_of}
use Rattle.bundle.specs.Check.{Accepted}
use Rattle.bundle.specs.declared.command.Command.{Command}
use Rattle.rewrite.specs.Converting.{regrouped, commands_in, site_over, to_group}
use Rattle.rewrite.specs.declared.convert.Measured.{Measured}

-- the bytes of the commands so far in the wanted group, and the offset of the first of them with a site over 65,535
unfoldable pub measured_after : Bool → Measured → Placed → Measured
measured_after wide m p =
    record {
      size = m.size + length (bytes_of (regrouped wide p.command));
      over = option_or m.over (then_some (site_over p.command) p.at);
    }

unfoldable pub measured_from : Bool → Measured → List Placed → Measured
measured_from wide m [] = m
measured_from wide m (p ∷ ps) = measured_from wide (measured_after wide m p) ps

unfoldable pub unmeasured : Measured
unmeasured = record { size = 0; over = None }

unfoldable pub measured_of : Bool → List ℕ → Measured
measured_of wide s = measured_from wide unmeasured (front_of s).placed

-- how many bytes the result has; or the refusal
unfoldable pub size_to : Bool → List ℕ → Answer ℕ
size_to wide s = when_given (to_group wide s) (λ bytes. gives (length bytes))

-- a command that can be put into the wanted group, and fits a buffer of so many bytes at a position
pub record Puttable (wide : Bool) (c : Command) (room position : ℕ) : Type 0 where
  pub in-range : in_range (regrouped wide c) ≡ true
  pub fits : position + length (bytes_of (regrouped wide c)) ≤ room

-- an accepted bundle all of whose commands can be put into the wanted group
pub record Convertible (wide : Bool) (s : List ℕ) : Type 0 where
  pub accepted : Accepted s
  pub in-range : (c : Command) → Memᴰ c (commands_in s) → in_range (regrouped wide c) ≡ true
