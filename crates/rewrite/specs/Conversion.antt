-- What the converters are for, as one statement about accepted bundles.
use Rattle.std.specs.Prelude.{ℕ, ◌≤◌, ◌<◌, ◌≡◌, ◌⊎◌, Bool, true, false, not, length, drop}
use mathlib.Core.List.{List, ◌++◌, map, Memᴰ}
use Rattle.bundle.specs.Answer.{gives, refuses}
use Rattle.bundle.specs.Commands.{Bytes}
use Rattle.bundle.specs.Check.{Accepted}
use Rattle.bundle.specs.declared.command.Access.{Access}
use Rattle.bundle.specs.declared.command.Command.TheVariants as Com
use Rattle.verdict.specs.Demand.{Judged}
use Rattle.rewrite.specs.Converting.{regrouped, commands_in, to_group, convert_of}

-- every access of a bundle is of the group: a wide or a narrow bundle; one without accesses is both
abbrev pub OfGroup : Bool → List ℕ → Type 0
OfGroup wide s = (a : Access) → Memᴰ (Com.Access a) (commands_in s) → a.wide ≡ wide

-- an accepted bundle b, converted to a group, and the result c
pub record ConvertedTo (wide : Bool) (b c : List ℕ) : Type 0 where
  pub accepted_too : Accepted c
  -- "It puts each access into the wanted group with the same operands and copies the rest": its commands, as they are read
  pub same_commands : commands_in c ≡ map (regrouped wide) (commands_in b)
  pub of_group : OfGroup wide c
  -- "The verdict is the same for a bundle and its conversion": the judge's whole answer
  pub judged_same : (v w : List ℕ) → 16384 ≤ length v → 16384 ≤ length w → Judged b c v w
  -- "A narrow bundle sent to wide and back, or a wide one to narrow and back, is restored": the step back always succeeds
  pub restored : OfGroup (not wide) b → to_group (not wide) c ≡ gives b
  -- it fills the front of every buffer that is long enough, and the others are refused
  pub fills :
      (buffer : List ℕ)
      → length c ≤ length buffer
      → convert_of wide b buffer ≡ record { answer = gives (length c); buffer = c ++ drop (length c) buffer }
  pub short : (buffer : List ℕ) → length buffer < length c → convert_of wide b buffer ≡ record { answer = refuses 17 0; buffer = buffer }

-- what converting an accepted bundle b does
pub record Converts (b : List ℕ) : Type 0 where
  -- "A bundle uses one group only"
  pub one_group : OfGroup true b ⊎ OfGroup false b
  -- "A bundle already in the wanted group, or without accesses, is copied"
  pub copied : (wide : Bool) → OfGroup wide b → to_group wide b ≡ gives b
  pub converts : (wide : Bool) (c : List ℕ) → to_group wide b ≡ gives c → ConvertedTo wide b c

abbrev pub Conversion : Type 0
Conversion = (b : List ℕ) → Bytes b → Accepted b → Converts b
