-- A.6's converter: "It puts each access into the wanted group with the same operands and copies the rest".
use Rattle.std.specs.Prelude.{ℕ, Bool, true, false, cond, List, map, length, ltb}
use Rattle.std.proofs.Math.Option.{Option}
use Rattle.bundle.specs.Answer.{Answer, gives, refuses, when_given}
use Rattle.bundle.specs.Lists.{first, concat_map, from_option}
use Rattle.bundle.specs.Commands.{Lent, bytes_of}
use Rattle.bundle.specs.Cases.{on_access}
use Rattle.bundle.specs.Chunks.{Placed, front_of}
use Rattle.bundle.specs.Check.{check_of}
use Rattle.bundle.specs.declared.command.Access.{Access}
use Rattle.bundle.specs.declared.command.Command.{Command}
use Rattle.bundle.specs.declared.command.Command.TheVariants as Com
use Rattle.rewrite.specs.Rewriting.{filling_of}

-- an access in the wide or the narrow group, "with the same operands"; every other command as it is
unfoldable pub in_group : Bool → Access → Access
in_group wide a = record { kind = a.kind; wide = wide; site = a.site; range = a.range }

unfoldable pub regrouped : Bool → Command → Command
regrouped wide c = on_access c (λ a. Com.Access (in_group wide a)) c

-- the bundle's commands, each in the wanted group, back to back
unfoldable pub commands_in : List ℕ → List Command
commands_in s = map (λ (p : Placed). p.command) (front_of s).placed

unfoldable pub converted : Bool → List ℕ → List ℕ
converted wide s = concat_map bytes_of (map (regrouped wide) (commands_in s))

-- "To wide refuses 1, at 0, after check's refusals .. when the result passes 65,536 bytes"
unfoldable pub to_wide : List ℕ → Answer (List ℕ)
to_wide s =
    when_given (check_of s)
    (λ u. cond (ltb 65536 (length (converted true s))) (refuses 1 0) (gives (converted true s)))

-- "21, in the converter, a site over 65,535, at the first such command, after check's refusals"
unfoldable pub site_over : Command → Bool
site_over = on_access false (λ a. ltb 65535 a.site)

unfoldable pub first_over : List Placed → Option Placed
first_over = first (λ p. site_over p.command)

unfoldable pub to_narrow : List ℕ → Answer (List ℕ)
to_narrow s =
    when_given (check_of s)
    (λ u. from_option (gives (converted false s)) (λ p. refuses 21 p.at) (first_over (front_of s).placed))

abbrev pub to_group : Bool → List ℕ → Answer (List ℕ)
to_group wide s = cond wide (to_wide s) (to_narrow s)

-- the result put over the front of the second buffer, "a short buffer is 17, at 0": the answer and the buffer afterwards
unfoldable pub handed_to : List ℕ → Answer (List ℕ) → Lent ℕ
handed_to buffer (gives bytes) = filling_of buffer bytes
handed_to buffer (refuses n p) = record { answer = refuses n p; buffer = buffer }

unfoldable pub convert_of : Bool → List ℕ → List ℕ → Lent ℕ
convert_of wide s buffer = handed_to buffer (to_group wide s)
