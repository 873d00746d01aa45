-- An operand over its width is outside its range, and put refuses it so.
-- Assumes nothing.
use Prim.Native.Nat.{ℕ, ◌^◌, ◌<◌}
use mathlib.Core.Path.{◌≡◌, sym}
use mathlib.Core.Bool.{true, false}
use mathlib.Core.List.{List, ◌∷◌}
use mathlib.Core.Option.{Option, none, some}
use lib.Dec.{ltb}
use borrow.Author.Tests.{ltb-true}
use Rattle.bundle.specs.Answer.{refuses, number_of}
use Rattle.bundle.specs.Lists.{from_option}
use Rattle.bundle.specs.Commands.{fit_widths, form_of, code_of, widths_of, in_range, access_widths}
use Rattle.bundle.specs.declared.command.Access.{Access}
use Rattle.bundle.specs.declared.command.Command.{Command}
use Rattle.bundle.specs.declared.command.Command.TheVariants as Com
use Rattle.bundle.proofs.Tests.{false-is-true, is_false, and_left, and_right}
use Rattle.bundle.proofs.Operands.{Fits}
use Rattle.bundle.proofs.Forms.{access-widths}
use Rattle.bundle.proofs.Ranges.{in-range-fits}
use Rattle.bundle.proofs.Copying.{put-out-of-range}
use Rattle.std.specs.Result.{IsErrAnd}
use Rattle.std.specs.declared.result.Result.{Result}
use Rattle.std.specs.declared.result.Result.TheVariants.{Ok, Err}
use Rattle.exports.specs.declared.commands.BadWords.{BadWords}
use Rattle.exports.specs.declared.commands.BadWords.TheVariants as Bad
use Rattle.exports.specs.Inner.{Makes, cause_of}
use Rattle.exports.specs.CommandWords.{command_by, put_from}

-- the first of operands that fit is below its width, and the rest fit
first_fits : {w x : ℕ} {ws xs : List ℕ} → Fits (w ∷ ws) (x ∷ xs) → x < 256 ^ w
unfolding fit_widths
first_fits {w} {x} {ws} {xs} f = ltb-true x (256 ^ w) (and_left (ltb x (256 ^ w)) (fit_widths ws xs) f.eq)

rest-fits : {w x : ℕ} {ws xs : List ℕ} → Fits (w ∷ ws) (x ∷ xs) → Fits ws xs
unfolding fit_widths
rest-fits {w} {x} {ws} {xs} f = record { eq = and_right (ltb x (256 ^ w)) (fit_widths ws xs) f.eq }

-- what would be in range would fit
pub too_wide : (c : Command) → (Fits (widths_of (code_of c).byte) (code_of c).operands → ⊥) → in_range c ≡ false
too_wide c h = is_false (in_range c) (λ e. h (in-range-fits c e))

pub member-wide : (team member : ℕ) → (team < 65536 → member < 256 → ⊥) → in_range (Com.Member team member) ≡ false
unfolding form_of code_of widths_of
member-wide team member h = too_wide (Com.Member team member) (λ f. h (first_fits f) (first_fits (rest-fits f)))

pub region-wide : (team size : ℕ) → (team < 65536 → size < 256 → ⊥) → in_range (Com.Region team size) ≡ false
unfolding form_of code_of widths_of
region-wide team size h = too_wide (Com.Region team size) (λ f. h (first_fits f) (first_fits (rest-fits f)))

pub acquire-wide : (lock : ℕ) → (lock < 256 → ⊥) → in_range (Com.Acquire lock) ≡ false
unfolding form_of code_of widths_of
acquire-wide lock h = too_wide (Com.Acquire lock) (λ f. h (first_fits f))

pub release-wide : (lock : ℕ) → (lock < 256 → ⊥) → in_range (Com.Release lock) ≡ false
unfolding form_of code_of widths_of
release-wide lock h = too_wide (Com.Release lock) (λ f. h (first_fits f))

pub access-wide :
    (a : Access)
    → (a.range.stride < 65536 → a.range.count < 65536 → a.range.size < 256 → ⊥)
    → in_range (Com.Access a) ≡ false
unfolding code_of
access-wide a h =
    too_wide (Com.Access a)
    (λ f.
    let g : Fits (access_widths a.wide) (code_of (Com.Access a)).operands = rw (access-widths a) at f in
    let from-stride = rest-fits (rest-fits g) in
    h (first_fits from-stride) (first_fits (rest-fits from-stride)) (first_fits (rest-fits (rest-fits from-stride))))

-- a command with an operand over its width is refused as any that is out of range
pub put-wide :
    (o : Option Command) (buffer : List ℕ) (at : ℕ)
    → from_option true in_range o ≡ false
    → put_from o buffer at ≡ record { answer = refuses 5 at; buffer = buffer }
put-wide none buffer at e = false-is-true (sym e)
put-wide (some c) buffer at e = put-out-of-range c buffer at e

-- the command by its byte: END has no operand
module _ (words : List ℕ) (byte : ℕ) where
  pub by_end : byte ≡ 0x02 → command_by byte words ≡ some Com.End
  unfolding command_by
  by_end e = rw e

-- words that the code refuses are refused by their definition, with the same number
pub put-refused :
    (o : Option Command) (bad : BadWords) (buffer : List ℕ) (at : ℕ)
    → Makes o (Err bad)
    → put_from o buffer at ≡ record { answer = refuses (number_of (cause_of bad)) at; buffer = buffer }
put-refused o Bad.UnknownByte buffer at e = rw e
put-refused o Bad.TooWide buffer at e = put-wide o buffer at e

-- what the code tells of an operand over its width
pub is-too-wide : (o : Option Command) (r : Result Command BadWords) → IsErrAnd r (λ bad. bad ≡ Bad.TooWide) → from_option true in_range o ≡ false → Makes o r
is-too-wide o (Ok c) h e = absurd h
is-too-wide o (Err bad) h e = rw h e
