-- What the functions below put promise each other.
use Rattle.std.specs.Prelude.{◌≡◌, true, false}
use Rattle.std.proofs.Math.Option.{Option, none, some}
use Rattle.std.specs.declared.result.Result.{Result}
use Rattle.std.specs.declared.result.Result.TheVariants.{Ok, Err}
use Rattle.bundle.specs.Lists.{from_option}
use Rattle.bundle.specs.Commands.{in_range}
use Rattle.bundle.specs.declared.command.Command.{Command}
use Rattle.bundle.specs.declared.refusal.Cause.{Cause}
use Rattle.bundle.specs.declared.refusal.Cause.TheVariants.{UnknownCommand, OutOfRange}
use Rattle.exports.specs.declared.commands.BadWords.{BadWords}
use Rattle.exports.specs.declared.commands.BadWords.TheVariants as Bad

-- the cause with which words are refused
abbrev pub cause_of : BadWords → Cause
cause_of Bad.UnknownByte = UnknownCommand
cause_of Bad.TooWide = OutOfRange

-- what the code made of words that stand for this command, or for none; an operand over its width is outside its range
abbrev pub Makes : Option Command → Result Command BadWords → Type 0
Makes o (Ok c) = o ≡ some c
Makes o (Err Bad.UnknownByte) = o ≡ none
Makes o (Err Bad.TooWide) = from_option true in_range o ≡ false
