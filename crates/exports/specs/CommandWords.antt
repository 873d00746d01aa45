-- A command as nine words: byte, team, member, lock, site, base, stride, count, size.
use Rattle.std.specs.Prelude.{ℕ, ◌-◌, Bool, true, false, cond, ◌&&◌, List, [], ◌∷◌, get_or, eqb, ltb, leb}
use Rattle.std.proofs.Math.Option.{Option, none, some}
use Rattle.bundle.specs.Answer.{refuses}
use Rattle.bundle.specs.Commands.{kind_of, access_byte, Lent, put_at}
use Rattle.bundle.specs.declared.command.AccessKind.{AccessKind}
use Rattle.bundle.specs.declared.command.Command.{Command}
use Rattle.bundle.specs.declared.command.Command.TheVariants as Com

-- what a command does not have is 0
unfoldable pub command_words : Command → List ℕ
command_words (Com.Member team member) = 0x01 ∷ team ∷ member ∷ 0 ∷ 0 ∷ 0 ∷ 0 ∷ 0 ∷ 0 ∷ []
command_words Com.End = 0x02 ∷ 0 ∷ 0 ∷ 0 ∷ 0 ∷ 0 ∷ 0 ∷ 0 ∷ 0 ∷ []
command_words (Com.Region team size) = 0x10 ∷ team ∷ 0 ∷ 0 ∷ 0 ∷ 0 ∷ 0 ∷ 0 ∷ size ∷ []
command_words Com.Barrier = 0x11 ∷ 0 ∷ 0 ∷ 0 ∷ 0 ∷ 0 ∷ 0 ∷ 0 ∷ 0 ∷ []
command_words (Com.Acquire lock) = 0x20 ∷ 0 ∷ 0 ∷ lock ∷ 0 ∷ 0 ∷ 0 ∷ 0 ∷ 0 ∷ []
command_words (Com.Release lock) = 0x21 ∷ 0 ∷ 0 ∷ lock ∷ 0 ∷ 0 ∷ 0 ∷ 0 ∷ 0 ∷ []
command_words (Com.Access a) =
    access_byte a.wide a.kind ∷ 0 ∷ 0 ∷ 0 ∷ a.site ∷ a.range.base ∷ a.range.stride ∷ a.range.count ∷ a.range.size ∷ []
command_words Com.Cut = 0x03 ∷ 0 ∷ 0 ∷ 0 ∷ 0 ∷ 0 ∷ 0 ∷ 0 ∷ 0 ∷ []

-- the other way round: the command that words stand for, with operands of any value; what it does not have is not looked at
abbrev pub access_from : Bool → AccessKind → List ℕ → Command
access_from wide kind words =
    let x : ℕ → ℕ = λ k. get_or words k 0 in
    Com.Access
    (record {
      kind = kind;
      wide = wide;
      site = x 4;
      range = record { base = x 5; stride = x 6; count = x 7; size = x 8 };
    })

unfoldable pub command_by : ℕ → List ℕ → Option Command
command_by byte words =
    let x : ℕ → ℕ = λ k. get_or words k 0 in
    cond (eqb byte 0x01) (some (Com.Member (x 1) (x 2)))
    (cond (eqb byte 0x02) (some Com.End)
    (cond (eqb byte 0x03) (some Com.Cut)
    (cond (eqb byte 0x10) (some (Com.Region (x 1) (x 8)))
    (cond (eqb byte 0x11) (some Com.Barrier)
    (cond (eqb byte 0x20) (some (Com.Acquire (x 3)))
    (cond (eqb byte 0x21) (some (Com.Release (x 3)))
    (cond (leb 0x30 byte && ltb byte 0x34) (some (access_from false (kind_of byte) words))
    (cond (leb 0x38 byte && ltb byte 0x3c) (some (access_from true (kind_of (byte - 8)) words)) none))))))))

abbrev pub command_from : List ℕ → Option Command
command_from words = command_by (get_or words 0 0) words

-- put the command that words stand for: 2 where they are none, the buffer untouched; else as put, and an operand over its width is 5
abbrev pub put_from : Option Command → List ℕ → ℕ → Lent ℕ
put_from none buffer at = record { answer = refuses 2 at; buffer = buffer }
put_from (some command) buffer at = put_at command buffer at
