-- `bundle::command::decode_command` meets its contract. Assumes nothing.
use mathlib.Core.Path.{refl}
use Rattle.bundle.specs.Commands.{form_of, sum, width_of, command_at}
use Rattle.bundle.proofs.Forms.{no-form}
use Rattle.bundle.proofs.Arms.{of_narrow, of-wide, decode-past, decode-unknown, decode-whole}
use native.Mathlib.Omega.{arith}
use borrow.Author.Rules.{rules}
use Rattle.bundle.proofs.command.decode_command.Goals as goal
use Rattle.bundle.proofs.command.decode_command.Goals.{then-this-lt52, else-this-lt52+else-this-lt56+then-this-lt60}

pub returns-then-bytes-position : goal.returns-then-bytes-position
returns-then-bytes-position c = decode-past _ _ c.if-bytes-position.true

pub decode_access-requires : goal.decode_access-requires
decode_access-requires c =
    let within = c.if-bytes-position.false in
    elim c.in-48-to-51-1.branch [
      | then-this-lt52 w ↦ of_narrow _ _ within (omega arith) (omega arith)
      | else-this-lt52+else-this-lt56+then-this-lt60 w ↦ of-wide _ _ within (omega arith) (omega arith)
    ]

pub returns-in-2 : goal.returns-in-2
unfolding form_of sum width_of command_at
returns-in-2 c =
    decode-whole _ _ (record { within = c.if-bytes-position.false; byte = c.in-2.is }) _ (omega arith) (search rules) refl

pub returns-in-3 : goal.returns-in-3
unfolding form_of sum width_of command_at
returns-in-3 c =
    decode-whole _ _ (record { within = c.if-bytes-position.false; byte = c.in-3.is }) _ (omega arith) (search rules) refl

pub returns-in-17 : goal.returns-in-17
unfolding form_of sum width_of command_at
returns-in-17 c =
    decode-whole _ _ (record { within = c.if-bytes-position.false; byte = c.in-17.is }) _ (omega arith) (search rules) refl

pub returns-in_default : goal.returns-in_default
returns-in_default c =
    decode-unknown _ _ (record { within = c.if-bytes-position.false; byte = refl }) (no-form (λ q. omega arith) (λ q. omega arith) (λ q. omega arith) (λ q. omega arith) (λ q. omega arith) (λ q. omega arith) (λ q. omega arith) (λ low high. omega arith) (λ low high. omega arith))

pub returns-in_default-2 : goal.returns-in_default-2
returns-in_default-2 c =
    decode-unknown _ _ (record { within = c.if-bytes-position.false; byte = refl }) (no-form (λ q. omega arith) (λ q. omega arith) (λ q. omega arith) (λ q. omega arith) (λ q. omega arith) (λ q. omega arith) (λ q. omega arith) (λ low high. omega arith) (λ low high. omega arith))

pub returns-in_default-3 : goal.returns-in_default-3
returns-in_default-3 c =
    decode-unknown _ _ (record { within = c.if-bytes-position.false; byte = refl }) (no-form (λ q. omega arith) (λ q. omega arith) (λ q. omega arith) (λ q. omega arith) (λ q. omega arith) (λ q. omega arith) (λ q. omega arith) (λ low high. omega arith) (λ low high. omega arith))
