-- `bundle::command::read_command` meets its contract. Assumes nothing.
use mathlib.Core.Path.{refl}
use native.Mathlib.Omega.{arith}
use Rattle.bundle.specs.Commands.{form_of, code_of, sum, width_of, widths_of, fit_widths, operands_ok, in_range, command_at}
use Rattle.bundle.proofs.Forms.{no-form}
use Rattle.bundle.proofs.Arms.{of_narrow, of-wide, decode-past, decode-unknown, decode-whole, read-accepted, read_whole, read-not}
use borrow.Author.Rules.{rules}
use Rattle.bundle.proofs.command.read_command.Goals as goal
use Rattle.bundle.proofs.command.read_command.Goals.{then-this-lt52, else-this-lt52+else-this-lt56+then-this-lt60}

pub returns-then-bytes-position : goal.returns-then-bytes-position
returns-then-bytes-position c = read-not _ _ 18 _ (decode-past _ _ c.if-bytes-position.true)

pub decode_access-requires : goal.decode_access-requires
decode_access-requires c =
    let within = c.if-bytes-position.false in
    elim c.in-48-to-51-1.branch [
      | then-this-lt52 w ↦ of_narrow _ _ within (omega arith) (omega arith)
      | else-this-lt52+else-this-lt56+then-this-lt60 w ↦ of-wide _ _ within (omega arith) (omega arith)
    ]

pub returns-in-1 : goal.returns-in-1
returns-in-1 c = read-accepted _ _ c.decode_team.ensures c.accept.ensures

pub returns-in-2 : goal.returns-in-2
unfolding form_of sum width_of command_at code_of widths_of fit_widths operands_ok in_range
returns-in-2 c = read_whole _ _ _ (decode-whole _ _ (record { within = c.if-bytes-position.false; byte = c.in-2.is }) _ (omega arith) (search rules) refl) refl

pub returns-in-3 : goal.returns-in-3
unfolding form_of sum width_of command_at code_of widths_of fit_widths operands_ok in_range
returns-in-3 c = read_whole _ _ _ (decode-whole _ _ (record { within = c.if-bytes-position.false; byte = c.in-3.is }) _ (omega arith) (search rules) refl) refl

pub returns-in-16 : goal.returns-in-16
returns-in-16 c = read-accepted _ _ c.decode_team-in-16.ensures c.accept-in-16.ensures

pub returns-in-17 : goal.returns-in-17
unfolding form_of sum width_of command_at code_of widths_of fit_widths operands_ok in_range
returns-in-17 c = read_whole _ _ _ (decode-whole _ _ (record { within = c.if-bytes-position.false; byte = c.in-17.is }) _ (omega arith) (search rules) refl) refl

pub returns-in-32 : goal.returns-in-32
returns-in-32 c = read-accepted _ _ c.decode_lock.ensures c.accept-in-32.ensures

pub returns-in-33 : goal.returns-in-33
returns-in-33 c = read-accepted _ _ c.decode_lock-in-33.ensures c.accept-in-33.ensures

pub returns-in-48-to-51 : goal.returns-in-48-to-51
returns-in-48-to-51 c = read-accepted _ _ c.decode_access.ensures c.accept-in-48-to-51.ensures

pub returns-in_default : goal.returns-in_default
returns-in_default c =
    read-not _ _ 2 _
    (decode-unknown _ _ (record { within = c.if-bytes-position.false; byte = refl })
    (no-form (λ q. omega arith) (λ q. omega arith) (λ q. omega arith) (λ q. omega arith) (λ q. omega arith) (λ q. omega arith) (λ q. omega arith) (λ low high. omega arith) (λ low high. omega arith)))

pub returns-in_default-2 : goal.returns-in_default-2
returns-in_default-2 c =
    read-not _ _ 2 _
    (decode-unknown _ _ (record { within = c.if-bytes-position.false; byte = refl })
    (no-form (λ q. omega arith) (λ q. omega arith) (λ q. omega arith) (λ q. omega arith) (λ q. omega arith) (λ q. omega arith) (λ q. omega arith) (λ low high. omega arith) (λ low high. omega arith)))

pub returns-in_default-3 : goal.returns-in_default-3
returns-in_default-3 c =
    read-not _ _ 2 _
    (decode-unknown _ _ (record { within = c.if-bytes-position.false; byte = refl })
    (no-form (λ q. omega arith) (λ q. omega arith) (λ q. omega arith) (λ q. omega arith) (λ q. omega arith) (λ q. omega arith) (λ q. omega arith) (λ low high. omega arith) (λ low high. omega arith)))
