-- `bundle::command::decode_team` meets its contract. Assumes nothing.
use Prim.Native.Nat.{ℕ, ◌+◌}
use mathlib.Core.Path.{◌≡◌, sym, ap₂, ◌∙◌, subst}
use mathlib.Core.Logic.{⊎_elim}
use native.Mathlib.Omega.{arith}
use Rattle.bundle.specs.Commands.{form_of, sum, width_of, operands_from, command_at}
use Rattle.bundle.specs.Inner.{StandsAt}
use Rattle.bundle.specs.declared.command.Command.TheVariants as Com
use Rattle.bundle.proofs.Digits.{number-one}
use Rattle.bundle.proofs.Arms.{decode-cut, decode-whole}
use Rattle.bundle.proofs.command.decode_team.Goals as goal

pub returns-then-bytes-position-lt4 : goal.returns-then-bytes-position-lt4
unfolding form_of sum width_of
returns-then-bytes-position-lt4 g c =
    c.cut_off.ensures
    ∙ ⊎_elim
    (λ e. decode-cut c.args.bytes.now c.args.position (subst (λ (b : ℕ). StandsAt c.args.bytes.now c.args.position b) e c.requires.stands) c.if-bytes-position-lt4.true)
    (λ e. decode-cut c.args.bytes.now c.args.position (subst (λ (b : ℕ). StandsAt c.args.bytes.now c.args.position b) e c.requires.stands) c.if-bytes-position-lt4.true)
    c.requires.of_team

pub returns-then-this-eq-MEMBER : goal.returns-then-this-eq-MEMBER
unfolding form_of sum width_of operands_from command_at
returns-then-this-eq-MEMBER g c =
    decode-whole c.args.bytes.now c.args.position (subst (λ (b : ℕ). StandsAt c.args.bytes.now c.args.position b) c.if-this-eq-MEMBER.true c.requires.stands) _ (omega arith) c.if-bytes-position-lt4.false
    (ap₂ Com.Member c.two_bytes-team.ensures (sym (number-one c.args.bytes.now (c.args.position + 3))))

pub returns : goal.returns
unfolding form_of sum width_of operands_from command_at
returns g c =
    ⊎_elim
    (λ e. absurd (c.if-this-eq-MEMBER.false e))
    (λ e. decode-whole c.args.bytes.now c.args.position (subst (λ (b : ℕ). StandsAt c.args.bytes.now c.args.position b) e c.requires.stands) _ (omega arith) c.if-bytes-position-lt4.false (ap₂ Com.Region c.two_bytes-team.ensures (sym (number-one c.args.bytes.now (c.args.position + 3)))))
    c.requires.of_team
