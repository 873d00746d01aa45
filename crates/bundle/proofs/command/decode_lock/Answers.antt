-- `bundle::command::decode_lock` meets its contract. Assumes nothing.
use Prim.Native.Nat.{ℕ, ◌+◌}
use mathlib.Core.Path.{◌≡◌, sym, ap, ◌∙◌, subst}
use mathlib.Core.Logic.{⊎_elim}
use native.Mathlib.Omega.{arith}
use Rattle.bundle.specs.Commands.{form_of, sum, width_of, operands_from, command_at}
use Rattle.bundle.specs.Inner.{StandsAt}
use Rattle.bundle.specs.declared.command.Command.TheVariants as Com
use Rattle.bundle.proofs.Digits.{number-one}
use Rattle.bundle.proofs.Arms.{decode-cut, decode-whole}
use Rattle.bundle.proofs.command.decode_lock.Goals as goal

pub returns-then-bytes-position-lt2 : goal.returns-then-bytes-position-lt2
unfolding form_of sum width_of
returns-then-bytes-position-lt2 g c =
    c.cut_off.ensures
    ∙ ⊎_elim
    (λ e. decode-cut c.args.bytes.now c.args.position (subst (λ (b : ℕ). StandsAt c.args.bytes.now c.args.position b) e c.requires.stands) c.if-bytes-position-lt2.true)
    (λ e. decode-cut c.args.bytes.now c.args.position (subst (λ (b : ℕ). StandsAt c.args.bytes.now c.args.position b) e c.requires.stands) c.if-bytes-position-lt2.true)
    c.requires.of_lock

pub returns-then-this-eq-ACQUIRE : goal.returns-then-this-eq-ACQUIRE
unfolding form_of sum width_of operands_from command_at
returns-then-this-eq-ACQUIRE g c =
    decode-whole c.args.bytes.now c.args.position (subst (λ (b : ℕ). StandsAt c.args.bytes.now c.args.position b) c.if-this-eq-ACQUIRE.true c.requires.stands) _ (omega arith) c.if-bytes-position-lt2.false
    (ap Com.Acquire (sym (number-one c.args.bytes.now (c.args.position + 1))))

pub returns : goal.returns
unfolding form_of sum width_of operands_from command_at
returns g c =
    ⊎_elim
    (λ e. absurd (c.if-this-eq-ACQUIRE.false e))
    (λ e. decode-whole c.args.bytes.now c.args.position (subst (λ (b : ℕ). StandsAt c.args.bytes.now c.args.position b) e c.requires.stands) _ (omega arith) c.if-bytes-position-lt2.false (ap Com.Release (sym (number-one c.args.bytes.now (c.args.position + 1)))))
    c.requires.of_lock
