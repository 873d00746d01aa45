-- `rewrite::convert::size_to` meets its contract. Assumes nothing.
use mathlib.Core.Path.{◌∙◌, ap}
use mathlib.Core.Bool.{Bool}
use Rattle.rewrite.specs.Measuring.{measured_of}
use Rattle.rewrite.proofs.ConvertPass.{too_large, narrow_size, too_long, wide_size}
use Rattle.rewrite.proofs.convert.size_to.Goals as goal

pub returns-in-Some : goal.returns-in-Some
returns-in-Some c = rw c.if-not-wide.true (too_large _ c.requires (c.measure-measured.ensures ∙ ap (λ (w : Bool). measured_of w c.args.bytes.now) c.if-not-wide.true) c.in-Some.is)

pub returns-in-None : goal.returns-in-None
returns-in-None c = rw c.if-not-wide.true (narrow_size _ c.requires (c.measure-measured.ensures ∙ ap (λ (w : Bool). measured_of w c.args.bytes.now) c.if-not-wide.true) c.in-None.is)

pub returns-then-measured-gt-MOST_BYTES : goal.returns-then-measured-gt-MOST_BYTES
returns-then-measured-gt-MOST_BYTES c = rw c.if-not-wide.false (too_long _ c.requires (c.measure-measured.ensures ∙ ap (λ (w : Bool). measured_of w c.args.bytes.now) c.if-not-wide.false) c.if-measured-gt-MOST_BYTES.true)

pub returns : goal.returns
returns c = rw c.if-not-wide.false (wide_size _ c.requires (c.measure-measured.ensures ∙ ap (λ (w : Bool). measured_of w c.args.bytes.now) c.if-not-wide.false) c.if-measured-gt-MOST_BYTES.false)
