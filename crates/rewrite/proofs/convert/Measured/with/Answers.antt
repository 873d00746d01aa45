-- `rewrite::convert::Measured::with` meets its contract. Assumes nothing.
use mathlib.Core.Path.{◌∙◌, ap}
use mathlib.Core.Bool.{Bool}
use native.Mathlib.Omega.{arith}
use Rattle.std.specs.Bool.{then_some}
use Rattle.std.specs.Option.{option_or}
use Rattle.rewrite.proofs.ConvertPass.{small_size, one-more}
use Rattle.rewrite.proofs.convert.Measured.with.Goals as goal

pub overflow_add-result : goal.overflow_add-result
overflow_add-result c = omega (arith, c.requires, small_size _ _ c.size_in.ensures)

pub returns : goal.returns
returns c = one-more _ _ _ _ c.size_in.ensures (c.or.ensures ∙ ap (option_or c.args.self.over) (c.then_some.ensures ∙ ap (λ (t : Bool). then_some t c.args.at) c.site_over.ensures))
