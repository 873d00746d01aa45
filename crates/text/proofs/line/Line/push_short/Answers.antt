-- `text::line::Line::push_short` meets its contract. Assumes nothing.
use mathlib.Core.Path.{ap, ◌∙◌}
use mathlib.Core.List.{List, ◌++◌}
use Prim.Native.Nat.{ℕ}
use lib.ListN.{take}
use Rattle.text.proofs.Making.{short-digits}
use Rattle.text.proofs.line.Line.push_short.Goals as goal

pub returns-clause-text : goal.returns-clause-text
returns-clause-text g c =
    c.push_front.ensures
    ∙ ap (λ (l : List ℕ). c.args.self.now ++ l) (ap (take c.short_width-width.result) c.five_digits.ensures ∙ short-digits _ _ _ c.short_width-width.ensures c.scale.ensures)
