-- `text::line::Line::push_front` meets its contract. Assumes nothing.
use mathlib.Core.Path.{ap, ◌∙◌}
use mathlib.Core.List.{List, ◌++◌}
use Prim.Native.Nat.{ℕ}
use lib.ListN.{take}
use borrow.Author.Rules.{rules}
use Rattle.text.proofs.Making.{front-pushed}
use Rattle.text.proofs.line.Line.push_front.Goals as goal

pub returns : goal.returns
returns g c =
    front-pushed c.self.inside.bytes c.args.bytes.now _ c.self.inside.size c.args.size (search rules) (search rules) (search rules)
    ∙ ap (λ (l : List ℕ). l ++ take c.args.size c.args.bytes.now) c.self.view_is
