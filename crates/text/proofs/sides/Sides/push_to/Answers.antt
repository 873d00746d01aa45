-- `text::sides::Sides::push_to` meets its contract. Assumes nothing.
use mathlib.Core.Path.{ap, ◌∙◌}
use mathlib.Core.List.{List, ◌++◌}
use borrow.Author.Rules.{rules}
use Prim.Native.Nat.{ℕ}
use Rattle.text.specs.Sides.{side_text}
use Rattle.text.proofs.SideTable.{side-there}
use Rattle.text.proofs.sides.Sides.push_to.Goals as goal

pub returns-clause-text : goal.returns-clause-text
unfolding side_text
returns-clause-text c =
    c.push_front.ensures
    ∙ ap (λ (l : List ℕ). c.args.line.now ++ l) (side-there c.self.inside.sides _ c.self.inside.count c.args.rank c.self.view_is c.if-self-rank.false (search rules))
