-- `rows::pass::Teams::row_of` meets its contract. Assumes nothing.
use mathlib.Core.Path.{◌≡◌, ◌∙◌}
use borrow.Author.Rules.{rules}
use Rattle.bundle.specs.Lists.{option_of, from_option}
use Rattle.bundle.specs.declared.index.Fork.{Fork}
use Rattle.rows.proofs.TeamRows.{at_slot, team-made, parent-is}
use Rattle.rows.proofs.pass.Teams.row_of.Goals as goal

pub size_of-requires : goal.size_of-requires
size_of-requires c = at_slot _ _ _ c.args.self.by_team _ c.slot_of-slot.ensures

pub returns : goal.returns
returns c =
    let parent : c.map_or.result ≡ from_option 0 (λ (f : Fork). f.parent) (option_of c.fork_of.result) = search rules in
    team-made _ _ (parent ∙ parent-is _ _ c.fork_of.ensures) c.size_of.ensures c.level_of.ensures.0
