-- `rewrite::convert::put_regrouped` meets its contract. Assumes nothing.
use mathlib.Core.Path.{sym, ◌∙◌}
use borrow.Author.Rules.{rules}
use Rattle.rewrite.proofs.ConvertPass.{put_next, put_after}
use Rattle.rewrite.proofs.convert.put_regrouped.Goals as goal

pub unwrap-requires : goal.unwrap-requires
unwrap-requires c = rw (put_next _ _ _ _ c.requires c.regroup.ensures _ c.put_command.ensures) (search rules)

pub returns : goal.returns
returns c =
    let same = sym c.unwrap.ensures ∙ put_next _ _ _ _ c.requires c.regroup.ensures _ c.put_command.ensures in
    (cc, put_after _ _ _ _ c.requires c.regroup.ensures _ c.put_command.ensures)
