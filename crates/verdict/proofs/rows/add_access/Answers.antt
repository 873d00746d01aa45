-- `verdict::rows::add_access` meets its contract. Assumes nothing.
use borrow.Author.Rules.{rules}
use Rattle.verdict.proofs.AccessRows.{row-added}
use Rattle.verdict.proofs.rows.add_access.Goals as goal

pub returns : goal.returns
returns c =
    row-added _ _ _ _ _ _ _ _ c.requires
    (record { stride = search rules; team = search rules; member = search rules })
    c.small.ensures c.two.ensures c.two-2.ensures c.two-3.ensures c.two-4.ensures
