-- `rows::plan::lay_out` meets its contract. Assumes nothing.
use borrow.Author.Rules.{rules}
use Rattle.rows.proofs.Layouts.{listable, few_regions}
use Rattle.rows.proofs.plan.lay_out.Goals as goal

pub lay_accepted-requires : goal.lay_accepted-requires
lay_accepted-requires c = (listable c.in_ok-counts.ensures _ (search rules), few_regions c.in_ok-counts.ensures)
