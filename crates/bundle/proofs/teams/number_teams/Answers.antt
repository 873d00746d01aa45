-- `bundle::teams::number_teams` meets its contract. Assumes nothing.
use mathlib.Core.Path.{refl, sym}
use borrow.Author.Rules.{rules}
use Rattle.bundle.proofs.Tables.{table_none}
use Rattle.bundle.proofs.TeamOrder.{written-more, written_all}
use Rattle.bundle.proofs.teams.number_teams.Goals as goal

pub loop-i-init : goal.loop-i-init
loop-i-init c = sym (table_none _)

pub loop-i-preserved : goal.loop-i-preserved
loop-i-preserved c = written-more _ _ _ c.loop-i.invariant _ (search rules) (rw c.at.ensures refl)

pub returns : goal.returns
returns c = written_all _ _ _ c.loop-i.invariant _ (search rules) (search rules) (search rules)
