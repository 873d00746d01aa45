-- `bundle::shape::shape_in` meets its contract. Assumes nothing.
use Rattle.bundle.proofs.MetTables.{nothing-met}
use Rattle.bundle.proofs.Tables.{table_none}
use Rattle.bundle.proofs.TeamOrder.{ordered-for}
use Rattle.bundle.proofs.shape.shape_in.Goals as goal

pub test_all-requires : goal.test_all-requires
test_all-requires c =
    record {
      by_team = ordered-for c.args.forks.words.now c.args.order.now c.requires.order_long c.order_teams.ensures;
      met = nothing-met _ _ _ c.requires (table_none _);
    }
