-- `bundle::teams::order_teams` meets its contract. Assumes nothing.
use native.Mathlib.Omega.{arith}
use Rattle.bundle.proofs.TeamOrder.{teams-sorted}
use borrow.Author.Rules.{rules}
use Rattle.bundle.proofs.teams.order_teams.Goals as goal

pub returns : goal.returns
returns c = teams-sorted c.args.forks.now _ _ c.requires (λ k. omega (arith, c.type_inv.forks k)) c.number_teams.ensures c.sort.ensures (search rules)
