-- `bundle::survey::opened` meets its contract. Assumes nothing.
use Rattle.bundle.specs.Survey.{opened_at}
use borrow.Author.Rules.{rules}
use Rattle.bundle.proofs.survey.opened.Goals as goal

pub returns : goal.returns
unfolding opened_at
returns c = search rules
