-- `bundle::survey::begin` meets its contract. Assumes nothing.
use Rattle.bundle.specs.Scan.{start}
use Rattle.bundle.specs.Survey.{beginning}
use Rattle.bundle.proofs.survey.begin.Goals as goal

pub returns : goal.returns
unfolding beginning start
returns c = rw c.fresh.ensures
