-- `bundle::scan::test_access` meets its contract. Assumes nothing.
use Rattle.bundle.proofs.scan.test_access.Goals as goal

pub returns-then-access : goal.returns-then-access
returns-then-access c = c.test_of_group.ensures

pub returns : goal.returns
returns c = c.test_of_group-2.ensures
