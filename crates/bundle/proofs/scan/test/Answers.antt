-- `bundle::scan::test` meets its contract. Assumes nothing.
use Rattle.bundle.proofs.scan.test.Goals as goal

pub returns-in-Member : goal.returns-in-Member
returns-in-Member c = rw c.in-Member.is c.test_member.ensures

pub returns-in-End : goal.returns-in-End
returns-in-End c = rw c.in-End.is c.test_end.ensures

pub returns-in-Region : goal.returns-in-Region
returns-in-Region c = rw c.in-Region.is c.test_region.ensures

pub returns-in-Barrier : goal.returns-in-Barrier
returns-in-Barrier c = rw c.in-Barrier.is c.test_barrier.ensures

pub returns-in-Acquire : goal.returns-in-Acquire
returns-in-Acquire c = rw c.in-Acquire.is c.test_acquire.ensures

pub returns-in-Release : goal.returns-in-Release
returns-in-Release c = rw c.in-Release.is c.test_release.ensures

pub returns-in-Access : goal.returns-in-Access
returns-in-Access c = rw c.in-Access.is c.test_access.ensures

pub returns-in-Cut : goal.returns-in-Cut
returns-in-Cut c = rw c.in-Cut.is c.test_cut.ensures
