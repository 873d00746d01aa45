-- `bundle::scan::follows_other` meets its contract. Assumes nothing.
use Rattle.bundle.proofs.Stepping.{wide-follows, narrow-follows}
use Rattle.bundle.proofs.scan.follows_other.Goals as goal

pub returns-then-wide : goal.returns-then-wide
returns-then-wide c = wide-follows _ c.requires c.if-wide.true

pub returns : goal.returns
returns c = narrow-follows _ c.requires c.if-wide.false
