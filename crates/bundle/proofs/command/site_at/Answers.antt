-- `bundle::command::site_at` meets its contract. Assumes nothing.
use Rattle.bundle.proofs.command.site_at.Goals as goal

pub returns-then-wide : goal.returns-then-wide
returns-then-wide c = rw c.if-wide.true c.four_bytes.ensures

pub returns : goal.returns
returns c = rw c.if-wide.false c.two_bytes.ensures
