-- `bundle::command::size_ok` meets its contract. Assumes nothing.
use Rattle.bundle.proofs.Ranges.{size-beyond, size-bits}
use Rattle.bundle.proofs.command.size_ok.Goals as goal

pub returns-then-size-gt8 : goal.returns-then-size-gt8
returns-then-size-gt8 c = size-beyond _ c.if-size-gt8.true

pub returns : goal.returns
returns c = size-bits _ c.if-size-gt8.false
