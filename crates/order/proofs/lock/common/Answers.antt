-- `order::lock::common` meets its contract: the bits that both sets have. Assumes nothing.
use borrow.Author.Rules.{rules}
use Rattle.order.proofs.CommonLocks.{common-bits}
use Rattle.order.proofs.lock.common.Goals as goal

pub returns : goal.returns
returns c = common-bits c.args.first c.args.second (search rules)
