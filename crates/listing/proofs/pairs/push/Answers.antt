-- `listing::pairs::push` meets its contract. Assumes nothing.
use Rattle.listing.proofs.PushLaws.{push-out, push-in}
use Rattle.listing.proofs.pairs.push.Goals as goal

pub returns-then-numbers-count : goal.returns-then-numbers-count
returns-then-numbers-count c = push-out _ _ _ c.if-numbers-count.true

pub returns : goal.returns
returns c = push-in _ _ _
