-- `sorting::search::lower_bound` meets its contract. The invariant: the search from `low` up to `high` gives the answer. Assumes nothing.
use Rattle.sorting.proofs.Halving.{halved_none, halved-up, halved-down, halved-all}
use Rattle.sorting.proofs.search.lower_bound.Goals as goal

pub loop-low-init : goal.loop-low-init
loop-low-init c = halved_none c.args.words.now c.args.word

pub loop-low-preserved-then-words-middle : goal.loop-low-preserved-then-words-middle
loop-low-preserved-then-words-middle c = halved-up c.loop-low.invariant c.loop-low-test.true c.if-words-middle.true

pub loop-low-preserved : goal.loop-low-preserved
loop-low-preserved c = halved-down c.loop-low.invariant c.loop-low-test.true c.if-words-middle.false

pub returns : goal.returns
returns c = halved-all c.loop-low.invariant c.loop-low-test.false
