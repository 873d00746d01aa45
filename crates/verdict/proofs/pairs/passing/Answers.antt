-- `verdict::pairs::passing` meets its contract. The invariant: the bits below k are the tests of their accesses. Assumes nothing.
use Rattle.verdict.proofs.WordBits.{bits_none, bits-more, bits-all}
use Rattle.verdict.proofs.pairs.passing.Goals as goal

pub loop-k-init : goal.loop-k-init
loop-k-init c = bits_none _ _

pub loop-k-preserved : goal.loop-k-preserved
loop-k-preserved c = bits-more c.passes.result c.loop-k.invariant c.loop-k-test.true c.passes.ensures

pub returns : goal.returns
returns c = bits-all c.loop-k-test.false c.loop-k.invariant
