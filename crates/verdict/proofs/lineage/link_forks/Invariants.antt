-- `verdict::lineage::link_forks` meets its contract. The invariant: the REGIONs passed are linked. Assumes nothing.
use Rattle.verdict.specs.Linking.{ForksLinked}
use Rattle.verdict.proofs.lineage.link_forks.Given as goal

abbrev pub invariant-loop-k : goal.invariant-loop-k
invariant-loop-k l = ForksLinked l.forks.words.now l.initial.links l.links l.forks.count l.k
