-- `verdict::lineage::link_accesses` meets its contract. The invariant: the accesses passed are linked. Assumes nothing.
use Rattle.verdict.specs.Linking.{AccessLinks}
use Rattle.verdict.proofs.lineage.link_accesses.Given as goal

abbrev pub invariant-loop-i : goal.invariant-loop-i
invariant-loop-i l = AccessLinks l.rows l.forks.words.now l.links l.forks.count l.i
