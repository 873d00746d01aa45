-- `verdict::pairs::passes` meets its contract. Assumes nothing.
use Rattle.verdict.specs.Tallying.{rows_pass}
use Rattle.verdict.proofs.pairs.passes.Goals as goal

pub returns : goal.returns
unfolding rows_pass
returns c = rw (c.kinds_clash.ensures, c.locks_apart.ensures, c.bounds_meet.ensures)
