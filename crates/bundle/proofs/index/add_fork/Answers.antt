-- `bundle::index::add_fork` meets its contract. Assumes nothing.
use native.Mathlib.Omega.{arith}
use lib.ListN.{length-set}
use Rattle.bundle.proofs.Tables.{fork-added, stored-fork}
use Rattle.bundle.proofs.index.add_fork.Goals as goal

pub bounds-forks-at-2 : goal.bounds-forks-at-2
bounds-forks-at-2 c = simp length-set (omega (arith, c.requires.0))

pub returns : goal.returns
returns c = fork-added _ _ _ _ _ _ c.requires.0 (stored-fork _ _ _ c.pack.ensures c.pack-2.ensures)
