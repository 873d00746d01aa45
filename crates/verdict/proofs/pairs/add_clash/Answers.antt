-- `verdict::pairs::add_clash` meets its contract. Assumes nothing.
use Rattle.verdict.proofs.PairCases.{byte_fits, clash-added, clash-apart}
use Rattle.verdict.proofs.pairs.add_clash.Goals as goal

pub overflow_cast-byte : goal.overflow_cast-byte
overflow_cast-byte c =
    record { fits = byte_fits c.args.one.row c.args.other.row _ c.lowest.ensures c.requires.0 c.in-Some.is }

pub returns-in-Some : goal.returns-in-Some
returns-in-Some c =
    clash-added _ _ _ c.lowest.ensures _ _ _ _ c.in-Some.is c.add_at.ensures

pub returns-in-None : goal.returns-in-None
returns-in-None c = clash-apart _ _ _ c.lowest.ensures _ _ _ _ c.in-None.is
