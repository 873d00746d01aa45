-- `listing::pairs::push_clash` meets its contract. Assumes nothing.
use Rattle.verdict.proofs.PairCases.{byte_fits}
use Rattle.listing.proofs.PushLaws.{byte-pushed, byte-none}
use Rattle.listing.proofs.pairs.push_clash.Goals as goal

pub overflow_cast-byte : goal.overflow_cast-byte
overflow_cast-byte c =
    record { fits = byte_fits c.args.one.row c.args.other.row _ c.lowest.ensures c.requires.0 c.in-Some.is }

pub returns-in-Some : goal.returns-in-Some
returns-in-Some c =
    byte-pushed _ _ c.lowest.ensures c.in-Some.is c.number_of.ensures c.push.ensures

pub returns-in-None : goal.returns-in-None
returns-in-None c = byte-none _ _ c.lowest.ensures c.in-None.is
