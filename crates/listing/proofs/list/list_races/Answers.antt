-- `listing::list::list_races` meets its contract. Assumes nothing.
use Rattle.listing.proofs.ListCases.{listing-small, listing-large}
use Rattle.listing.proofs.list.list_races.Goals as goal

pub returns-then-work-lt-WORK_WORDS : goal.returns-then-work-lt-WORK_WORDS
returns-then-work-lt-WORK_WORDS c =
    record { spare_value = listing-small _ _ _ _ _ c.if-work-lt-WORK_WORDS.true; readable = tt }

pub returns : goal.returns
returns c =
    record {
      spare_value = listing-large _ _ _ _ _ c.list_in-listed.result c.list_in-listed.new.area c.if-work-lt-WORK_WORDS.false c.list_in-listed.ensures.0 c.list_in-listed.ensures.1 c.clear.ensures;
      readable = c.list_in-listed.ensures.2;
    }
