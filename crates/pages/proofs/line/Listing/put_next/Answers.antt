-- `pages::fill::Listing::put_next` meets its contract. Assumes nothing.
use Rattle.pages.proofs.Paging.{next-written, next-refused}
use Rattle.pages.proofs.line.Listing.put_next.Goals as goal

pub returns-in-Ok : goal.returns-in-Ok
returns-in-Ok c = next-written _ c.put_line_with.ensures c.in-Ok.is

pub returns-in-Err : goal.returns-in-Err
returns-in-Err c = next-refused _ c.put_line_with.ensures c.in-Err.is
