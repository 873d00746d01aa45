-- `listing::list::list_in` meets its contract. Assumes nothing.
use mathlib.Core.Path.{◌≡◌, refl}
use borrow.Author.Rules.{rules}
use Rattle.std.specs.declared.result.Result.TheVariants.{Err}
use Rattle.verdict.proofs.JudgeCases.{regions-of}
use Rattle.listing.proofs.ListCases.{listed-as, listed-readable, listing-refused}
use Rattle.listing.proofs.list.list_in.Goals as goal

pub list_accepted-found-requires : goal.list_accepted-found-requires
list_accepted-found-requires c =
    let indexed = c.in_ok-counts.ensures in
    (indexed.accepted, regions-of indexed, c.requires)

pub returns : goal.returns
returns c =
    let indexed = c.in_ok-counts.ensures in
    let listed = c.list_accepted-found.ensures in
    (listed-as _ indexed _ _ _ _ _ listed.0 c.listed_of.ensures, listed.1, listed-readable _ indexed _ _ _ _ listed.0 c.listed_of.ensures)

pub returns-in_err-counts : goal.returns-in_err-counts
returns-in_err-counts c =
    let passed : c.from_residual.result ≡ Err c.in_err-counts.field-0.0 = search rules in
    rw passed (listing-refused _ c.in_err-counts.ensures _ _ _ _, refl, tt)
