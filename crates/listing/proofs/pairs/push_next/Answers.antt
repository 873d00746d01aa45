-- `listing::pairs::push_next` meets its contract. Assumes nothing.
use mathlib.Core.Path.{ap}
use Rattle.verdict.specs.Working.{access_row_at}
use Rattle.verdict.specs.declared.pairs.Placed.{Placed}
use Rattle.listing.proofs.PushLaws.{next-none, next-pushed}
use Rattle.listing.proofs.pairs.push_next.Goals as goal

pub clash_behind-requires : goal.clash_behind-requires
clash_behind-requires c =
    let fits = c.requires in (
      record { below = fits.other_below; whole = fits.rows_whole },
      record { whole = fits.whole; row = fits.row.segment; column = fits.other_row.segment },
    )

pub returns-then-not-clash_behind : goal.returns-then-not-clash_behind
returns-then-not-clash_behind c =
    let start = c.args in
    next-none _ start.one.row (access_row_at start.tables.rows.now start.j) start.left start.one.at start.j c.clash_behind.ensures c.if-not-clash_behind.true

pub place_at-requires : goal.place_at-requires
place_at-requires c = let fits = c.requires in record { below = fits.other_below; whole = fits.rows_whole }

pub push_clash-requires : goal.push_clash-requires
push_clash-requires c =
    let fits = c.requires in
    rw (c.place_at.ensures) (fits.row, fits.other_row, fits.below, fits.other_below, fits.few)

pub returns : goal.returns
returns c =
    let start = c.args in
    next-pushed _ start.one.row (access_row_at start.tables.rows.now start.j) start.left start.one.at start.j c.clash_behind.ensures c.if-not-clash_behind.false
    (ap (λ (x : Placed). x.row) c.place_at.ensures) (rw (ap (λ (x : Placed). x.at) c.place_at.ensures) at c.push_clash.ensures)
