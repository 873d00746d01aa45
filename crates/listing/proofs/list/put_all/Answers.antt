-- `listing::list::put_all` meets its contract. Assumes nothing.
use mathlib.Core.Path.{◌≡◌, sym}
use borrow.Author.Rules.{rules}
use lib.ListN.{length, replicate}
use lib.Seq.{length-take-le}
use Rattle.listing.proofs.SettleLaws.{all-put}
use Rattle.listing.proofs.list.put_all.Goals as goal

pub put_names-requires : goal.put_names-requires
put_names-requires c = let pre = c.requires in (pre.0, pre.1)

pub slice_bounds-sort-end : goal.slice_bounds-sort-end
slice_bounds-sort-end c = c.requires.2

pub slice_bounds-sort-end-2 : goal.slice_bounds-sort-end-2
slice_bounds-sort-end-2 c = sym (length-take-le _ _ c.requires.2)

pub returns : goal.returns
returns c =
    let pre = c.requires in
    let cleared : c.fill.new.self ≡ replicate (length c.sort.new.spare) 0 = search rules in
    all-put _ _ _ _ _ _ pre.2 pre.3 c.put_names.ensures c.sort.ensures c.spare-1.given cleared
