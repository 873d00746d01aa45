-- `listing::names::order_words` meets its contract. Assumes nothing.
use Rattle.listing.proofs.RankLaws.{words-ordered}
use Rattle.listing.proofs.names.order_words.Goals as goal

pub returns : goal.returns
returns c =
    let pre = c.requires in
    words-ordered _ _ _ c.fill_words.ensures pre.1 pre.0.few c.sort.ensures
