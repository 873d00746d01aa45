-- `verdict::pairs::Tables::clashing` meets its contract. Assumes nothing.
use mathlib.Core.Path.{ap}
use Rattle.verdict.specs.Linking.{links_in, held_in}
use Rattle.verdict.proofs.ClashWords.{own-word, word_fits}
use Rattle.verdict.proofs.pairs.Tables.clashing.Goals as goal

pub keep_apart-requires : goal.keep_apart-requires
keep_apart-requires c =
    let fits = word_fits _ _ _ _ _ _ _ _ _ _ c.requires.0 c.requires.2 (ap held_in c.in-Some.is) c.passing-word.ensures in
    rw (ap links_in c.in-Some.is) at fits

pub returns-in-None : goal.returns-in-None
returns-in-None c = own-word _ _ _ _ _ _ _ _ _ _ c.requires.0 c.requires.2 (ap held_in c.in-None.is) c.passing-word.ensures
