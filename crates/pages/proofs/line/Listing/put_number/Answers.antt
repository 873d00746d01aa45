-- `pages::line::Listing::put_number` meets its contract. Assumes nothing.
use mathlib.Core.Path.{sym, ap}
use borrow.Author.Rules.{rules}
use Rattle.text.specs.Lines.{race_line}
use Rattle.text.proofs.Printing.{printed-as}
use Rattle.pages.proofs.Texts.{made-line}
use Rattle.pages.proofs.line.Listing.put_number.Goals as goal

pub returns-then-first-count : goal.returns-then-first-count
returns-then-first-count c =
    printed-as _ _ (made-line c.args.self.names.now c.args.sides.now c.args.number c.requires (search rules) (search rules)) c.put_sides.ensures

pub returns : goal.returns
returns c = printed-as _ _ (sym (ap race_line c.race_in.ensures)) c.put_race.ensures
