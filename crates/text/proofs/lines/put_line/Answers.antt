-- `text::lines::put_line` meets its contract. Assumes nothing.
use Rattle.text.proofs.Printing.{print-no-room, print-written}
use borrow.Author.Rules.{rules}
use Rattle.text.proofs.lines.put_line.Goals as goal

pub returns-then-saturating_sub-line : goal.returns-then-saturating_sub-line
returns-then-saturating_sub-line c = print-no-room _ _ _ (search rules)

pub returns : goal.returns
returns c = print-written _ _ _ _ (search rules) c.copy_in.ensures
