-- `tray::word::after` meets its contract. Assumes nothing.
use borrow.Author.Rules.{rules}
use Rattle.tray.proofs.WordLaws.{onward}
use Rattle.tray.proofs.word.after.Goals as goal

pub returns-clause-build : goal.returns-clause-build
returns-clause-build c = onward c.args.word c.args.outcome (search rules)
