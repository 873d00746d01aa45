-- `bundle::index::word_at` meets its contract. Assumes nothing.
use mathlib.Core.Path.{sym}
use lib.ListN.{get_or-eq_default}
use Rattle.bundle.proofs.index.word_at.Goals as goal

pub returns : goal.returns
returns c = sym (get_or-eq_default c.args.table.now 0 c.if-i-table.false)
