-- `listing::names::fill_words` meets its contract. The invariant: the words of the accesses passed stand in front, the others are as they were. Assumes nothing.
use mathlib.Core.Path.{◌∙◌, ap}
use Prim.Native.Nat.{◌+◌, ◌*◌}
use native.Mathlib.Omega.{arith}
use Rattle.verdict.specs.Tallying.{packed, row_name}
use Rattle.verdict.specs.declared.rows.AccessRow.{AccessRow}
use Rattle.listing.specs.Ranking.{name_word}
use Rattle.listing.proofs.Fronts.{table-none-yet, table-more-yet}
use Rattle.listing.proofs.names.fill_words.Goals as goal

pub loop-i-init : goal.loop-i-init
loop-i-init c = table-none-yet (name_word _) _

pub loop-i-preserved : goal.loop-i-preserved
loop-i-preserved c =
    table-more-yet (name_word _) _ c.loop-i.words c.loop-i.i _ (omega (arith, c.loop-i-test.true, c.requires.1)) c.loop-i.invariant
    (c.name_word.ensures ∙ ap (λ (r : AccessRow). packed (row_name r) * 1024 + c.loop-i.i) c.access_at.ensures)
