-- `listing::names::put_names` meets its contract. The invariant: the words of the accesses passed stand in front, the others are as they were. Assumes nothing.
use mathlib.Core.Path.{sym, ◌∙◌, ap}
use native.Mathlib.Omega.{arith}
use Rattle.verdict.specs.declared.rows.AccessRow.{AccessRow}
use Rattle.listing.specs.Ranking.{side_of_row, spot_of_row, word_of}
use Rattle.listing.proofs.Fronts.{table-none-yet, table-two-more}
use Rattle.listing.proofs.NameTables.{even-word, odd-word}
use Rattle.listing.proofs.names.put_names.Goals as goal

pub loop-i-init : goal.loop-i-init
loop-i-init c = table-none-yet (word_of _) _

pub loop-i-preserved : goal.loop-i-preserved
loop-i-preserved c =
    let row = c.access_at.ensures in
    c.put_access.ensures
    ∙ table-two-more (word_of _) _ c.loop-i.names c.loop-i.i _ _ (omega (arith, c.loop-i-test.true, c.requires.1)) c.loop-i.invariant
    (ap (λ (r : AccessRow). side_of_row r) row ∙ sym (even-word _ c.loop-i.i))
    (ap (λ (r : AccessRow). spot_of_row r) row ∙ sym (odd-word _ c.loop-i.i))
