-- `rows::records::check_records` meets its contract. Assumes nothing.
use Prim.Native.Nat.{◌*◌}
use mathlib.Core.Path.{◌≡◌, sym, ◌∙◌}
use borrow.Author.Rules.{rules}
use Rattle.rows.specs.Records.{record_at, records_in}
use Rattle.rows.proofs.RecordLaws.{records-length, record-in}
use Rattle.rows.proofs.records.check_records.Goals as goal

pub returns : goal.returns
returns c =
    c.check_given.ensures (records_in c.args.given.now) (sym (records-length c.args.given.now))
    (λ i h row d e. let same : row ≡ record_at c.args.given.now (32 * i) = search rules in same ∙ sym (record-in c.args.given.now i d h))
