-- `rows::records::record_at` meets its contract. Assumes nothing.
use Rattle.rows.specs.Records.{record_at}
use Rattle.rows.proofs.records.record_at.Goals as goal

pub returns : goal.returns
unfolding record_at
returns c = rw (c.four_bytes-8.ensures, c.four_bytes-7.ensures, c.four_bytes-6.ensures, c.four_bytes-5.ensures, c.four_bytes-4.ensures, c.four_bytes-3.ensures, c.four_bytes-2.ensures, c.four_bytes.ensures)
