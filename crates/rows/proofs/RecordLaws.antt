-- Records given as bytes.
use Prim.Native.Nat.{ℕ, ◌*◌, ◌/◌, ◌<◌}
use mathlib.Core.Path.{◌≡◌}
use mathlib.Core.List.{List}
use lib.ListN.{length, get_or}
use Rattle.bundle.proofs.Tables.{table-length}
use Rattle.rows.specs.Records.{record_at, records_in}
use Rattle.rows.specs.declared.row.Row.{Row}
use Rattle.rows.proofs.IntervalOrder.{table_at}

pub records-length : (s : List ℕ) → length (records_in s) ≡ length s / 32
unfolding records_in
records-length s = table-length (λ i. record_at s (32 * i)) (length s / 32)

pub record-in : (s : List ℕ) (i : ℕ) (d : Row) → i < length s / 32 → get_or (records_in s) i d ≡ record_at s (32 * i)
unfolding records_in
record-in s i d h = table_at (λ k. record_at s (32 * k)) (length s / 32) i d h
