-- Records given as bytes: eight numbers of 4 bytes, low byte first, in the order of the columns.
use Rattle.std.specs.Prelude.{ℕ, ◌+◌, ◌*◌, ◌/◌, List, length}
use Rattle.bundle.specs.Commands.{number_at}
use Rattle.bundle.specs.Index.{table}
use Rattle.rows.specs.declared.row.Row.{Row}

unfoldable pub record_at : List ℕ → ℕ → Row
record_at s at =
    record {
      pid = number_at 4 s at;
      ppid = number_at 4 s (at + 4);
      bid = number_at 4 s (at + 8);
      offset = number_at 4 s (at + 12);
      span = number_at 4 s (at + 16);
      level = number_at 4 s (at + 20);
      begin = number_at 4 s (at + 24);
      size = number_at 4 s (at + 28);
    }

-- as many as there are whole ones
unfoldable pub records_in : List ℕ → List Row
records_in s = table (λ i. record_at s (32 * i)) (length s / 32)
