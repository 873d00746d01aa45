-- Inner: what the functions of the export and of the checker promise each other.
use Rattle.std.specs.Prelude.{ℕ, ◌≤◌, ◌≡◌, List, length}
use Rattle.std.specs.declared.result.Result.{Result}
use Rattle.std.specs.declared.result.Result.TheVariants.{Ok, Err}
use Rattle.bundle.specs.Answer.{refuses, number_of}
use Rattle.bundle.specs.Check.{check_of, Accepted}
use Rattle.bundle.specs.Index.{table}
use Rattle.bundle.specs.declared.refusal.Refusal.{Refusal}
use Rattle.rows.specs.Rows.{rows_of}
use Rattle.rows.specs.Slots.{row_in}

-- the words hold the records of an accepted bundle, in order
pub record RowsHeld (s : List ℕ) (n : ℕ) (words : List ℕ) : Type 0 where
  pub accepted : Accepted s
  pub few : n ≤ 512
  pub long : length words ≡ 1536
  pub rows : table (row_in words) n ≡ rows_of s

-- or the bundle is refused
abbrev pub LaidOut : List ℕ → Result ℕ Refusal → List ℕ → Type 0
LaidOut s (Ok n) words = RowsHeld s n words
LaidOut s (Err r) words = check_of s ≡ refuses (number_of r.cause) r.place
