-- What interval_rows has to write for a bundle.
use Rattle.std.specs.Prelude.{ℕ, ◌≡◌, List}
use Rattle.std.specs.declared.result.Result.{Result}
use Rattle.std.specs.declared.result.Result.TheVariants.{Ok, Err}
use Rattle.bundle.specs.Answer.{refuses, number_of}
use Rattle.bundle.specs.Check.{check_of, Accepted}
use Rattle.bundle.specs.declared.refusal.Refusal.{Refusal}
use Rattle.rows.specs.Rows.{rows_of}
use Rattle.interval_rows.specs.Lines.{csv_text}

-- the rows of an accepted bundle as text
pub record AsText (s written : List ℕ) : Type 0 where
  pub accepted : Accepted s
  pub text : written ≡ csv_text (rows_of s)

-- or the bundle is refused
abbrev pub Printed : List ℕ → Result (Unit {0}) Refusal → List ℕ → Type 0
Printed s (Ok u) written = AsText s written
Printed s (Err r) written = check_of s ≡ refuses (number_of r.cause) r.place
