-- Between crates: what the index of a bundle gives, and a member's chunk by the rows of the chunks.
use Rattle.std.specs.Prelude.{ℕ, ◌≡◌, List}
use Rattle.std.specs.declared.result.Result.{Result}
use Rattle.std.specs.declared.result.Result.TheVariants.{Ok, Err}
use Rattle.bundle.specs.Answer.{Answer, gives, refuses, number_of}
use Rattle.bundle.specs.Lists.{first, from_option}
use Rattle.bundle.specs.Check.{check_of}
use Rattle.bundle.specs.Index.{is_row, Indexed}
use Rattle.bundle.specs.Find.{Ends}
use Rattle.bundle.specs.declared.index.ChunkRow.{ChunkRow}
use Rattle.bundle.specs.declared.refusal.Refusal.{Refusal}
use Rattle.bundle.specs.declared.survey.RowCounts.{RowCounts}

-- where a member's chunk begins and ends, by the rows of the chunks
unfoldable pub ends_by_rows : List ChunkRow → ℕ → ℕ → Answer Ends
ends_by_rows rs t m =
    from_option (refuses 14 0) (λ (r : ChunkRow). gives (record { start = r.place; end = r.past })) (first (is_row t m) rs)

-- a bundle that is refused, or accepted with its rows in the tables
abbrev pub IndexedAs : List ℕ → Result RowCounts Refusal → List ℕ → List ℕ → Type 0
IndexedAs s (Ok k) chunks forks = Indexed s k.chunks k.forks chunks forks
IndexedAs s (Err r) chunks forks = check_of s ≡ refuses (number_of r.cause) r.place
