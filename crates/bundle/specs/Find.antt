-- Find a member's chunk: where it begins and ends, and the part that is handed back.
use Rattle.std.specs.Prelude.{ℕ, List}
use Rattle.std.specs.Borrow.{Bor}
use Rattle.std.specs.declared.result.Result.{Result}
use Rattle.std.specs.declared.result.Result.TheVariants.{Ok, Err}
use Rattle.bundle.specs.Answer.{Answer, gives, refuses, when_given, number_of}
use Rattle.bundle.specs.Lists.{from_option}
use Rattle.bundle.specs.Chunks.{Chunk, chunks_of, chunk_of}
use Rattle.bundle.specs.Check.{check_of}
use Rattle.bundle.specs.declared.refusal.Refusal.{Refusal}
pub use Rattle.bundle.specs.declared.check.Ends.{Ends}

-- the offset of a chunk's MEMBER, and the offset after its END or CUT
unfoldable pub ends_of : List ℕ → ℕ → ℕ → Answer Ends
ends_of s t m =
    when_given (check_of s)
    (λ u. from_option (refuses 14 0) (λ (c : Chunk). gives (record { start = c.place; end = c.past })) (chunk_of (chunks_of s) t m))

-- what the answer of the code says of a part that is handed back
abbrev pub part_answer : Result (Bor (List ℕ)) Refusal → Answer (List ℕ)
part_answer (Ok part) = gives part.now
part_answer (Err r) = refuses (number_of r.cause) r.place
