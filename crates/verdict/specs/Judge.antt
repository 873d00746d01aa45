-- Judging a bundle, and the next race.
use Rattle.std.specs.Prelude.{ℕ, cond, List, [], ◌∷◌, length, replicate, ltb}
use Rattle.std.proofs.Math.Option.{Option}
use Rattle.bundle.specs.Answer.{Answer, gives, refuses, when_given, number_of}
use Rattle.bundle.specs.Lists.{first, option_of}
use Rattle.bundle.specs.Commands.{Lent}
use Rattle.bundle.specs.Chunks.{Chunk, chunks_of}
use Rattle.bundle.specs.Check.{check_of}
use Rattle.verdict.specs.Graph.{segments_of}
use Rattle.verdict.specs.Accesses.{accesses_of, lex_less, key_of, race_key}
use Rattle.verdict.specs.RaceLists.{races_of}
use Rattle.verdict.specs.declared.race.Name.{Name}
use Rattle.verdict.specs.declared.race.Race.{Race}
use Rattle.std.specs.declared.option.Option as Rust
use Rattle.std.specs.declared.option.Option.TheVariants.{Some, None}
use Rattle.std.specs.declared.result.Result.{Result}
use Rattle.std.specs.declared.result.Result.TheVariants.{Ok, Err}
use Rattle.bundle.specs.declared.refusal.Refusal.{Refusal}
use Rattle.verdict.specs.declared.race.Judgement.{Judgement}

-- "the least race or race-free"
unfoldable pub verdict_of : List Race → Rust.Option Race
verdict_of [] = None
verdict_of (r ∷ rs) = Some r

-- "Judging gives the counts of the bundle's chunks, segments, accesses and races, each race counted once, and the least race or race-free"
unfoldable pub judgement_of : List Chunk → Judgement
judgement_of cs =
    let races = races_of cs in
    record {
      chunks = length cs;
      segments = length (segments_of cs);
      accesses = length (accesses_of cs);
      races = length races;
      least = verdict_of races;
    }

-- "Next race takes a witness and two names, real or not, and gives the least race above them, or none"
unfoldable pub race_above : List ℕ → List Race → Option Race
race_above key rs = first (λ (r : Race). lex_less key (race_key r)) rs

-- "13 work area under 16,384 words of 32 bits, at 0, left untouched; then as check. After every other outcome the whole area is 0":
-- the answer, and the work area afterwards
unfoldable pub over_work : {A : Type 0} → List ℕ → Answer A → Lent A
over_work work answer =
    cond (ltb (length work) 16384)
    (record { answer = refuses 13 0; buffer = work })
    (record { answer = answer; buffer = replicate (length work) 0 })

-- "Judge": as check, else the judgement
unfoldable pub judged_of : List ℕ → Answer Judgement
judged_of s = when_given (check_of s) (λ u. gives (judgement_of (chunks_of s)))

unfoldable pub judge_of : List ℕ → List ℕ → Lent Judgement
judge_of s work = over_work work (judged_of s)

-- "Next race": as check, else the least race above the key
unfoldable pub next_above : List ℕ → List ℕ → Answer (Option Race)
next_above s key = when_given (check_of s) (λ u. gives (race_above key (races_of (chunks_of s))))

unfoldable pub next_of : List ℕ → ℕ → Name → Name → List ℕ → Lent (Option Race)
next_of s witness first second work = over_work work (next_above s (key_of witness first second))

-- what the code's answer to the next race says
abbrev pub next_race_of : Result (Rust.Option Race) Refusal → Answer (Option Race)
next_race_of (Ok race) = gives (option_of race)
next_race_of (Err r) = refuses (number_of r.cause) r.place
