-- The outcome of a bundle, and the word of a build (docs/TRAY.md): "`race` if some bundle has a race; else `refused` if some bundle is turned away or could
-- not be read; else `missing` if there is none", else `race-free`.
use Rattle.std.specs.Prelude.{ℕ, ◌≡◌, Bool, true, false, cond, List, [], ◌∷◌, ◌++◌, map}
use Rattle.std.proofs.Math.Option.{Option, none, some}
use Rattle.std.specs.declared.option.Option as Rust
use Rattle.std.specs.declared.option.Option.TheVariants.{Some, None}
use Rattle.bundle.specs.Answer.{Answer, gives, refuses}
use Rattle.bundle.specs.Lists.{any}
use Rattle.verdict.specs.Judge.{judged_of}
use Rattle.verdict.specs.declared.race.Race.{Race}
use Rattle.verdict.specs.declared.race.Judgement.{Judgement}
use Rattle.tray.specs.declared.word.Outcome.{Outcome}
use Rattle.tray.specs.declared.word.Outcome.TheVariants as Out
use Rattle.tray.specs.declared.word.Word.{Word}
use Rattle.tray.specs.declared.word.Word.TheVariants as Wor

-- the outcome of a bundle that was read
abbrev pub verdict_outcome : Rust.Option Race → Outcome
verdict_outcome None = Out.RaceFree
verdict_outcome (Some r) = Out.Race

abbrev pub outcome_of : Answer Judgement → Outcome
outcome_of (gives j) = verdict_outcome j.least
outcome_of (refuses n p) = Out.Refused

abbrev pub is_race : Outcome → Bool
is_race Out.Race = true
is_race Out.RaceFree = false
is_race Out.Refused = false

abbrev pub is_refused : Outcome → Bool
is_refused Out.Race = false
is_refused Out.RaceFree = false
is_refused Out.Refused = true

-- the word of a build whose bundles have these outcomes
unfoldable pub word_of : List Outcome → Word
word_of os =
    cond (any is_race os) Wor.Race
    (cond (any is_refused os) Wor.Refused
    (elim os [ [] ↦ Wor.Missing | o ∷ more ↦ Wor.RaceFree ]))

-- the word of a build that has one bundle
abbrev pub word_for : Outcome → Word
word_for Out.Race = Wor.Race
word_for Out.RaceFree = Wor.RaceFree
word_for Out.Refused = Wor.Refused

-- the word after one bundle more: by `word_after` that of all of them
abbrev pub after_race_free : Word → Word
after_race_free Wor.Missing = Wor.RaceFree
after_race_free Wor.RaceFree = Wor.RaceFree
after_race_free Wor.Refused = Wor.Refused
after_race_free Wor.Race = Wor.Race

abbrev pub after_refused : Word → Word
after_refused Wor.Missing = Wor.Refused
after_refused Wor.RaceFree = Wor.Refused
after_refused Wor.Refused = Wor.Refused
after_refused Wor.Race = Wor.Race

abbrev pub after_outcome : Word → Outcome → Word
after_outcome word Out.Race = Wor.Race
after_outcome word Out.RaceFree = after_race_free word
after_outcome word Out.Refused = after_refused word

-- the word after more bundles, one after another: by `word-all` from `Missing` on that of all of them
abbrev pub after_all : Word → List Outcome → Word
after_all word [] = word
after_all word (o ∷ os) = after_all (after_outcome word o) os

-- what the word after one bundle more has to be: whatever the bundles before, that of all of them
abbrev pub Onward : Word → Outcome → Word → Type 0
Onward word outcome next = (os : List Outcome) → word ≡ word_of os → next ≡ word_of (os ++ (outcome ∷ []))

-- a file of a build: its bytes, or none if it could not be read
abbrev pub File : Type 0
File = Option (List ℕ)

unfoldable pub file_outcome : File → Outcome
file_outcome none = Out.Refused
file_outcome (some s) = outcome_of (judged_of s)

-- the word of a build that has these files
unfoldable pub build_word : List File → Word
build_word files = word_of (map file_outcome files)
