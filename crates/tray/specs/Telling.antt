-- One file of a build: the build's word after it, and its line in a lent buffer.
use Rattle.std.specs.Prelude.{ℕ, List}
use Rattle.bundle.specs.Answer.{Answer}
use Rattle.bundle.specs.Commands.{Lent}
use Rattle.verdict.specs.declared.race.Judgement.{Judgement}
use Rattle.text.specs.Lines.{printed_at}
use Rattle.tray.specs.declared.word.Outcome.{Outcome}
use Rattle.tray.specs.declared.word.Outcome.TheVariants as Out
use Rattle.tray.specs.declared.word.Word.{Word}
use Rattle.tray.specs.Words.{outcome_of, after_outcome}
use Rattle.tray.specs.Texts.{bundle_line, unreadable_line}

pub record Telling : Type 0 where
  pub word : Word
  pub line : Answer ℕ
  pub buffer : List ℕ

abbrev pub told_by : Outcome → List ℕ → Word → List ℕ → ℕ → Telling
told_by outcome line word buffer position =
    let printed = printed_at line buffer position in
    record { word = after_outcome word outcome; line = printed.answer; buffer = printed.buffer }

-- a file that was read, as the judge answers it
abbrev pub told_of : Answer Judgement → Word → List ℕ → ℕ → Telling
told_of answer = told_by (outcome_of answer) (bundle_line answer)

-- a file that could not be read
abbrev pub unreadable_told : Word → List ℕ → ℕ → Telling
unreadable_told = told_by Out.Refused unreadable_line

-- a file that was read: what is told of it, and what is left in the judge's work area
pub record Judged : Type 0 where
  pub told : Telling
  pub work : List ℕ

abbrev pub judged_told : Lent Judgement → Word → List ℕ → ℕ → Judged
judged_told judged word buffer position = record { told = told_of judged.answer word buffer position; work = judged.buffer }
