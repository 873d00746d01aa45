-- One file of a build, from what the functions below promise; and all of its files, one after another. Assumes nothing.
use mathlib.Core.Path.{◌≡◌, refl, ap, ◌∙◌}
use mathlib.Core.List.{List, map}
use mathlib.Core.Option.{some}
use Prim.Native.Nat.{ℕ, ◌≤◌}
use lib.ListN.{length, take}
use borrow.Author.Tests.{le-ltb}
use Rattle.bundle.specs.Answer.{Answer}
use Rattle.bundle.specs.Commands.{Lent}
use Rattle.verdict.specs.Judge.{over_work, judge_of}
use Rattle.verdict.specs.declared.race.Judgement.{Judgement}
use Rattle.text.specs.Lines.{printed_at}
use Rattle.tray.specs.declared.word.Outcome.{Outcome}
use Rattle.tray.specs.declared.word.Outcome.TheVariants as Out
use Rattle.tray.specs.declared.word.Word.{Word}
use Rattle.tray.specs.declared.word.Word.TheVariants as Wor
use Rattle.tray.specs.Words.{outcome_of, after_outcome, after_all, File, file_outcome, build_word}
use Rattle.tray.specs.Texts.{bundle_line, unreadable_line}
use Rattle.tray.specs.Telling.{Telling, Judged, unreadable_told, judged_told}
use Rattle.tray.specs.Inner.{PutWithin}
use Rattle.tray.proofs.WordLaws.{word-all}
use Rattle.tray.proofs.Adding.{put-within}
use Rattle.tray.proofs.Cutting.{cut-same}

pub told : {judged : Lent Judgement} {next : Word} {o : Outcome} {t w : List ℕ} (word : Word) (answer : Answer Judgement) (line : Answer ℕ) (s : List ℕ) (at : ℕ)
    → judged ≡ record { answer = answer; buffer = w } → o ≡ outcome_of answer → next ≡ after_outcome word o
    → printed_at (bundle_line answer) s at ≡ record { answer = line; buffer = t }
    → judged_told judged word s at ≡ record { told = record { word = next; line = line; buffer = t }; work = w }
told word answer line s at e q a b = ap (λ (l : Lent Judgement). judged_told l word s at) e ∙ rw (b, a, q) refl

pub told-unreadable : {next : Word} {t : List ℕ} (word : Word) (line : Answer ℕ) (s : List ℕ) (at : ℕ) → next ≡ after_outcome word Out.Refused
    → printed_at unreadable_line s at ≡ record { answer = line; buffer = t }
    → unreadable_told word s at ≡ record { word = next; line = line; buffer = t }
told-unreadable word line s at a b = rw (b, a) refl

-- the line that is told of a file lies in the buffer
pub told-within : (judged : Lent Judgement) {next : Word} {t w : List ℕ} (word : Word) (a : Answer ℕ) (s : List ℕ)
    → judged_told judged word s 0 ≡ record { told = record { word = next; line = a; buffer = t }; work = w } → PutWithin a (length t)
told-within judged word a s e =
    put-within (bundle_line judged.answer) s a (ap (λ (x : Judged). record { answer = x.told.line; buffer = x.told.buffer }) e)

pub unreadable-within : {next : Word} {t : List ℕ} (word : Word) (a : Answer ℕ) (s : List ℕ)
    → unreadable_told word s 0 ≡ record { word = next; line = a; buffer = t } → PutWithin a (length t)
unreadable-within word a s e = put-within unreadable_line s a (ap (λ (x : Telling). record { answer = x.line; buffer = x.buffer }) e)

-- the word after a file of which so much was read as the program reads, in a large enough work area
pub told-word : (s work : List ℕ) (word : Word) (buffer : List ℕ) (at : ℕ) → 16384 ≤ length work
    → (judged_told (judge_of (take 65537 s) work) word buffer at).told.word ≡ after_outcome word (file_outcome (some s))
unfolding judge_of over_work file_outcome
told-word s work word buffer at large = rw (le-ltb (length work) 16384 large) (ap (λ a. after_outcome word (outcome_of a)) (cut-same s))

-- from the word of no file on, file by file: the word of the build
pub told-all : (files : List File) → after_all Wor.Missing (map file_outcome files) ≡ build_word files
unfolding build_word
told-all files = word-all (map file_outcome files)
