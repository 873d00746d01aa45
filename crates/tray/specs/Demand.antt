-- What the word of a build says of its files, as one statement, in the terms of demand 3.
use Rattle.std.specs.Prelude.{ℕ, ◌≤◌, ◌≡◌, ◌↔◌, length}
use mathlib.Core.List.{List, [], Memᴰ}
use Rattle.std.proofs.Math.Option.{none, some}
use Rattle.bundle.specs.Answer.{refuses}
use Rattle.bundle.specs.Chunks.{chunks_of}
use Rattle.bundle.specs.Check.{check_of, Accepted}
use Rattle.verdict.specs.Races.{IsRace}
use Rattle.verdict.specs.declared.race.Race.{Race}
use Rattle.tray.specs.declared.word.Word.TheVariants as Wor
use Rattle.tray.specs.Words.{File, build_word}

-- a file that is an accepted bundle without a race
pub record Clean (file : File) : Type 0 where
  pub bytes : List ℕ
  pub read : file ≡ some bytes
  pub accepted : Accepted bytes
  pub no_race : (r : Race) → IsRace (chunks_of bytes) r → ⊥

-- a file that is an accepted bundle with a race
pub record Racing (file : File) : Type 0 where
  pub bytes : List ℕ
  pub read : file ≡ some bytes
  pub accepted : Accepted bytes
  pub race : Race
  pub is-race : IsRace (chunks_of bytes) race

-- a file that could not be read, or that check turns away
pub data TurnedAway : File → Type 0 where
  unreadable : TurnedAway none
  refused : (bytes : List ℕ) (number place : ℕ) → check_of bytes ≡ refuses number place → TurnedAway (some bytes)

-- some file of a build is so
pub record Some (P : File → Type 0) (files : List File) : Type 0 where
  pub file : File
  pub present : Memᴰ file files
  pub holds : P file

-- what the word of a build says
pub record Released (files : List File) : Type 0 where
  pub race_free : (build_word files ≡ Wor.RaceFree) ↔ ((1 ≤ length files) × ((f : File) → Memᴰ f files → Clean f))
  pub race : (build_word files ≡ Wor.Race) ↔ Some Racing files
  pub refused : (build_word files ≡ Wor.Refused) ↔ (Some TurnedAway files × (Some Racing files → ⊥))
  pub missing : (build_word files ≡ Wor.Missing) ↔ (files ≡ [])

-- for every build, whatever its files are
abbrev pub EveryBuild : Type 0
EveryBuild = (files : List File) → Released files
