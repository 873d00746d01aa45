-- Words and lines, settled by computation. Assumes nothing.
use mathlib.Core.Path.{◌≡◌, refl}
use mathlib.Core.List.{[], ◌∷◌, ◌++◌, map}
use Rattle.bundle.specs.Answer.{gives, refuses}
use Rattle.std.specs.declared.option.Option.TheVariants.{Some, None}
use Rattle.text.specs.Digits.{ascii, digit_byte, digits, width_within, width_of}
use Rattle.text.specs.Lines.{counts_line, name_text, race_line, pairs_line, refused_line}
use Rattle.text.proofs.Examples.{race_of_e}
use Rattle.tray.specs.declared.word.Outcome.TheVariants as Out
use Rattle.tray.specs.declared.word.Word.TheVariants as Wor
use Rattle.tray.specs.Words.{word_of}
use Rattle.tray.specs.Texts.{verdict_line, bundle_line, unreadable_line, build_line}

pub words :
    map word_of ([] ∷ (Out.RaceFree ∷ []) ∷ (Out.RaceFree ∷ Out.Refused ∷ Out.RaceFree ∷ []) ∷ (Out.Refused ∷ Out.Race ∷ Out.RaceFree ∷ []) ∷ [])
    ≡ Wor.Missing ∷ Wor.RaceFree ∷ Wor.Refused ∷ Wor.Race ∷ []
unfolding word_of
words = refl

-- of E, P2 and P3
pub line-of-E :
    bundle_line (gives (record { chunks = 3; segments = 6; accesses = 2; races = 1; least = Some race_of_e }))
    ≡ ascii "race chunks 3 segments 6 accesses 2 race 0000100a 1.0.0 10 1.1.0 20 pairs 1\n"
unfolding bundle_line verdict_line counts_line name_text race_line pairs_line digit_byte digits width_within width_of
line-of-E = refl

pub line-of-P2 :
    bundle_line (gives (record { chunks = 3; segments = 6; accesses = 2; races = 0; least = None }))
    ≡ ascii "race-free chunks 3 segments 6 accesses 2\n"
unfolding bundle_line verdict_line counts_line digit_byte digits width_within width_of
line-of-P2 = refl

pub line-of-P3 : bundle_line (refuses 10 0) ++ unreadable_line ++ build_line Wor.RaceFree ≡ ascii "refused 10 at 0\nrefused unreadable\nbuild race-free\n"
unfolding bundle_line refused_line unreadable_line build_line digit_byte digits width_within width_of
line-of-P3 = refl
