-- The lines of the program judge_build (docs/TRAY.md): one for each bundle, and the build's. "Each line's first word is the bundle's word. The rest of a
-- `race` line is racelist's lines of the bundle with its least race alone, joined by single spaces: counts, least race, number of races."
use Rattle.std.specs.Prelude.{ℕ, ◌-◌, List, ◌++◌, length, take}
use Rattle.bundle.specs.Answer.{Answer, gives, refuses}
use Rattle.std.specs.declared.option.Option.{Option}
use Rattle.std.specs.declared.option.Option.TheVariants.{Some, None}
use Rattle.verdict.specs.declared.race.Race.{Race}
use Rattle.verdict.specs.declared.race.Judgement.{Judgement}
use Rattle.text.specs.Digits.{ascii}
use Rattle.text.specs.Lines.{line_end, counts_line, race_line, pairs_line, refused_line}
use Rattle.tray.specs.declared.word.Word.{Word}
use Rattle.tray.specs.declared.word.Word.TheVariants as Wor

-- a line with a space in place of its end
abbrev pub spaced : List ℕ → List ℕ
spaced line = take (length line - 1) line ++ ascii " "

-- `race chunks C segments S accesses A race W T.M.K SITE T.M.K SITE pairs N`, `race-free chunks C segments S accesses A`
unfoldable pub verdict_line : Judgement → Option Race → List ℕ
verdict_line j None = ascii "race-free " ++ counts_line j.chunks j.segments j.accesses
verdict_line j (Some r) =
    ascii "race " ++ spaced (counts_line j.chunks j.segments j.accesses) ++ spaced (race_line r) ++ pairs_line j.races

-- the line of a bundle that was read
unfoldable pub bundle_line : Answer Judgement → List ℕ
bundle_line (gives j) = verdict_line j j.least
bundle_line (refuses n p) = refused_line n p

-- "`refused unreadable`: the file could not be opened or read"
unfoldable pub unreadable_line : List ℕ
unreadable_line = ascii "refused unreadable" ++ line_end

-- the last line
unfoldable pub build_line : Word → List ℕ
build_line Wor.Missing = ascii "build missing" ++ line_end
build_line Wor.RaceFree = ascii "build race-free" ++ line_end
build_line Wor.Refused = ascii "build refused" ++ line_end
build_line Wor.Race = ascii "build race" ++ line_end
