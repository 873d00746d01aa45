-- The lines that the program racelist prints (docs/FORMAT.md, "The listing"): "First the counts; then for each race in order its witness as
-- eight lower-case hexadecimal digits, first name as team.member.number, site, second name, site; then the race count. All but the witness
-- is decimal without leading zeros. Without races the second and only other line is `race-free`. A refusal prints just `refused N at P`,
-- number and offset. Every line ends in 0x0a."
use Rattle.std.specs.Prelude.{ℕ, ◌+◌, ◌-◌, cond, List, [], ◌∷◌, ◌++◌, leb, length}
use Rattle.bundle.specs.Answer.{gives, refuses}
use Rattle.bundle.specs.Commands.{Lent, written}
use Rattle.verdict.specs.declared.race.Name.{Name}
use Rattle.verdict.specs.declared.race.Race.{Race}
use Rattle.text.specs.Digits.{ascii, decimal, hexadecimal}

-- "Every line ends in 0x0a"
abbrev pub line_end : List ℕ
line_end = 0x0a ∷ []

-- "First the counts"
unfoldable pub counts_line : ℕ → ℕ → ℕ → List ℕ
counts_line chunks segments accesses =
    ascii "chunks " ++ decimal chunks ++ ascii " segments " ++ decimal segments ++ ascii " accesses " ++ decimal accesses ++ line_end

-- "name as team.member.number"
unfoldable pub name_text : Name → List ℕ
name_text n = decimal n.team ++ ascii "." ++ decimal n.member ++ ascii "." ++ decimal n.number

-- "then for each race in order its witness as eight lower-case hexadecimal digits, first name [..], site, second name, site"
unfoldable pub race_line : Race → List ℕ
race_line r =
    ascii "race "
    ++ hexadecimal r.witness
    ++ ascii " "
    ++ name_text r.first
    ++ ascii " "
    ++ decimal r.first_site
    ++ ascii " "
    ++ name_text r.second
    ++ ascii " "
    ++ decimal r.second_site
    ++ line_end

-- "then the race count"
unfoldable pub pairs_line : ℕ → List ℕ
pairs_line n = ascii "pairs " ++ decimal n ++ line_end

-- "Without races the second and only other line is `race-free`"
unfoldable pub race_free_line : List ℕ
race_free_line = ascii "race-free" ++ line_end

-- "A refusal prints just `refused N at P`, number and offset"
unfoldable pub refused_line : ℕ → ℕ → List ℕ
refused_line number place = ascii "refused " ++ decimal number ++ ascii " at " ++ decimal place ++ line_end

-- a line put at a position of a lent buffer, as a command is: "17 if it does not fit there; the place is the position. Refused, the buffer
-- is untouched. When written, only [its] bytes change, and the answer is the position after them"
unfoldable pub printed_at : List ℕ → List ℕ → ℕ → Lent ℕ
printed_at line buffer at =
    cond (leb (length line) (length buffer - at))
    (record { answer = gives (at + length line); buffer = written buffer at line })
    (record { answer = refuses 17 at; buffer = buffer })
