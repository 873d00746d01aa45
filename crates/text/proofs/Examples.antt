-- The listings of the examples in docs/FORMAT.md, settled by computation. Assumes nothing.
use mathlib.Core.Path.{◌≡◌, refl}
use mathlib.Core.List.{◌++◌}
use Rattle.verdict.specs.declared.race.Race.{Race}
use Rattle.text.specs.Digits.{ascii, digit_byte, digits, width_within, width_of}
use Rattle.text.specs.Lines.{counts_line, name_text, race_line, pairs_line, race_free_line, refused_line}

abbrev pub race_of_e : Race
race_of_e =
    record {
      witness = 0x100a;
      first = record { team = 1; member = 0; number = 0 };
      first_site = 10;
      first_element = 1;
      second = record { team = 1; member = 1; number = 0 };
      second_site = 20;
      second_element = 0;
    }

pub listing-of-E : counts_line 3 6 2 ++ race_line race_of_e ++ pairs_line 1 ≡ ascii "chunks 3 segments 6 accesses 2\nrace 0000100a 1.0.0 10 1.1.0 20\npairs 1\n"
unfolding counts_line name_text race_line pairs_line digit_byte digits width_within width_of
listing-of-E = refl

-- P2 and P3
pub listing-of-P2 : counts_line 3 6 2 ++ race_free_line ≡ ascii "chunks 3 segments 6 accesses 2\nrace-free\n"
unfolding counts_line race_free_line digit_byte digits width_within width_of
listing-of-P2 = refl

pub listing-of-P3 : refused_line 10 0 ≡ ascii "refused 10 at 0\n"
unfolding refused_line digit_byte digits width_within width_of
listing-of-P3 = refl
