-- Each line of judge_build ends in 0x0a, and no byte before that is below 0x20: a reader of lines meets one for each file. Assumes nothing.
use mathlib.Core.Path.{◌≡◌, refl, sym, ap, ◌∙◌}
use mathlib.Core.List.{List, [], ◌∷◌, ◌++◌, append_assoc}
use Prim.Native.Nat.{ℕ, ◌+◌, ◌-◌}
use native.Mathlib.Omega.{arith}
use lib.Dec.{leb}
use lib.ListN.{length, take, length-append}
use lib.Seq.{take_at}
use Rattle.bundle.specs.Answer.{Answer, gives, refuses}
use Rattle.bundle.specs.Lists.{all}
use Rattle.bundle.proofs.Tests.{both, and_left, and_right}
use Rattle.std.specs.declared.option.Option.{Option}
use Rattle.std.specs.declared.option.Option.TheVariants.{Some, None}
use Rattle.verdict.specs.declared.race.Race.{Race}
use Rattle.verdict.specs.declared.race.Judgement.{Judgement}
use Rattle.text.specs.Digits.{ascii}
use Rattle.text.specs.Lines.{line_end, counts_line, race_line}
use Rattle.text.proofs.LineEnds.{From, IsLine, counts-ends, race-ends, pairs-ends, refused-ends}
use Rattle.tray.specs.declared.word.Word.{Word}
use Rattle.tray.specs.declared.word.Word.TheVariants as Wor
use Rattle.tray.specs.Texts.{spaced, verdict_line, bundle_line, unreadable_line, build_line}

from-both : (xs ys : List ℕ) → From 0x20 xs → From 0x20 ys → From 0x20 (xs ++ ys)
from-both [] ys p q = q
from-both (x ∷ xs) ys p q =
    both (and_left (leb 0x20 x) (all (leb 0x20) xs) p) (from-both xs ys (and_right (leb 0x20 x) (all (leb 0x20) xs) p) q)

-- a line behind other bytes
line-behind : (xs : List ℕ) {line : List ℕ} → From 0x20 xs → IsLine line → IsLine (xs ++ line)
line-behind xs p l =
    record {
      body = xs ++ l.body;
      ended = ap (λ (ys : List ℕ). xs ++ ys) l.ended ∙ sym (append_assoc xs l.body line_end);
      clean = from-both xs l.body p l.clean;
    }

-- what stands before the end of a line
pub line-body : {line : List ℕ} (l : IsLine line) → take (length line - 1) line ≡ l.body
line-body {line} l =
    let size : length line ≡ length l.body + 1 = ap length l.ended ∙ length-append l.body line_end in
    ap (take (length line - 1)) l.ended ∙ take_at l.body line_end (length line - 1) (omega (arith, size))

spaced-from : {line : List ℕ} → IsLine line → From 0x20 (spaced line)
spaced-from l = rw (line-body l) (from-both l.body (ascii " ") l.clean refl)

pub verdict-ends : (j : Judgement) (v : Option Race) → IsLine (verdict_line j v)
unfolding verdict_line
verdict-ends j None = line-behind (ascii "race-free ") refl (counts-ends j.chunks j.segments j.accesses)
verdict-ends j (Some r) =
    let c = counts_line j.chunks j.segments j.accesses in
    line-behind (ascii "race " ++ spaced c ++ spaced (race_line r))
    (from-both (ascii "race " ++ spaced c) (spaced (race_line r))
    (from-both (ascii "race ") (spaced c) refl (spaced-from (counts-ends j.chunks j.segments j.accesses)))
    (spaced-from (race-ends r)))
    (pairs-ends j.races)

pub bundle-ends : (a : Answer Judgement) → IsLine (bundle_line a)
unfolding bundle_line
bundle-ends (gives j) = verdict-ends j j.least
bundle-ends (refuses n p) = refused-ends n p

pub unreadable-ends : IsLine unreadable_line
unfolding unreadable_line
unreadable-ends = record { body = ascii "refused unreadable"; ended = refl; clean = refl }

pub build_ends : (w : Word) → IsLine (build_line w)
unfolding build_line
build_ends Wor.Missing = record { body = ascii "build missing"; ended = refl; clean = refl }
build_ends Wor.RaceFree = record { body = ascii "build race-free"; ended = refl; clean = refl }
build_ends Wor.Refused = record { body = ascii "build refused"; ended = refl; clean = refl }
build_ends Wor.Race = record { body = ascii "build race"; ended = refl; clean = refl }
