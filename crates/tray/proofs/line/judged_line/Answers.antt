-- `tray::line::judged_line` meets its contract. Assumes nothing.
use mathlib.Core.List.{append_assoc}
use Rattle.text.proofs.LineEnds.{counts-ends, race-ends}
use Rattle.tray.specs.Texts.{verdict_line}
use Rattle.tray.proofs.Adding.{spaced-behind}
use Rattle.tray.proofs.line.judged_line.Goals as goal

pub returns-in-None : goal.returns-in-None
unfolding verdict_line
returns-in-None c = rw (c.in-None.is, c.push_counts.ensures.text, c.push_word.ensures, c.new-line.ensures) (simp append_assoc)

pub returns-in-Some : goal.returns-in-Some
unfolding verdict_line
returns-in-Some c =
    rw (
      c.in-Some.is,
      c.push_pairs.ensures.text,
      c.replace_last-in-Some.ensures,
      spaced-behind _ (race-ends _) c.push_race.ensures.text,
      c.replace_last.ensures,
      spaced-behind _ (counts-ends _ _ _) c.push_counts-in-Some.ensures.text,
      c.push_word-in-Some.ensures,
      c.new-line.ensures,
    )
    (simp append_assoc)
