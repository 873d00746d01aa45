-- `exports::labels::dezhakom_label_of_segment` meets its contract: the number and place of the answer, and the words of the label. Assumes nothing.
use mathlib.Core.Path.{refl, ◌∙◌}
use Rattle.exports.proofs.LabelAnswers.{labelled-told}
use Rattle.exports.proofs.labels.dezhakom_label_of_segment.Goals as goal

pub returns-in-Ok : goal.returns-in-Ok
returns-in-Ok c = labelled-told _ _ c.label_of_segment.ensures ∙ rw (c.in-Ok.is, c.accepted.ensures.number, c.accepted.ensures.at, c.label_words.ensures) refl

pub returns-in-Err : goal.returns-in-Err
returns-in-Err c = labelled-told _ _ c.label_of_segment.ensures ∙ rw (c.in-Err.is, c.refused.ensures.number, c.refused.ensures.at) refl
