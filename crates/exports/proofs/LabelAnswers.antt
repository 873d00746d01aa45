-- The answer of a label told: the words of the label, and none where it is refused.
-- Assumes nothing.
use mathlib.Core.Path.{◌≡◌, refl, sym, ap, ◌∙◌}
use mathlib.Core.List.{List}
use Rattle.std.specs.declared.result.Result.{Result}
use Rattle.bundle.specs.Answer.{Answer, gives, refuses, answer_of}
use Rattle.bundle.specs.declared.refusal.Refusal.{Refusal}
use Rattle.order.specs.Labels.{Labelled, label_held}
use Rattle.order.specs.declared.label.Triple.{Triple}
use Rattle.order.specs.declared.label.Label.{Label}
use Rattle.exports.specs.Told.{told, zero_words}
use Rattle.exports.specs.LabelWords.{label_words, label_told}

held-told : (a : Answer (List Triple)) → label_told a ≡ told (zero_words 16) label_words (label_held a)
held-told (gives ts) = refl
held-told (refuses number place) = refl

pub labelled-told :
    (r : Result Label Refusal) (a : Answer (List Triple))
    → Labelled r a
    → label_told a ≡ told (zero_words 16) label_words (answer_of r)
labelled-told r a h = held-told a ∙ ap (told (zero_words 16) label_words) (sym h.label)
