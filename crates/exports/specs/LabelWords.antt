-- A label as sixteen words: how many triples it has, and offset, span and interval of each of five.
use Rattle.std.specs.Prelude.{ℕ, ◌+◌, List, [], ◌∷◌, get_or}
use Rattle.bundle.specs.Answer.{Answer}
use Rattle.order.specs.Labels.{blank, holding}
use Rattle.order.specs.declared.label.Triple.{Triple}
use Rattle.order.specs.declared.label.Label.{Label}
use Rattle.order.specs.declared.label.Order.{Order}
use Rattle.order.specs.declared.label.Order.TheVariants as Ord
use Rattle.exports.specs.Told.{Told, told, zero_words}

-- the words of a triple, before other words
abbrev pub triple_words : Triple → List ℕ → List ℕ
triple_words t rest = t.offset ∷ t.span ∷ t.interval ∷ rest

abbrev pub label_words : Label → List ℕ
label_words l =
    let at : ℕ → Triple = λ i. get_or l.triples i blank in
    l.count ∷ triple_words (at 0) (triple_words (at 1) (triple_words (at 2) (triple_words (at 3) (triple_words (at 4) []))))

-- the other way round
abbrev pub triple_at : List ℕ → ℕ → Triple
triple_at words i = record { offset = get_or words i 0; span = get_or words (i + 1) 0; interval = get_or words (i + 2) 0 }

abbrev pub label_from : List ℕ → Label
label_from words =
    record {
      count = get_or words 0 0;
      triples =
          triple_at words 1 ∷ triple_at words 4 ∷ triple_at words 7 ∷ triple_at words 10 ∷ triple_at words 13 ∷ [];
    }

-- the label of a segment, which past its triples is 0
abbrev pub label_told : Answer (List Triple) → Told (List ℕ)
label_told = told (zero_words 16) (λ (ts : List Triple). label_words (holding ts))

-- compare two labels
abbrev pub order_number : Order → ℕ
order_number Ord.Same = 0
order_number Ord.Before = 1
order_number Ord.After = 2
order_number Ord.Concurrent = 3

abbrev pub order_told : Answer Order → Told ℕ
order_told = told 0 order_number
