-- An answer told in numbers: the refusal's number and place, 0 at 0 where nothing is refused; and what is answered, 0 where it is refused.
use Rattle.std.specs.Prelude.{ℕ, List, replicate}
use Rattle.std.proofs.Math.Option.{Option, none, some}
use Rattle.bundle.specs.Answer.{Answer, gives, refuses}
use Rattle.bundle.specs.Commands.{Lent}
use Rattle.bundle.specs.declared.check.Ends.{Ends}
use Rattle.bundle.specs.declared.command.Taken.{Taken}
use Rattle.bundle.specs.declared.command.Range.{Range}
use Rattle.order.specs.declared.range.Overlap.{Overlap}
use Rattle.exports.specs.CommandWords.{command_words}

pub record Told (A : Type 0) : Type 0 where
  pub number : ℕ
  pub place : ℕ
  pub answer : A

-- what is made of the value that is given; where it is refused, this instead
abbrev pub told : {A B : Type 0} → B → (A → B) → Answer A → Told B
told instead made (gives a) = record { number = 0; place = 0; answer = made a }
told instead made (refuses number place) = record { number = number; place = place; answer = instead }

-- .. and what a lent memory holds afterwards
pub record Left (A : Type 0) : Type 0 where
  pub told : Told A
  pub memory : List ℕ

abbrev pub left : {A B : Type 0} → B → (A → B) → Lent A → Left B
left instead made l = record { told = told instead made l.answer; memory = l.buffer }

-- what may be there: whether it is (1 or 0), and what is made of it; where it is not, this instead
pub record Perhaps (A : Type 0) : Type 0 where
  pub found : ℕ
  pub value : A

abbrev pub perhaps : {A B : Type 0} → B → (A → B) → Option A → Perhaps B
perhaps instead made none = record { found = 0; value = instead }
perhaps instead made (some a) = record { found = 1; value = made a }

-- words that are all 0
abbrev pub zero_words : ℕ → List ℕ
zero_words n = replicate n 0

-- read a command: its words, and the position after it
pub record ReadWords : Type 0 where
  pub command : List ℕ
  pub next : ℕ

abbrev pub read_told : Answer Taken → Told ReadWords
read_told =
    told (record { command = zero_words 9; next = 0 })
    (λ (t : Taken). record { command = command_words t.command; next = t.next })

-- put a command: the position after it, and the buffer
abbrev pub put_told : Lent ℕ → Left ℕ
put_told = left 0 (λ (next : ℕ). next)

-- check a bundle
abbrev pub check_told : Answer (Unit {0}) → Told (Unit {0})
check_told = told tt (λ (u : Unit {0}). u)

-- find a chunk: where it begins and ends
abbrev pub ends_told : Answer Ends → Told Ends
ends_told = told (record { start = 0; end = 0 }) (λ (e : Ends). e)

-- the lowest shared byte of two ranges, and the elements that cover it
abbrev pub range_of : ℕ → ℕ → ℕ → ℕ → Range
range_of base stride count size = record { base = base; stride = stride; count = count; size = size }

abbrev pub no_overlap : Overlap
no_overlap = record { byte = 0; first_element = 0; second_element = 0 }

abbrev pub shared_told : Answer (Option Overlap) → Told (Perhaps Overlap)
shared_told = told (record { found = 0; value = no_overlap }) (perhaps no_overlap (λ (o : Overlap). o))
