-- The lowest byte that two ranges share, and the lowest elements that cover it, as lists that compute. What they are stands in `Ranges`
-- (`LeastShared`, `LowestElement`); laws of `proofs/SharedByte` (shared-meets, shared-unique) and `proofs/Elements` (element-lowest,
-- element-unique) say that they agree.
use Rattle.std.specs.Prelude.{ℕ, ◌+◌, ◌*◌, min, Bool, ◌&&◌, List, [], ◌∷◌, map, leb, ltb}
use Rattle.std.proofs.Math.Option.{Option, none, some}
use Rattle.bundle.specs.Lists.{up_to, passing, concat_map, from_option, among}
use Rattle.bundle.specs.declared.command.Range.{Range}
use Rattle.order.specs.declared.range.Overlap.{Overlap}

-- the bytes that a range touches, element by element
unfoldable pub touched : Range → List ℕ
touched r = concat_map (λ k. map (λ j. r.base + k * r.stride + j) (up_to r.size)) (up_to r.count)

-- the least number of a list
unfoldable pub least_with : ℕ → Option ℕ → Option ℕ
least_with n none = some n
least_with n (some m) = some (min n m)

unfoldable pub least : List ℕ → Option ℕ
least [] = none
least (n ∷ ns) = least_with n (least ns)

-- the lowest byte that both touch
unfoldable pub shared_byte : Range → Range → Option ℕ
shared_byte a b = least (passing (λ byte. among byte (touched b)) (touched a))

-- whether an element covers a byte
unfoldable pub covers : Range → ℕ → ℕ → Bool
covers r byte k = leb (r.base + k * r.stride) byte && ltb byte (r.base + k * r.stride + r.size)

-- the lowest element that covers a byte; 0 where none does
unfoldable pub lowest_element : Range → ℕ → ℕ
lowest_element r byte = from_option 0 (λ k. k) (least (passing (covers r byte) (up_to r.count)))

-- the lowest shared byte, with the lowest element of each range that covers it
unfoldable pub overlap_at : Range → Range → ℕ → Overlap
overlap_at a b byte = record { byte = byte; first_element = lowest_element a byte; second_element = lowest_element b byte }

unfoldable pub overlap_of : Range → Range → Option Overlap
overlap_of a b = from_option none (λ byte. some (overlap_at a b byte)) (shared_byte a b)
