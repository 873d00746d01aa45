-- The first pair of near elements of two ranges gives the lowest byte that both touch, and is the lowest element of each that covers it.
use Prim.Native.Nat.{ℕ, ◌+◌, ◌*◌, ◌-◌, ◌<◌, ◌≤◌, max}
use mathlib.Core.Path.{◌≡◌, sym, subst}
use mathlib.Core.Bool.{true, false}
use mathlib.Core.Option.{none, some}
use Rattle.std.specs.declared.option.Option.{Option}
use Rattle.std.specs.declared.option.Option.TheVariants.{Some, None}
use Rattle.std.specs.Option.{option_map}
use Rattle.bundle.specs.Lists.{option_of}
use native.Mathlib.Nat.{mul-le-mul_right}
use native.Mathlib.Omega.{arith}
use borrow.Author.Tests.{le-leb}
use Rattle.bundle.specs.Commands.{range_ok, last_byte}
use Rattle.bundle.specs.declared.command.Range.{Range}
use Rattle.bundle.proofs.Tests.{both, not-both}
use Rattle.bundle.proofs.Ranges.{range-parts, size-within}
use Rattle.order.specs.Ranges.{Touches, LeastShared, Covers, shared_byte, overlap_of}
use Rattle.order.specs.Pairs.{touches_some, Near, InOrder, PairOf, pair_meeting, MeetingOf}
use Rattle.order.specs.declared.range.Meeting.{Meeting}
use Rattle.order.specs.declared.range.ElementPair.{ElementPair}
use Rattle.order.proofs.SharedByte.{shared-unique, shared-some}
use Rattle.order.proofs.Elements.{touched-covers, met_at, met-nowhere}

module _ (lower upper : Range) (o : InOrder lower upper) where
  -- the upper range's first byte lies in the lower range's first element
  pub base-shared : upper.base - lower.base < lower.size → some upper.base ≡ shared_byte lower upper
  base-shared near =
      shared-unique lower upper (some upper.base) (record {
        one =
            record {
              element = 0;
              within = upper.base - lower.base;
              element_below = o.lower_counted;
              within_below = near;
              at = omega (arith, o.bases);
            };
        other =
            record {
              element = 0;
              within = 0;
              element_below = o.upper_counted;
              within_below = o.upper_sized;
              at = omega arith;
            };
        lowest = λ byte below s t. omega (arith, t.at);
      })

  -- and both first elements cover it
  pub base-met : upper.base - lower.base < lower.size → MeetingOf lower upper (Some (record { byte = upper.base; one = 0; other = 0 }))
  base-met near = (
    shared-some lower upper upper.base (sym (base-shared near)),
    record {
      covers = record { element_below = o.lower_counted; from = omega (arith, o.bases); to = omega arith };
      lowest = λ k below c. omega arith;
    },
    record {
      covers = record { element_below = o.upper_counted; from = omega arith; to = omega (arith, o.upper_sized) };
      lowest = λ k below c. omega arith;
    },
  )

  module _ (apart : lower.size ≤ upper.base - lower.base) where
    abbrev NearElements : ℕ → ℕ → Type 0
    NearElements =
        Near
        lower.stride
        upper.stride
        (upper.base - lower.base - (lower.size - 1))
        (upper.base - lower.base + (upper.size - 1))

    -- elements that cover one byte are near
    near-covers : (byte : ℕ) {i j : ℕ} → Covers lower byte i → Covers upper byte j → NearElements i j
    near-covers byte c d =
        record {
          from = omega (arith, c.from, c.to, d.from, d.to, o.bases);
          to = omega (arith, c.from, c.to, d.from, d.to, o.bases);
        }

    near-elements : (byte : ℕ) (s : Touches lower byte) (t : Touches upper byte) → NearElements s.element t.element
    near-elements byte s t = near-covers byte (touched-covers lower byte s) (touched-covers upper byte t)

    pair-least :
        (i j : ℕ) → PairOf lower upper (Some (record { one = i; other = j }))
        → LeastShared lower upper (max (lower.base + i * lower.stride) (upper.base + j * upper.stride))
    pair-least i j l =
        let start : ℕ = lower.base + i * lower.stride in
        let other-start : ℕ = upper.base + j * upper.stride in
        record {
          one =
              record {
                element = i;
                within = max start other-start - start;
                element_below = l.one_below;
                within_below = omega (arith, l.near.from, o.lower_sized, o.bases);
                at = omega arith;
              };
          other =
              record {
                element = j;
                within = max start other-start - other-start;
                element_below = l.other_below;
                within_below = omega (arith, l.near.to, o.upper_sized, o.bases);
                at = omega arith;
              };
          lowest =
              λ byte below s t. not_lower byte below s t
              (l.least s.element t.element s.element_below t.element_below (near-elements byte s t));
        }
      where
        not_lower : (byte : ℕ) → byte < max (lower.base + i * lower.stride) (upper.base + j * upper.stride)
            → (s : Touches lower byte) (t : Touches upper byte) → (i ≤ s.element) × (j ≤ t.element) → ⊥
        not_lower byte below s t h =
            omega (arith, s.at, t.at, mul-le-mul_right lower.stride h.0, mul-le-mul_right upper.stride h.1)

    -- a lower element that covered the byte would make a pair before the first
    pub met-pair : (i j : ℕ) → PairOf lower upper (Some (record { one = i; other = j }))
        → MeetingOf lower upper (Some (record { byte = max (lower.base + i * lower.stride) (upper.base + j * upper.stride); one = i; other = j }))
    met-pair i j l =
        let w : ℕ = max (lower.base + i * lower.stride) (upper.base + j * upper.stride) in
        let one : Covers lower w i = record { element_below = l.one_below; from = omega arith; to = omega (arith, l.near.from, o.lower_sized, o.bases) } in
        let other : Covers upper w j = record { element_below = l.other_below; from = omega arith; to = omega (arith, l.near.to, o.upper_sized, o.bases) } in (
          pair-least i j l,
          record {
            covers = one;
            lowest = λ k below c. omega (arith, (l.least k j c.element_below l.other_below (near-covers w c other)).0);
          },
          record {
            covers = other;
            lowest = λ k below c. omega (arith, (l.least i k l.one_below c.element_below (near-covers w one c)).1);
          },
        )

    -- and where there is no pair, no byte is shared
    pub pair-met : {r : Option Meeting} (pair : Option ElementPair) → PairOf lower upper pair → r ≡ pair_meeting pair lower upper → MeetingOf lower upper r
    unfolding pair_meeting
    pair-met pair h e = subst (MeetingOf lower upper) (sym e) (go pair h)
      where
        none-met : PairOf lower upper None → MeetingOf lower upper None
        none-met l = λ byte s t. l s.element t.element s.element_below t.element_below (near-elements byte s t)

        go : (p : Option ElementPair) → PairOf lower upper p → MeetingOf lower upper (pair_meeting p lower upper)
        go (Some p) l = met-pair p.one p.other l
        go None l = none-met l

-- the byte of a meeting
pub meeting-shared : (a b : Range) (o : Option Meeting) → MeetingOf a b o → option_of (option_map (λ (m : Meeting). m.byte) o) ≡ shared_byte a b
meeting-shared a b (Some m) h = shared-unique a b (some m.byte) h.0
meeting-shared a b None h = shared-unique a b none h

-- a range that touches no byte
touch-some : (r : Range) (byte : ℕ) → Touches r byte → touches_some r ≡ true
touch-some r byte t =
    both (le-leb 1 r.count (omega (arith, t.element_below))) (le-leb 1 r.size (omega (arith, t.within_below)))

pub none_first : (a b : Range) → touches_some a ≡ false → none ≡ shared_byte a b
none_first a b e = shared-unique a b none (λ byte s t. not-both (touch-some a byte s) e)

pub none-second : (a b : Range) → touches_some b ≡ false → none ≡ shared_byte a b
none-second a b e = shared-unique a b none (λ byte s t. not-both (touch-some b byte t) e)

-- the answer for two ranges that are in range
element-within : (n k t : ℕ) → k < n → k * t ≤ (n - 1) * t
element-within n k t h = mul-le-mul_right t (omega arith)

pub touch-fits : (r : Range) (byte : ℕ) → range_ok r ≡ true → Touches r byte → byte < 4294967296
unfolding last_byte
touch-fits r byte e t =
    let steps = element-within r.count t.element r.stride t.element_below in
    omega (arith, (range-parts r e).last, t.at, t.within_below)

module _ (a b : Range) (ok : (range_ok a ≡ true) × (range_ok b ≡ true)) where
  pub valid-order : a.base ≤ b.base → InOrder a b
  valid-order h =
      let p = range-parts a ok.0 in
      let q = range-parts b ok.1 in
      record {
        lower_counted = p.counted;
        lower_sized = (size-within a.size p.sized).0;
        upper_counted = q.counted;
        upper_sized = (size-within b.size q.sized).0;
        bases = h;
      }

-- what the code makes of a meeting
pub byte_fits : (a b : Range) (m : Meeting) → MeetingOf a b (Some m) → range_ok a ≡ true → m.byte < 4294967296
byte_fits a b m h ok = touch-fits a m.byte ok h.0.one

pub met-overlap :
    (a b : Range) (m : Meeting) → MeetingOf a b (Some m)
    → some (record { byte = m.byte; first_element = m.one; second_element = m.other }) ≡ overlap_of a b
met-overlap a b m h = met_at a b h.0 h.1 h.2

pub unmet-overlap : (a b : Range) → MeetingOf a b None → none ≡ overlap_of a b
unmet-overlap a b h = met-nowhere a b h
