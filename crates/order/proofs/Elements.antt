-- The lowest element of a range that covers a byte: the definition meets the relation, the relation leaves one answer, and one division finds it.
use Prim.Native.Nat.{ℕ, ◌+◌, ◌*◌, ◌-◌, ◌/◌, ◌<◌, ◌≤◌}
use mathlib.Core.Path.{◌≡◌, refl, sym, ap, ap₂, subst, ◌∙◌}
use mathlib.Core.Logic.{⊎_elim}
use mathlib.Core.Bool.{Bool, true, false, cond, ◌||◌}
use mathlib.Core.List.{List, Memᴰ}
use mathlib.Core.Option.{Option, none, some}
use native.Mathlib.Nat.{div-add-mod', mod-lt, mul-zero, mul-le-mul_right, lt_of_mul-lt-mul_right}
use native.Mathlib.Omega.{arith}
use lib.Dec.{eqb, leb, ltb}
use borrow.Author.Tests.{le-leb, lt-ltb, leb-true, ltb-true, ltb-false, eqb-true, eqb-false}
use Rattle.bundle.specs.Lists.{up_to, passing, from_option}
use Rattle.bundle.specs.declared.command.Range.{Range}
use Rattle.bundle.proofs.Tests.{both, and_left, and_right, or_cases, or-false, cond-elim}
use Rattle.bundle.proofs.ListLaws.{passing-elim, passing-intro, up_to-elim, up_to-intro}
use Rattle.order.specs.Ranges.{Touches, LeastShared, Covers, LowestElement}
use Rattle.order.specs.SharedBytes.{least, shared_byte, covers, lowest_element, overlap_at, overlap_of}
use Rattle.order.specs.Pairs.{element_from, element_by, turned_over, turned_of}
use Rattle.std.specs.Option.{option_map}
use Rattle.std.specs.declared.option.Option as Opt
use Rattle.std.specs.declared.option.Option.TheVariants as Opts
use Rattle.bundle.specs.Lists.{option_of}
use Rattle.order.specs.declared.range.Overlap.{Overlap}
use Rattle.order.proofs.SharedByte.{LeastIs, least-is, shared-some, shared-is, shared-unique, shared-swap}

-- where there are more elements than element 0
more-elements : (end stride : ℕ) {t : Bool} → t ≡ (eqb stride 0 || eqb end 0) → t ≡ false → (1 ≤ stride) × (1 ≤ end)
more-elements end stride e h =
    let p = or-false (eqb stride 0) (eqb end 0) (sym e ∙ h) in
    let no-stride : stride ≡ 0 → ⊥ = eqb-false stride 0 p.0 in
    let no_end : end ≡ 0 → ⊥ = eqb-false end 0 p.1 in
    (omega arith, omega arith)

module _ (r : Range) (byte : ℕ) where
  abbrev covering : List ℕ
  covering = passing (covers r byte) (up_to r.count)

  covering-elim : {k : ℕ} → Memᴰ k covering → Covers r byte k
  unfolding covers
  covering-elim {k} m =
      let p = passing-elim (covers r byte) (up_to r.count) m in
      let from = leb (r.base + k * r.stride) byte in
      let to = ltb byte (r.base + k * r.stride + r.size) in
      record {
        element_below = up_to-elim r.count p.0;
        from = leb-true (r.base + k * r.stride) byte (and_left from to p.1);
        to = ltb-true byte (r.base + k * r.stride + r.size) (and_right from to p.1);
      }

  covering-intro : {k : ℕ} → Covers r byte k → Memᴰ k covering
  unfolding covers
  covering-intro {k} c =
      passing-intro (covers r byte) (up_to-intro r.count c.element_below)
      (both (le-leb (r.base + k * r.stride) byte c.from) (lt-ltb byte (r.base + k * r.stride + r.size) c.to))

  -- a touched byte is covered by an element, and the definition gives the lowest of them
  pub touched-covers : (t : Touches r byte) → Covers r byte t.element
  touched-covers t =
      record {
        element_below = t.element_below;
        from = omega (arith, t.at);
        to = omega (arith, t.at, t.within_below);
      }

  pub element-lowest : Touches r byte → LowestElement r byte (lowest_element r byte)
  unfolding lowest_element
  element-lowest t = go (least covering) (least-is covering)
    where
      go : (o : Option ℕ) → LeastIs covering o → LowestElement r byte (from_option 0 (λ k. k) o)
      go none h = absurd (h t.element (covering-intro (touched-covers t)))
      go (some k) h =
          record { covers = covering-elim h.0; lowest = λ l below c. omega (arith, h.1 l (covering-intro c)) }

  -- and no other element is
  pub element-unique : {k l : ℕ} → LowestElement r byte k → LowestElement r byte l → k ≡ l
  element-unique {k} {l} a b = equal (λ below. b.lowest k below a.covers) (λ below. a.lowest l below b.covers)
    where
      equal : (k < l → ⊥) → (l < k → ⊥) → k ≡ l
      equal p q = omega arith

  -- element 0 ends past the byte
  at_first : Touches r byte → byte < r.base + r.size → LowestElement r byte 0
  at_first t h =
      record {
        covers = record { element_below = omega (arith, t.element_below); from = omega (arith, t.at); to = omega arith };
        lowest = λ k below c. omega arith;
      }

  -- the first element that ends past the byte
  at-later :
      Touches r byte → r.base + r.size ≤ byte → 1 ≤ r.stride
      → LowestElement r byte ((byte - (r.base + r.size)) / r.stride + 1)
  at-later t past strided =
      let stride = r.stride in
      let rest : ℕ = byte - (r.base + r.size) in
      let q : ℕ = rest / stride in
      let whole = div-add-mod' rest stride in
      let small = mod-lt rest strided in
      let reached : q < t.element = lt_of_mul-lt-mul_right stride (omega (arith, t.at, t.within_below)) in
      let steps : (q + 1) * stride ≤ t.element * stride = mul-le-mul_right stride (omega arith) in
      record {
        covers = record { element_below = omega (arith, t.element_below); from = omega (arith, t.at); to = omega arith };
        lowest = λ k below c. omega (arith, c.to, mul-le-mul_right {m = k} {n = q} stride (omega arith));
      }

  -- the lowest element by one division
  pub element-by : Touches r byte → element_by r byte ≡ lowest_element r byte
  unfolding element_from
  element-by t =
      element-unique
      (cond-elim (LowestElement r byte) (ltb byte end) 0 (cond (eqb r.stride 0 || eqb end 0) 0 ((byte - end) / r.stride + 1))
      (λ e. at_first t (ltb-true byte end e))
      (λ e. cond-elim (LowestElement r byte) (eqb r.stride 0 || eqb end 0) 0 ((byte - end) / r.stride + 1) (only e) (later e)))
      (element-lowest t)
    where
      end : ℕ
      end = r.base + r.size

      only : ltb byte (r.base + r.size) ≡ false → (eqb r.stride 0 || eqb (r.base + r.size) 0) ≡ true → LowestElement r byte 0
      only e f =
          at_first t
          (⊎_elim
          (λ (h : eqb r.stride 0 ≡ true).
          omega (arith, t.at, t.within_below, ap (λ (s : ℕ). t.element * s) (eqb-true r.stride 0 h) ∙ mul-zero t.element))
          (λ (h : eqb (r.base + r.size) 0 ≡ true). omega (arith, t.within_below, eqb-true (r.base + r.size) 0 h))
          (or_cases (eqb r.stride 0) (eqb (r.base + r.size) 0) f))

      later :
          ltb byte (r.base + r.size) ≡ false
          → (eqb r.stride 0 || eqb (r.base + r.size) 0) ≡ false
          → LowestElement r byte ((byte - (r.base + r.size)) / r.stride + 1)
      later e f = at-later t (ltb-false byte (r.base + r.size) e) (more-elements (r.base + r.size) r.stride refl f).0

-- the lowest shared byte with its elements
module _ (a b : Range) where
  pub overlap-some : {byte : ℕ} → shared_byte a b ≡ some byte → overlap_of a b ≡ some (overlap_at a b byte)
  unfolding overlap_of
  overlap-some e = ap (from_option none (λ (n : ℕ). some (overlap_at a b n))) e

  pub overlap-none : shared_byte a b ≡ none → overlap_of a b ≡ none
  unfolding overlap_of
  overlap-none e = ap (from_option none (λ (n : ℕ). some (overlap_at a b n))) e

  -- what the answer means
  pub overlap-means :
      {o : Overlap}
      → overlap_of a b ≡ some o
      → LeastShared a b o.byte × LowestElement a o.byte o.first_element × LowestElement b o.byte o.second_element
  unfolding overlap_of overlap_at
  overlap-means {o} e = go (shared_byte a b) refl e
    where
      go :
          (s : Option ℕ)
          → shared_byte a b ≡ s
          → from_option none (λ (n : ℕ). some (overlap_at a b n)) s ≡ some o
          → LeastShared a b o.byte × LowestElement a o.byte o.first_element × LowestElement b o.byte o.second_element
      go none q h = absurd (let z : ◌≡◌ {A = ℕ} 0 1 = cc in omega arith)
      go (some n) q h =
          let same : overlap_at a b n ≡ o = cc in
          let s = shared-some a b n q in
          subst
          (λ (x : Overlap). LeastShared a b x.byte × LowestElement a x.byte x.first_element × LowestElement b x.byte x.second_element)
          same
          (s, element-lowest a n s.one, element-lowest b n s.other)

  -- what is found is the overlap
  pub met_at :
      {byte one other : ℕ} → LeastShared a b byte → LowestElement a byte one → LowestElement b byte other
      → some (record { byte = byte; first_element = one; second_element = other }) ≡ overlap_of a b
  unfolding overlap_at
  met_at {byte} {one} {other} s l u =
      let first : one ≡ lowest_element a byte = element-unique a byte l (element-lowest a byte s.one) in
      let second : other ≡ lowest_element b byte = element-unique b byte u (element-lowest b byte s.other) in
      ap₂ (λ (i j : ℕ). some (overlap byte i j)) first second ∙ sym (overlap-some (shared-is a b byte s))
    where
      overlap : ℕ → ℕ → ℕ → Overlap
      overlap n i j = record { byte = n; first_element = i; second_element = j }

  pub met-nowhere : ((byte : ℕ) → Touches a byte → Touches b byte → ⊥) → none ≡ overlap_of a b
  met-nowhere h = sym (overlap-none (sym (shared-unique a b none h)))

-- whichever range comes first
pub turned-is : (o : Opt.Option Overlap) → option_of (option_map turned_over o) ≡ turned_of (option_of o)
turned-is Opts.None = refl
turned-is (Opts.Some x) = refl

pub overlap-swap : (a b : Range) → turned_of (overlap_of b a) ≡ overlap_of a b
unfolding overlap_of overlap_at
overlap-swap a b = rw (shared-swap b a) (go (shared_byte a b))
  where
    go : (o : Option ℕ) → turned_of (from_option none (λ (n : ℕ). some (overlap_at b a n)) o) ≡ from_option none (λ (n : ℕ). some (overlap_at a b n)) o
    go none = refl
    go (some n) = refl
