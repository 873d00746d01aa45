-- The lowest byte that two ranges share: the definition meets the relation, and the relation leaves one answer.
use Prim.Native.Nat.{ℕ, ◌+◌, ◌*◌, ◌<◌, ◌≤◌}
use mathlib.Core.Path.{◌≡◌, refl, sym, ap, subst}
use mathlib.Core.Logic.{⊎_elim}
use mathlib.Core.List.Memᴰ
use mathlib.Core.List.{List, [], ◌∷◌, map, Memᴰ}
use mathlib.Core.Option.{Option, none, some}
use native.Mathlib.Omega.{arith}
use lib.Dec.{leb}
use borrow.Author.Tests.{leb-true, leb-false}
use Rattle.bundle.specs.Lists.{up_to, passing, among}
use Rattle.bundle.specs.declared.command.Range.{Range}
use Rattle.bundle.proofs.Tests.{decide}
use Rattle.bundle.proofs.ListLaws.{passing-elim, passing-intro, up_to-elim, up_to-intro, among-elim, among-intro, concat_map-elim, concat_map-intro}
use Rattle.order.specs.Ranges.{Touches, LeastShared}
use Rattle.order.specs.SharedBytes.{touched, least_with, least, shared_byte}

-- the list of touched bytes
pub touched-elim : (r : Range) (byte : ℕ) → Memᴰ byte (touched r) → Touches r byte
unfolding touched
touched-elim r byte m =
    let k = concat_map-elim (λ k. map (λ j. r.base + k * r.stride + j) (up_to r.size)) (up_to r.count) m in
    let j = Memᴰ.of_map (λ j. r.base + k.source * r.stride + j) (up_to r.size) k.gives in
    record {
      element = k.source;
      within = j.0;
      element_below = up_to-elim r.count k.present;
      within_below = up_to-elim r.size j.1;
      at = sym j.2;
    }

pub touched-intro : (r : Range) (byte : ℕ) → Touches r byte → Memᴰ byte (touched r)
unfolding touched
touched-intro r byte t =
    Memᴰ.cast
    t.at
    (concat_map-intro
    (λ k. map (λ j. r.base + k * r.stride + j) (up_to r.size))
    (up_to-intro r.count t.element_below)
    (Memᴰ.map (λ j. r.base + t.element * r.stride + j) (up_to-intro r.size t.within_below)))

-- what it is to be the least number of a list
abbrev pub LeastIs : List ℕ → Option ℕ → Type 0
LeastIs ns none = (n : ℕ) → Memᴰ n ns → ⊥
LeastIs ns (some w) = Memᴰ w ns × ((n : ℕ) → Memᴰ n ns → w ≤ n)

least-with : (n : ℕ) (ns : List ℕ) (o : Option ℕ) → LeastIs ns o → LeastIs (n ∷ ns) (least_with n o)
unfolding least_with
least-with n ns none h =
    (Memᴰ.head refl, λ i m. ⊎_elim (λ e. omega arith) (λ l. absurd (h i l)) (Memᴰ.cases_cons m))
least-with n ns (some w) h = (
  ⊎_elim
      (λ t. Memᴰ.head (omega (arith, leb-true n w t)))
      (λ t. Memᴰ.tail (Memᴰ.cast (omega (arith, leb-false n w t)) h.0))
      (decide (leb n w)),
  λ i m. ⊎_elim (λ e. omega arith) (λ l. omega (arith, h.1 i l)) (Memᴰ.cases_cons m),
)

pub least-is : (ns : List ℕ) → LeastIs ns (least ns)
unfolding least
least-is [] = λ n m. Memᴰ.not-nil m
least-is (n ∷ ns) = least-with n ns (least ns) (least-is ns)

-- what it is to be the lowest shared byte, or that there is none
abbrev pub SharedIs : Range → Range → Option ℕ → Type 0
SharedIs a b none = (byte : ℕ) → Touches a byte → Touches b byte → ⊥
SharedIs a b (some w) = LeastShared a b w

abbrev in_both : Range → Range → List ℕ
in_both a b = passing (λ byte. among byte (touched b)) (touched a)

module _ (a b : Range) where
  in_both_lem : (byte : ℕ) → Touches a byte → Touches b byte → Memᴰ byte (in_both a b)
  in_both_lem byte s t =
      passing-intro (λ i. among i (touched b)) (touched-intro a byte s) (among-intro (touched-intro b byte t))

  from-least : (o : Option ℕ) → LeastIs (in_both a b) o → SharedIs a b o
  from-least none l = λ byte s t. l byte (in_both_lem byte s t)
  from-least (some w) l =
      let m = passing-elim (λ byte. among byte (touched b)) (touched a) l.0 in
      record {
        one = touched-elim a w m.0;
        other = touched-elim b w (among-elim (touched b) m.1);
        lowest = λ byte below s t. omega (arith, l.1 byte (in_both_lem byte s t));
      }

  -- the definition meets it, and so does no other answer
  pub shared-meets : SharedIs a b (shared_byte a b)
  unfolding shared_byte
  shared-meets = from-least (shared_byte a b) (least-is (in_both a b))

  one_answer : (o p : Option ℕ) → SharedIs a b o → SharedIs a b p → o ≡ p
  one_answer none none h l = refl
  one_answer none (some w) h l = absurd (h w l.one l.other)
  one_answer (some w) none h l = absurd (l w h.one h.other)
  one_answer (some w) (some v) h l =
      ap some (equal (λ below. l.lowest w below h.one h.other) (λ below. h.lowest v below l.one l.other))
    where
      equal : (w < v → ⊥) → (v < w → ⊥) → w ≡ v
      equal s t = omega arith

  pub shared-unique : (o : Option ℕ) → SharedIs a b o → o ≡ shared_byte a b
  shared-unique o h = one_answer o (shared_byte a b) h shared-meets

  -- the same for each answer
  pub shared-some : (w : ℕ) → shared_byte a b ≡ some w → LeastShared a b w
  shared-some w e = subst (SharedIs a b) e shared-meets

  pub shared-none : shared_byte a b ≡ none → (byte : ℕ) → Touches a byte → Touches b byte → ⊥
  shared-none e = subst (SharedIs a b) e shared-meets

  pub shared-is : (w : ℕ) → LeastShared a b w → shared_byte a b ≡ some w
  shared-is w h = sym (shared-unique (some w) h)

swapped : (a b : Range) (o : Option ℕ) → SharedIs a b o → SharedIs b a o
swapped a b none h = λ byte s t. h byte t s
swapped a b (some w) h =
    record { one = h.other; other = h.one; lowest = λ byte below s t. h.lowest byte below t s }

-- whichever range comes first
pub shared-swap : (a b : Range) → shared_byte a b ≡ shared_byte b a
shared-swap a b = shared-unique b a (shared_byte a b) (swapped a b (shared_byte a b) (shared-meets a b))
