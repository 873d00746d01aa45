-- The order of triples: when one is before another, how two stand to each other, and what the comparison answers.
use Prim.Native.Nat.{ℕ, ◌%◌, ◌<◌}
use mathlib.Core.Path.{◌≡◌, sym, ◌∙◌, ap, subst}
use mathlib.Core.Bool.{true, false, ◌&&◌}
use native.Mathlib.Omega.{arith}
use native.Mathlib.Decide.{dec_lt, ℕ_discrete}
use lib.Dec.{eqb}
use borrow.Author.Tests.{lt-ltb, le-ltb, eq-eqb, ne_eqb, eqb-true}
use Rattle.bundle.specs.Answer.{gives, refuses}
use Rattle.bundle.proofs.Tests.{is_false, and_left, and_right}
use Rattle.order.specs.Labels.{same_triple, compare_triples}
use Rattle.order.specs.declared.label.Triple.{Triple}
use Rattle.order.specs.declared.label.Order.TheVariants as Ord

-- one triple is before another of its team
pub data Earlier (a b : Triple) : Type 0 where
  by_interval : a.span ≡ b.span → a.interval < b.interval → Earlier a b
  by_offset : a.span ≡ b.span → a.interval ≡ b.interval → a.offset % a.span ≡ b.offset % a.span → a.offset < b.offset → Earlier a b

pub earlier-trans : {a b c : Triple} → Earlier a b → Earlier b c → Earlier a c
earlier-trans (by_interval s i) (by_interval t j) = by_interval (s ∙ t) (omega arith)
earlier-trans (by_interval s i) (by_offset t j m o) = by_interval (s ∙ t) (omega arith)
earlier-trans (by_offset s i n p) (by_interval t j) = by_interval (s ∙ t) (omega arith)
earlier-trans {a} {b} {c} (by_offset s i n p) (by_offset t j m o) =
    by_offset (s ∙ t) (i ∙ j) (n ∙ subst (λ (k : ℕ). b.offset % k ≡ c.offset % k) (sym s) m) (omega arith)

pub earlier-not-self : {a b : Triple} → a ≡ b → Earlier a b → ⊥
earlier-not-self e (by_interval s i) = let q = ap (λ (t : Triple). t.interval) e in omega arith
earlier-not-self e (by_offset s i m o) = let q = ap (λ (t : Triple). t.offset) e in omega arith

one-triple : {a b : Triple} → a.offset ≡ b.offset → a.span ≡ b.span → a.interval ≡ b.interval → a ≡ b
one-triple o s i = λ j. record { offset = o j; span = s j; interval = i j }

-- how two triples stand to each other
pub data Facing (a b : Triple) : Type 0 where
  facing_same : a ≡ b → Facing a b
  facing_ahead : Earlier a b → Facing a b
  facing_behind : Earlier b a → Facing a b
  facing_aside : a.span ≡ b.span → a.interval ≡ b.interval → (a.offset % a.span ≡ b.offset % a.span → ⊥) → Facing a b
  facing_unequal : (a.span ≡ b.span → ⊥) → Facing a b

pub facing : (a b : Triple) → Facing a b
facing a b =
    go
    (ℕ_discrete a.span b.span)
    (dec_lt a.interval b.interval)
    (dec_lt b.interval a.interval)
    (ℕ_discrete (a.offset % a.span) (b.offset % a.span))
    (dec_lt a.offset b.offset)
    (dec_lt b.offset a.offset)
  where
    go :
        Dec (a.span ≡ b.span)
        → Dec (a.interval < b.interval)
        → Dec (b.interval < a.interval)
        → Dec (a.offset % a.span ≡ b.offset % a.span)
        → Dec (a.offset < b.offset)
        → Dec (b.offset < a.offset)
        → Facing a b
    go (no s) i j m o p = facing_unequal s
    go (yes s) (yes i) j m o p = facing_ahead (by_interval s i)
    go (yes s) (no i) (yes j) m o p = facing_behind (by_interval (sym s) j)
    go (yes s) (no i) (no j) (no m) o p = facing_aside s (omega arith) m
    go (yes s) (no i) (no j) (yes m) (yes o) p = facing_ahead (by_offset s (omega arith) m o)
    go (yes s) (no i) (no j) (yes m) (no o) (yes p) =
        facing_behind (by_offset (sym s) (omega arith) (subst (λ (k : ℕ). b.offset % k ≡ a.offset % k) s (sym m)) p)
    go (yes s) (no i) (no j) (yes m) (no o) (no p) = facing_same (one-triple (omega arith) s (omega arith))

-- what the comparison answers
pub triple-same : (a b : Triple) → a ≡ b → same_triple a b ≡ true
unfolding same_triple
triple-same a b e =
    rw (
      eq-eqb a.offset b.offset (ap (λ (t : Triple). t.offset) e),
      eq-eqb a.span b.span (ap (λ (t : Triple). t.span) e),
      eq-eqb a.interval b.interval (ap (λ (t : Triple). t.interval) e),
    )

pub same-triple : (a b : Triple) → same_triple a b ≡ true → a ≡ b
unfolding same_triple
same-triple a b e =
    let x = eqb a.offset b.offset in
    let y = eqb a.span b.span in
    let z = eqb a.interval b.interval in
    let front = and_left (x && y) z e in
    one-triple
    (eqb-true a.offset b.offset (and_left x y front))
    (eqb-true a.span b.span (and_right x y front))
    (eqb-true a.interval b.interval (and_right (x && y) z e))

pub differ : (a b : Triple) → (a ≡ b → ⊥) → same_triple a b ≡ false
differ a b h = is_false (same_triple a b) (λ e. h (same-triple a b e))

pub earlier-told : (n : ℕ) {a b : Triple} → Earlier a b → compare_triples n a b ≡ gives Ord.Before
unfolding compare_triples
earlier-told n {a} {b} (by_interval s i) = simp (eq-eqb a.span b.span s, lt-ltb a.interval b.interval i)
earlier-told n {a} {b} (by_offset s i m o) =
    simp (
      eq-eqb a.span b.span s,
      le-ltb a.interval b.interval (omega arith),
      le-ltb b.interval a.interval (omega arith),
      eq-eqb (a.offset % a.span) (b.offset % a.span) m,
      lt-ltb a.offset b.offset o,
    )

pub later-told : (n : ℕ) {a b : Triple} → Earlier a b → compare_triples n b a ≡ gives Ord.After
unfolding compare_triples
later-told n {a} {b} (by_interval s i) =
    simp (
      eq-eqb b.span a.span (sym s),
      le-ltb b.interval a.interval (omega arith),
      lt-ltb a.interval b.interval i,
    )
later-told n {a} {b} (by_offset s i m o) =
    let q : b.offset % b.span ≡ a.offset % b.span = subst (λ (k : ℕ). b.offset % k ≡ a.offset % k) s (sym m) in
    simp (
      eq-eqb b.span a.span (sym s),
      le-ltb b.interval a.interval (omega arith),
      le-ltb a.interval b.interval (omega arith),
      eq-eqb (b.offset % b.span) (a.offset % b.span) q,
      le-ltb b.offset a.offset (omega arith),
    )

pub aside-told :
    (n : ℕ) (a b : Triple)
    → a.span ≡ b.span
    → a.interval ≡ b.interval
    → (a.offset % a.span ≡ b.offset % a.span → ⊥)
    → compare_triples n a b ≡ gives Ord.Concurrent
unfolding compare_triples
aside-told n a b s i m =
    simp (
      eq-eqb a.span b.span s,
      le-ltb a.interval b.interval (omega arith),
      le-ltb b.interval a.interval (omega arith),
      ne_eqb (a.offset % a.span) (b.offset % a.span) m,
    )

pub unequal-told : (n : ℕ) (a b : Triple) → (a.span ≡ b.span → ⊥) → compare_triples n a b ≡ refuses 16 n
unfolding compare_triples
unequal-told n a b s = simp (ne_eqb a.span b.span s)
