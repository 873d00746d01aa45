-- Names as numbers: their order, and that of keys, is the order of the numbers.
use Prim.Native.Nat.{ℕ, ◌+◌, ◌*◌, ◌/◌, ◌%◌, ◌<◌}
use mathlib.Core.Path.{◌≡◌, refl, sym, ◌∙◌, ap, ap₂}
use mathlib.Core.Logic.{◌⊎◌, inl, inr}
use mathlib.Core.Bool.{Bool, true, false, ◌&&◌, ◌||◌}
use native.Mathlib.Omega.{arith}
use lib.Dec.{eqb, ltb}
use borrow.Author.Tests.{ltb-true, ltb-false, eqb-true, eqb-false, lt-ltb, le-ltb, eq-eqb, ne_eqb}
use Rattle.bundle.proofs.Tests.{decide}
use Rattle.verdict.specs.Accesses.{lex_less, name_key, name_below, key_of}
use Rattle.verdict.specs.Tallying.{packed, NameFits, PackedAs, SideOf}
use Rattle.verdict.specs.declared.race.Name.{Name}

module _ (t m n t' m' n' : ℕ) (rest : Bool) (hm : m < 256) (hn : n < 65536) (hm' : m' < 256) (hn' : n' < 65536) where
  abbrev one : ℕ
  one = t * 16777216 + m * 65536 + n

  abbrev other : ℕ
  other = t' * 16777216 + m' * 65536 + n'

  -- three parts compared one after another, and what comes after them
  digits-lex :
      (ltb t t' || eqb t t' && (ltb m m' || eqb m m' && (ltb n n' || eqb n n' && rest)))
      ≡ (ltb one other || eqb one other && rest)
  digits-lex = go (decide (ltb t t')) (decide (eqb t t')) (decide (ltb m m')) (decide (eqb m m')) (decide (ltb n n')) (decide (eqb n n'))
    where
      Goal : Type 0
      Goal =
          (ltb t t' || eqb t t' && (ltb m m' || eqb m m' && (ltb n n' || eqb n n' && rest)))
          ≡ (ltb one other || eqb one other && rest)

      go :
          (ltb t t' ≡ true) ⊎ (ltb t t' ≡ false)
          → (eqb t t' ≡ true) ⊎ (eqb t t' ≡ false)
          → (ltb m m' ≡ true) ⊎ (ltb m m' ≡ false)
          → (eqb m m' ≡ true) ⊎ (eqb m m' ≡ false)
          → (ltb n n' ≡ true) ⊎ (ltb n n' ≡ false)
          → (eqb n n' ≡ true) ⊎ (eqb n n' ≡ false)
          → (ltb t t' || eqb t t' && (ltb m m' || eqb m m' && (ltb n n' || eqb n n' && rest)))
          ≡ (ltb one other || eqb one other && rest)
      go (inl a) b c d e f = simp (a, lt-ltb one other (omega (arith, ltb-true t t' a)))
      go (inr a) (inr b) c d e f =
          let h : other < one = omega (arith, ltb-false t t' a, eqb-false t t' b) in
          simp (a, b, le-ltb one other (omega arith), ne_eqb one other (omega arith))
      go (inr a) (inl b) (inl c) d e f =
          simp (a, b, c, lt-ltb one other (omega (arith, eqb-true t t' b, ltb-true m m' c)))
      go (inr a) (inl b) (inr c) (inr d) e f =
          let h : other < one = omega (arith, eqb-true t t' b, ltb-false m m' c, eqb-false m m' d) in
          simp (a, b, c, d, le-ltb one other (omega arith), ne_eqb one other (omega arith))
      go (inr a) (inl b) (inr c) (inl d) (inl e) f =
          simp (a, b, c, d, e, lt-ltb one other (omega (arith, eqb-true t t' b, eqb-true m m' d, ltb-true n n' e)))
      go (inr a) (inl b) (inr c) (inl d) (inr e) (inr f) =
          let h : other < one = omega (arith, eqb-true t t' b, eqb-true m m' d, ltb-false n n' e, eqb-false n n' f) in
          simp (a, b, c, d, e, f, le-ltb one other (omega arith), ne_eqb one other (omega arith))
      go (inr a) (inl b) (inr c) (inl d) (inr e) (inl f) =
          let h : one ≡ other = omega (arith, eqb-true t t' b, eqb-true m m' d, eqb-true n n' f) in
          simp (a, b, c, d, e, f, le-ltb one other (omega arith), eq-eqb one other h)

or-and-false : (a b : Bool) → (a || b && false) ≡ a
or-and-false true b = refl
or-and-false false true = refl
or-and-false false false = refl

module _ (a b : Name) (fa : NameFits a) (fb : NameFits b) where
  names-lex :
      (rest : Bool)
      → (ltb a.team b.team
      || eqb a.team b.team
      && (ltb a.member b.member
      || eqb a.member b.member
      && (ltb a.number b.number || eqb a.number b.number && rest)))
      ≡ (ltb (packed a) (packed b) || eqb (packed a) (packed b) && rest)
  names-lex rest =
      digits-lex a.team a.member a.number b.team b.member b.number rest
      fa.member fa.number fb.member fb.number

  pub packed-below : ltb (packed a) (packed b) ≡ name_below a b
  unfolding name_below name_key lex_less
  packed-below = sym (names-lex false ∙ or-and-false (ltb (packed a) (packed b)) (eqb (packed a) (packed b)))

-- the same at what the code gives
pub name-order : {a b : Name} {m n : ℕ} → PackedAs a m → PackedAs b n → ltb m n ≡ name_below a b
name-order {a} {b} p q = ap₂ ltb p.is q.is ∙ packed-below a b p.fits q.fits

-- a number and two packed names one after another
abbrev pub packed_less : ℕ → ℕ → ℕ → ℕ → ℕ → ℕ → Bool
packed_less w a b v c d = ltb w v || eqb w v && (ltb a c || eqb a c && ltb b d)

pub packed-key :
    (w v : ℕ) (a b c d : Name)
    → NameFits a → NameFits b → NameFits c → NameFits d
    → packed_less w (packed a) (packed b) v (packed c) (packed d) ≡ lex_less (key_of w a b) (key_of v c d)
unfolding key_of name_key lex_less
packed-key w v a b c d fa fb fc fd =
    sym
    (ap (λ (x : Bool). ltb w v || eqb w v && x)
    (names-lex a c fa fc _
    ∙ ap (λ (x : Bool). ltb (packed a) (packed c) || eqb (packed a) (packed c) && x)
    (names-lex b d fb fd false ∙ or-and-false (ltb (packed b) (packed d)) (eqb (packed b) (packed d)))))

-- a name and a site as one number
abbrev side : ℕ → ℕ → ℕ → ℕ → ℕ
side t m n s = (t * 16777216 + m * 65536 + n) * 65536 + s

side-team : (t m n s : ℕ) → t < 65536 → m < 256 → n < 65536 → s < 65536 → side t m n s / 1099511627776 % 65536 ≡ t
side-team t m n s a b c d = omega arith

side-member : (t m n s : ℕ) → t < 65536 → m < 256 → n < 65536 → s < 65536 → side t m n s / 4294967296 % 256 ≡ m
side-member t m n s a b c d = omega arith

side-number : (t m n s : ℕ) → t < 65536 → m < 256 → n < 65536 → s < 65536 → side t m n s / 65536 % 65536 ≡ n
side-number t m n s a b c d = omega arith

side-site : (t m n s : ℕ) → s < 65536 → side t m n s % 65536 ≡ s
side-site t m n s d = omega arith

pub side-packed : {a : Name} {m s : ℕ} → PackedAs a m → s < 65536 → SideOf a s (m * 65536 + s)
side-packed {a} {m} {s} p h =
    let f = p.fits in
    rw p.is
    record {
      name_in = λ i.
          record {
            team = side-team a.team a.member a.number s f.team f.member f.number h i;
            member = side-member a.team a.member a.number s f.team f.member f.number h i;
            number = side-number a.team a.member a.number s f.team f.member f.number h i;
          };
      rest_in = side-site a.team a.member a.number s h;
    }
