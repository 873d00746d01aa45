-- The order of labels: when one is before another, that this is transitive, and what each answer of the comparison means.
use Prim.Native.Nat.{ℕ, suc, ◌%◌}
use mathlib.Core.Path.{◌≡◌, refl, sym, ◌∙◌, ap, ap₂, subst}
use mathlib.Core.List.{List, [], ◌∷◌, ◌++◌}
use native.Mathlib.Omega.{arith}
use Rattle.bundle.specs.Answer.{Answer, gives, refuses}
use Rattle.order.specs.Labels.{compare_from}
use Rattle.order.specs.declared.label.Triple.{Triple}
use Rattle.order.specs.declared.label.Order.{Order}
use Rattle.order.specs.declared.label.Order.TheVariants as Ord
use Rattle.order.proofs.TripleOrder.{Earlier, earlier-trans, earlier-not-self, Facing, facing_same, facing_ahead, facing_behind, facing_aside, facing_unequal, facing, triple-same, differ, earlier-told, later-told, aside-told, unequal-told}

-- a label is before another: a proper prefix, or by the first triples that differ
pub data LabelBefore : List Triple → List Triple → Type 0 where
  shorter : {b : Triple} {bs : List Triple} → LabelBefore [] (b ∷ bs)
  deeper : {a b : Triple} {as' bs : List Triple} → a ≡ b → LabelBefore as' bs → LabelBefore (a ∷ as') (b ∷ bs)
  parted : {a b : Triple} {as' bs : List Triple} → Earlier a b → LabelBefore (a ∷ as') (b ∷ bs)

-- neither is before the other: the first triples that differ are those of different members in one interval
pub data Apart : List Triple → List Triple → Type 0 where
  apart_deeper : {a b : Triple} {as' bs : List Triple} → a ≡ b → Apart as' bs → Apart (a ∷ as') (b ∷ bs)
  apart_here :
      {a b : Triple} {as' bs : List Triple}
      → a.span ≡ b.span
      → a.interval ≡ b.interval
      → (a.offset % a.span ≡ b.offset % a.span → ⊥)
      → Apart (a ∷ as') (b ∷ bs)

pub before-trans : {as' bs cs : List Triple} → LabelBefore as' bs → LabelBefore bs cs → LabelBefore as' cs
before-trans shorter (deeper e r) = shorter
before-trans shorter (parted t) = shorter
before-trans (deeper e r) (deeper f q) = deeper (e ∙ f) (before-trans r q)
before-trans {cs = c ∷ cs} (deeper e r) (parted t) = parted (subst (λ (x : Triple). Earlier x c) (sym e) t)
before-trans {as' = a ∷ as'} (parted t) (deeper e r) = parted (subst (λ (x : Triple). Earlier a x) e t)
before-trans (parted t) (parted u) = parted (earlier-trans t u)

pub before-not-self : {as' bs : List Triple} → as' ≡ bs → LabelBefore as' bs → ⊥
before-not-self e shorter = let z : ◌≡◌ {A = ℕ} 0 1 = cc in omega arith
before-not-self e (deeper {as' = as'} {bs = bs} f r) = let q : as' ≡ bs = cc in before-not-self q r
before-not-self e (parted {a = a} {b = b} t) = let q : a ≡ b = cc in earlier-not-self q t

-- the same triples in front
pub before-behind : (ps : List Triple) {as' bs : List Triple} → LabelBefore as' bs → LabelBefore (ps ++ as') (ps ++ bs)
before-behind [] r = r
before-behind (p ∷ ps) r = deeper refl (before-behind ps r)

pub before-longer : (ps : List Triple) (x : Triple) → LabelBefore ps (ps ++ (x ∷ []))
before-longer [] x = shorter
before-longer (p ∷ ps) x = deeper refl (before-longer ps x)

-- what the comparison answers
pub told-before : (n : ℕ) {as' bs : List Triple} → LabelBefore as' bs → compare_from n as' bs ≡ gives Ord.Before
unfolding compare_from
told-before n shorter = refl
told-before n (deeper {a = a} {b = b} e r) = rw (triple-same a b e) (told-before (suc n) r)
told-before n (parted {a = a} {b = b} t) = rw (differ a b (λ e. earlier-not-self e t)) (earlier-told n t)

pub told-after : (n : ℕ) {as' bs : List Triple} → LabelBefore as' bs → compare_from n bs as' ≡ gives Ord.After
unfolding compare_from
told-after n shorter = refl
told-after n (deeper {a = a} {b = b} e r) = rw (triple-same b a (sym e)) (told-after (suc n) r)
told-after n (parted {a = a} {b = b} t) = rw (differ b a (λ e. earlier-not-self (sym e) t)) (later-told n t)

pub told_same : (n : ℕ) (as' : List Triple) → compare_from n as' as' ≡ gives Ord.Same
unfolding compare_from
told_same n [] = refl
told_same n (a ∷ as') = rw (triple-same a a refl) (told_same (suc n) as')

pub told-apart : (n : ℕ) {as' bs : List Triple} → Apart as' bs → compare_from n as' bs ≡ gives Ord.Concurrent
unfolding compare_from
told-apart n (apart_deeper {a = a} {b = b} e r) = rw (triple-same a b e) (told-apart (suc n) r)
told-apart n (apart_here {a = a} {b = b} s i m) = rw (differ a b (λ e. m (ap (λ (t : Triple). t.offset % a.span) e))) (aside-told n a b s i m)

-- what each answer of the comparison says of two labels
abbrev pub Means : List Triple → List Triple → Answer Order → Type 0
Means as' bs (gives Ord.Same) = as' ≡ bs
Means as' bs (gives Ord.Before) = LabelBefore as' bs
Means as' bs (gives Ord.After) = LabelBefore bs as'
Means as' bs (gives Ord.Concurrent) = Apart as' bs
Means as' bs (refuses number place) = Unit {0}

means-deeper : {a b : Triple} (as' bs : List Triple) → a ≡ b → (r : Answer Order) → Means as' bs r → Means (a ∷ as') (b ∷ bs) r
means-deeper as' bs e (gives Ord.Same) m = ap₂ (λ (t : Triple) (l : List Triple). t ∷ l) e m
means-deeper as' bs e (gives Ord.Before) m = deeper e m
means-deeper as' bs e (gives Ord.After) m = deeper (sym e) m
means-deeper as' bs e (gives Ord.Concurrent) m = apart_deeper e m
means-deeper as' bs e (refuses number place) m = tt

pub means : (n : ℕ) (as' bs : List Triple) → Means as' bs (compare_from n as' bs)
unfolding compare_from
means n [] [] = refl
means n [] (b ∷ bs) = shorter
means n (a ∷ as') [] = shorter
means n (a ∷ as') (b ∷ bs) = go (facing a b) (means (suc n) as' bs)
  where
    answered : (r : Answer Order) → compare_from n (a ∷ as') (b ∷ bs) ≡ r → Means (a ∷ as') (b ∷ bs) r → Means (a ∷ as') (b ∷ bs) (compare_from n (a ∷ as') (b ∷ bs))
    answered r e m = subst (Means (a ∷ as') (b ∷ bs)) (sym e) m

    go : Facing a b → Means as' bs (compare_from (suc n) as' bs) → Means (a ∷ as') (b ∷ bs) (compare_from n (a ∷ as') (b ∷ bs))
    go (facing_same e) m = answered (compare_from (suc n) as' bs) (rw (triple-same a b e)) (means-deeper as' bs e (compare_from (suc n) as' bs) m)
    go (facing_ahead t) m = let x : LabelBefore (a ∷ as') (b ∷ bs) = parted t in answered (gives Ord.Before) (told-before n x) x
    go (facing_behind t) m = let x : LabelBefore (b ∷ bs) (a ∷ as') = parted t in answered (gives Ord.After) (told-after n x) x
    go (facing_aside s i r) m = let x : Apart (a ∷ as') (b ∷ bs) = apart_here s i r in answered (gives Ord.Concurrent) (told-apart n x) x
    go (facing_unequal s) m =
        answered (refuses 16 n) (rw (differ a b (λ e. s (ap (λ (t : Triple). t.span) e))) (unequal-told n a b s)) tt
