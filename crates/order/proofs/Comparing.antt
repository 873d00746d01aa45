-- Comparing labels triple by triple: the first triples in which two labels differ, and what is left where none do.
use Prim.Native.Nat.{ℕ, zero, suc, ◌+◌, ◌≤◌, ◌<◌}
use mathlib.Core.Path.{◌≡◌, refl, ap, ◌∙◌}
use Rattle.std.specs.List.{list_all, zip, position_or_len, position}
use Rattle.std.proofs.lemmas.List.Recursion.{and_at}
use Rattle.std.specs.declared.option.Option.TheVariants.{Some, None}
use Rattle.bundle.proofs.Tables.{below-some, below-none}
use mathlib.Core.Bool.{Bool, true, false, cond, not, ◌&&◌}
use mathlib.Core.List.{List, [], ◌∷◌}
use native.Mathlib.Omega.{arith}
use native.Mathlib.Nat.{zero-add}
use lib.ListN.{length, take, drop, get_or, drop_of_length-le}
use lib.Seq.{drop-cons}
use lib.Dec.{leb, eqb}
use mir.Val.{Val}
use denote.Laws.{Is}
use denote.Struct.Declared.{row}
use borrow.Author.Tests.{leb-true}
use Rattle.bundle.specs.Answer.{Answer}
use Rattle.bundle.specs.Lists.{all}
use Rattle.bundle.proofs.Tests.{and_left, and_right}
use Rattle.order.specs.declared.label.Triple.{Triple}
use Rattle.order.specs.declared.label.Label.{Label}
use Rattle.order.specs.declared.label.Order.{Order}
use Rattle.order.specs.contracts.label.Label.{the_type}
use Rattle.order.specs.Labels.{differs, counted, span_ok, root_span, label_ok, same_triple, compare_triples, compare_from}

-- std's test of every element is this one
pub every-all : {A : Type 0} (p : A → Bool) (xs : List A) → list_all p xs ≡ all p xs
every-all p [] = refl
every-all p (x ∷ xs) = ap (λ (b : Bool). p x && b) (every-all p xs)

-- what the code finds past the end of a list of triples
abbrev pub past_end : Triple
past_end = record { offset = 0; span = 0; interval = 0 }

-- what owning a label tells: there is room for five triples
pub five : (l : Label) (vs : List Val) → Is (row the_type) l vs → length l.triples ≡ 5
five l vs owned = owned.1.1.1.0.1.0.1

-- a label that is not refused
module _ (l : Label) (ok : label_ok l ≡ true) where
  pub few : l.count ≤ 5
  unfolding label_ok
  few = leb-true l.count 5 (and_right (leb 1 l.count) _ (and_left _ _ (and_left _ _ ok)))

  pub room : (vs : List Val) → Is (row the_type) l vs → l.count ≤ length l.triples
  room vs owned = omega (arith, few, five l vs owned)

  spans : all span_ok (counted l) ≡ true
  unfolding label_ok
  spans =
      and_right (leb 1 l.count && leb l.count 5) (all span_ok (counted l)) (and_left _ (root_span (counted l)) ok)

  pub span-positive : (k : ℕ) → k < length (counted l) → 1 ≤ (get_or (counted l) k past_end).span
  unfolding span_ok
  span-positive k h =
      leb-true 1 (get_or (counted l) k past_end).span
      (and_left _ (leb (get_or (counted l) k past_end).span 64) (and_at (all span_ok) span_ok refl (λ x xs. refl) (counted l) k past_end h spans))

-- the tests of the code, one after another
pub label_tests : (l : Label) → length l.triples ≡ 5 → label_ok l ≡ (leb 1 l.count && leb l.count 5 && all span_ok (counted l) && eqb (get_or l.triples 0 past_end).span 1)
unfolding label_ok counted root_span
label_tests l long = go l.triples long
  where
    go : (ts : List Triple) → length ts ≡ 5 → (leb 1 l.count && leb l.count 5 && all span_ok (take l.count ts) && root_span (take l.count ts)) ≡ (leb 1 l.count && leb l.count 5 && all span_ok (take l.count ts) && eqb (get_or ts 0 past_end).span 1)
    go [] e = absurd (omega arith)
    go (t ∷ ts) e = one l.count
      where
        one : (n : ℕ) → (leb 1 n && leb n 5 && all span_ok (take n (t ∷ ts)) && root_span (take n (t ∷ ts))) ≡ (leb 1 n && leb n 5 && all span_ok (take n (t ∷ ts)) && eqb t.span 1)
        one zero = refl
        one (suc n) = refl

-- two lists of triples: the number of the first that differ
abbrev first_differing : List Triple → List Triple → ℕ
first_differing xs ys = position_or_len differs (zip xs ys)

told-at :
    (n : ℕ) (xs ys : List Triple)
    → first_differing xs ys < length (zip xs ys)
    → compare_triples (n + first_differing xs ys) (get_or xs (first_differing xs ys) past_end) (get_or ys (first_differing xs ys) past_end) ≡ compare_from n xs ys
unfolding compare_from
told-at n [] ys h = absurd (omega arith)
told-at n (x ∷ xs) [] h = absurd (omega arith)
told-at n (x ∷ xs) (y ∷ ys) h = go (same_triple x y) h (told-at (suc n) xs ys)
  where
    k : ℕ
    k = first_differing xs ys

    go :
        (b : Bool)
        → cond (not (not b)) (1 + k) 0 < suc (length (zip xs ys))
        → (k < length (zip xs ys) → compare_triples (suc n + k) (get_or xs k past_end) (get_or ys k past_end) ≡ compare_from (suc n) xs ys)
        → compare_triples (n + cond (not (not b)) (1 + k) 0) (get_or (x ∷ xs) (cond (not (not b)) (1 + k) 0) past_end) (get_or (y ∷ ys) (cond (not (not b)) (1 + k) 0) past_end)
        ≡ cond b (compare_from (suc n) xs ys) (compare_triples n x y)
    go true l ih =
        let further : n + (1 + k) ≡ suc n + k = omega arith in
        let next : 1 + k ≡ suc k = omega arith in
        rw (further, next) (ih (omega arith))
    go false l ih = let here : n + 0 ≡ n = omega arith in rw here

-- where none differ: what is left of the longer list
all-alike :
    (n : ℕ) (xs ys : List Triple)
    → length (zip xs ys) ≤ first_differing xs ys
    → compare_from n xs ys ≡ compare_from (n + length (zip xs ys)) (drop (length ys) xs) (drop (length xs) ys)
unfolding compare_from
all-alike n [] [] h = refl
all-alike n [] (y ∷ ys) h = refl
all-alike n (x ∷ xs) [] h = refl
all-alike n (x ∷ xs) (y ∷ ys) h = go (same_triple x y) h (all-alike (suc n) xs ys)
  where
    k : ℕ
    k = first_differing xs ys

    rest : ℕ → Answer Order
    rest m = compare_from m (drop (length ys) xs) (drop (length xs) ys)

    go :
        (b : Bool)
        → suc (length (zip xs ys)) ≤ cond (not (not b)) (1 + k) 0
        → (length (zip xs ys) ≤ k → compare_from (suc n) xs ys ≡ rest (suc n + length (zip xs ys)))
        → cond b (compare_from (suc n) xs ys) (compare_triples n x y) ≡ rest (n + suc (length (zip xs ys)))
    go true l ih =
        let further : n + suc (length (zip xs ys)) ≡ suc n + length (zip xs ys) = omega arith in rw further (ih (omega arith))
    go false l ih = absurd (omega arith)

module _ (xs ys : List Triple) where
  pub first-differ : {k : ℕ} → Some k ≡ position differs (zip xs ys) → compare_triples k (get_or xs k past_end) (get_or ys k past_end) ≡ compare_from 0 xs ys
  first-differ {k} e =
      let w = below-some e in
      let same : k ≡ first_differing xs ys = w.0 in
      let none : 0 + first_differing xs ys ≡ first_differing xs ys = omega arith in
      let told = rw none at (told-at 0 xs ys w.1) in
      rw same told

  -- where none differ: what is answered there is left to the definition
  module _ (e : None ≡ position differs (zip xs ys)) where
    pub both_end : length xs ≡ length ys → compare_from 0 xs ys ≡ compare_from (length (zip xs ys)) [] []
    both_end h = all-alike 0 xs ys (below-none e) ∙ rw (zero-add, drop_of_length-le xs {i = length ys} (omega arith), drop_of_length-le ys {i = length xs} (omega arith))

    pub first_ends : length xs < length ys → compare_from 0 xs ys ≡ compare_from (length (zip xs ys)) [] (get_or ys (length xs) past_end ∷ drop (suc (length xs)) ys)
    first_ends h = all-alike 0 xs ys (below-none e) ∙ rw (zero-add, drop_of_length-le xs {i = length ys} (omega arith), drop-cons ys (length xs) past_end h)

    pub second-ends : length ys < length xs → compare_from 0 xs ys ≡ compare_from (length (zip xs ys)) (get_or xs (length ys) past_end ∷ drop (suc (length ys)) xs) []
    second-ends h = all-alike 0 xs ys (below-none e) ∙ rw (zero-add, drop_of_length-le ys {i = length xs} (omega arith), drop-cons xs (length ys) past_end h)
