-- Races put into their order: the same races, each before all that follow it.
use mathlib.Core.Path.{◌≡◌, refl, sym}
use mathlib.Core.Logic.{⊎_elim}
use mathlib.Core.Bool.{Bool, true, false, cond}
use mathlib.Core.List.Memᴰ
use mathlib.Core.List.Permᴰ
use mathlib.Core.List.{
  List,
  [],
  ◌∷◌,
  map,
  Memᴰ,
  Permᴰ,
}
use lib.ListN.{length}
use Rattle.bundle.proofs.Tests.{not-both}
use Rattle.bundle.proofs.ListLaws.{perm-mem, perm-length, Distinct, distinct_cons}
use Rattle.verdict.specs.Accesses.{lex_less, race_key, race_below}
use Rattle.verdict.specs.RaceLists.{insert_race, in_order}
use Rattle.verdict.specs.Demand.{Ascending}
use Rattle.verdict.specs.declared.race.Race.{Race}
use Rattle.verdict.proofs.Lexical.{Compared, less, same, more, compare, less-trans, less-asymmetric}

pub insert-perm : (r : Race) (qs : List Race) → Permᴰ (r ∷ qs) (insert_race r qs)
unfolding insert_race
insert-perm r [] = Permᴰ.refl (r ∷ [])
insert-perm r (q ∷ qs) = go (insert-perm r qs) (race_below r q)
  where
    go :
        Permᴰ (r ∷ qs) (insert_race r qs)
        → (t : Bool)
        → Permᴰ (r ∷ q ∷ qs) (cond t (r ∷ q ∷ qs) (q ∷ insert_race r qs))
    go d true = Permᴰ.refl (r ∷ q ∷ qs)
    go d false = Permᴰ.trans (Permᴰ.swap refl refl) (Permᴰ.cons refl d)

pub order-perm : (rs : List Race) → Permᴰ rs (in_order rs)
unfolding in_order
order-perm [] = Permᴰ.nil
order-perm (r ∷ rs) = Permᴰ.trans (Permᴰ.cons refl (order-perm rs)) (insert-perm r (in_order rs))

-- the members and the length stay
pub order-intro : {r : Race} (rs : List Race) → Memᴰ r rs → Memᴰ r (in_order rs)
order-intro rs m = perm-mem (order-perm rs) m

pub order-elim : {r : Race} (rs : List Race) → Memᴰ r (in_order rs) → Memᴰ r rs
order-elim rs m = perm-mem (Permᴰ.symm (order-perm rs)) m

pub order-length : (rs : List Race) → length (in_order rs) ≡ length rs
order-length rs = sym (perm-length (order-perm rs))

-- the order of races is that of their keys
pub below-trans : (a b c : Race) → race_below a b ≡ true → race_below b c ≡ true → race_below a c ≡ true
unfolding race_below
below-trans a b c e f = less-trans (race_key a) (race_key b) (race_key c) e f

pub below-asymmetric : (a b : Race) → race_below a b ≡ true → race_below b a ≡ true → ⊥
unfolding race_below
below-asymmetric a b e f = less-asymmetric (race_key a) (race_key b) e f

pub above-of-not-below : (a b : Race) → race_below a b ≡ false → (race_key a ≡ race_key b → ⊥) → race_below b a ≡ true
unfolding race_below
above-of-not-below a b e apart = go (compare (race_key a) (race_key b))
  where
    go : Compared (race_key a) (race_key b) → lex_less (race_key b) (race_key a) ≡ true
    go (less h) = not-both h e
    go (same h) = absurd (apart h)
    go (more h) = h

pub insert-ascending :
    (r : Race) {qs : List Race} → Ascending qs → ((q : Race) → Memᴰ q qs → race_key r ≡ race_key q → ⊥) → Ascending (insert_race r qs)
unfolding insert_race
insert-ascending r Ascending.none apart = Ascending.more (λ q m. absurd (Memᴰ.not-nil m)) Ascending.none
insert-ascending r (Ascending.more {r = q} {rs = qs} least d) apart =
    go (insert-ascending r d (λ x m. apart x (Memᴰ.tail m))) (race_below r q) refl
  where
    first : race_below r q ≡ true → (x : Race) → Memᴰ x (q ∷ qs) → race_below r x ≡ true
    first e x m = ⊎_elim (λ (p : x ≡ q). rw p e) (λ l. below-trans r q x e (least x l)) (Memᴰ.cases_cons m)

    later : race_below q r ≡ true → (x : Race) → Memᴰ x (insert_race r qs) → race_below q x ≡ true
    later e x m = ⊎_elim (λ (p : x ≡ r). rw p e) (least x) (Memᴰ.cases_cons (perm-mem (Permᴰ.symm (insert-perm r qs)) m))

    go :
        Ascending (insert_race r qs)
        → (t : Bool)
        → race_below r q ≡ t
        → Ascending (cond t (r ∷ q ∷ qs) (q ∷ insert_race r qs))
    go ih true e = Ascending.more (first e) (Ascending.more least d)
    go ih false e = Ascending.more (later (above-of-not-below r q e (apart q (Memᴰ.head refl)))) ih

-- races with different keys are put into ascending order
pub order-ascending : (rs : List Race) → Distinct (map race_key rs) → Ascending (in_order rs)
unfolding in_order
order-ascending [] d = Ascending.none
order-ascending (r ∷ rs) (distinct_cons h d) =
    insert-ascending r (order-ascending rs d) (λ q m e. h (Memᴰ.cast e (Memᴰ.map race_key (order-elim rs m))))

-- ascending lists of the same races are equal
pub ascending-unique :
    {rs qs : List Race}
    → Ascending rs
    → Ascending qs
    → ((x : Race) → Memᴰ x rs → Memᴰ x qs)
    → ((x : Race) → Memᴰ x qs → Memᴰ x rs)
    → rs ≡ qs
ascending-unique Ascending.none Ascending.none f g = refl
ascending-unique Ascending.none (Ascending.more {r = q} least d) f g = absurd (Memᴰ.not-nil (g q (Memᴰ.head refl)))
ascending-unique (Ascending.more {r = r} least d) Ascending.none f g = absurd (Memᴰ.not-nil (f r (Memᴰ.head refl)))
ascending-unique (Ascending.more {r = r} {rs = rs} h d) (Ascending.more {r = q} {rs = qs} k e) f g =
    rw (
      heads,
      ascending-unique d e
          (λ x m. kept heads (h x m) (f x (Memᴰ.tail m)))
          (λ x m. kept (sym heads) (k x m) (g x (Memᴰ.tail m))),
    )
  where
    kept : {a b x : Race} {xs : List Race} → a ≡ b → race_below a x ≡ true → Memᴰ x (b ∷ xs) → Memᴰ x xs
    kept {a} {b} {x} p l m =
        ⊎_elim (λ (o : x ≡ b). absurd (below-asymmetric a x l (rw (o, ← p) (rw (o, ← p) at l)))) (λ m'. m') (Memᴰ.cases_cons m)

    heads : r ≡ q
    heads =
        ⊎_elim
        (λ o. o)
        (λ m. ⊎_elim sym (λ m'. absurd (below-asymmetric r q (h q m') (k r m))) (Memᴰ.cases_cons (g q (Memᴰ.head refl))))
        (Memᴰ.cases_cons (f r (Memᴰ.head refl)))
