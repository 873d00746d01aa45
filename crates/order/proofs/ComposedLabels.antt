-- Before composes, for any three labels (A.8); what an answer says of the counted triples.
use Prim.Native.Nat.{ℕ}
use mathlib.Core.Path.{◌≡◌, sym, ◌∙◌, subst}
use mathlib.Core.Logic.{◌⊎◌, inl, inr}
use mathlib.Core.Bool.{true, false}
use native.Mathlib.Omega.{arith}
use Rattle.bundle.specs.Answer.{gives, refuses}
use Rattle.bundle.proofs.Tests.{decide}
use Rattle.order.specs.Labels.{counted, label_ok, compare_from, compare_of}
use Rattle.order.specs.declared.label.Label.{Label}
use Rattle.order.specs.declared.label.Order.{Order}
use Rattle.order.specs.declared.label.Order.TheVariants as Ord
use Rattle.order.proofs.LabelOrder.{before-trans, told-before, Means, means}

-- an answer that is no refusal: both labels are good, and it is that of their counted triples
pub record Given (a b : Label) (o : Order) : Type 0 where
  pub first_ok : label_ok a ≡ true
  pub second_ok : label_ok b ≡ true
  pub triples : compare_from 0 (counted a) (counted b) ≡ gives o

pub given : (a b : Label) {o : Order} → compare_of a b ≡ gives o → Given a b o
unfolding compare_of
given a b {o} e = go (decide (label_ok a)) (decide (label_ok b))
  where
    refused : {A : Type 0} (place : ℕ) → compare_of a b ≡ refuses 15 place → A
    refused place q = absurd (let r : refuses 15 place ≡ gives o = sym q ∙ e in let z : ◌≡◌ {A = ℕ} 0 1 = cc in omega arith)

    go : (label_ok a ≡ true) ⊎ (label_ok a ≡ false) → (label_ok b ≡ true) ⊎ (label_ok b ≡ false) → Given a b o
    go (inl p) (inl q) = let w : compare_of a b ≡ compare_from 0 (counted a) (counted b) = rw (p, q) in record { first_ok = p; second_ok = q; triples = sym w ∙ e }
    go (inl p) (inr q) = refused 2 (rw (p, q))
    go (inr p) q = refused 1 (rw p)

pub told : (a b : Label) {o : Order} → Given a b o → compare_of a b ≡ gives o
unfolding compare_of
told a b g = rw (g.first_ok, g.second_ok) g.triples

pub meaning : (a b : Label) {o : Order} → Given a b o → Means (counted a) (counted b) (gives o)
meaning a b g = subst (Means (counted a) (counted b)) g.triples (means 0 (counted a) (counted b))

pub composes : (a b c : Label) → compare_of a b ≡ gives Ord.Before → compare_of b c ≡ gives Ord.Before → compare_of a c ≡ gives Ord.Before
composes a b c e f =
    let g = given a b e in
    let h = given b c f in
    told a c (record { first_ok = g.first_ok; second_ok = h.second_ok; triples = told-before 0 (before-trans (meaning a b g) (meaning b c h)) })
