-- Two labels compared both ways round (A.8): swapping them reverses the answer, and what is refused stays refused.
use Prim.Native.Nat.{ℕ, suc, ◌%◌}
use mathlib.Core.Path.{◌≡◌, refl, sym, ◌∙◌, ap, subst}
use mathlib.Core.Logic.{◌⊎◌, inl, inr}
use mathlib.Core.Bool.{Bool, true, false}
use mathlib.Core.List.{List, [], ◌∷◌}
use Rattle.bundle.proofs.Tests.{decide, not-both}
use Rattle.order.specs.Labels.{counted, label_ok, same_triple, compare_triples, compare_from, compare_of}
use Rattle.order.specs.Swapping.{reversed, swapped, Swapping}
use Rattle.order.specs.declared.label.Triple.{Triple}
use Rattle.order.proofs.TripleOrder.{Facing, facing_same, facing_ahead, facing_behind, facing_aside, facing_unequal, facing, triple-same, same-triple, differ, earlier-told, later-told, aside-told, unequal-told}

-- whether the second label is good is not asked where neither is refused
swap-triples : (ok : Bool) (n : ℕ) (a b : Triple) → (a ≡ b → ⊥) → compare_triples n b a ≡ swapped ok (compare_triples n a b)
unfolding reversed swapped
swap-triples ok n a b d = go (facing a b)
  where
    go : Facing a b → compare_triples n b a ≡ swapped ok (compare_triples n a b)
    go (facing_same e) = absurd (d e)
    go (facing_ahead t) = later-told n t ∙ sym (ap (swapped ok) (earlier-told n t))
    go (facing_behind t) = earlier-told n t ∙ sym (ap (swapped ok) (later-told n t))
    go (facing_aside s i m) =
        aside-told n b a (sym s) (sym i) (λ e. m (subst (λ (k : ℕ). a.offset % k ≡ b.offset % k) (sym s) (sym e)))
        ∙ sym (ap (swapped ok) (aside-told n a b s i m))
    go (facing_unequal s) = unequal-told n b a (λ e. s (sym e)) ∙ sym (ap (swapped ok) (unequal-told n a b s))

swap-from : (ok : Bool) (n : ℕ) (as' bs : List Triple) → compare_from n bs as' ≡ swapped ok (compare_from n as' bs)
unfolding compare_from reversed swapped
swap-from ok n [] [] = refl
swap-from ok n [] (b ∷ bs) = refl
swap-from ok n (a ∷ as') [] = refl
swap-from ok n (a ∷ as') (b ∷ bs) = go (decide (same_triple a b)) (swap-from ok (suc n) as' bs)
  where
    go : (same_triple a b ≡ true) ⊎ (same_triple a b ≡ false) → compare_from (suc n) bs as' ≡ swapped ok (compare_from (suc n) as' bs) → compare_from n (b ∷ bs) (a ∷ as') ≡ swapped ok (compare_from n (a ∷ as') (b ∷ bs))
    go (inl e) ih = rw (e, triple-same b a (sym (same-triple a b e))) ih
    go (inr e) ih = let d : (a ≡ b → ⊥) = λ q. not-both (triple-same a b q) e in rw (e, differ b a (λ q. d (sym q))) (swap-triples ok n a b d)

pub swapping : Swapping
unfolding compare_of swapped
swapping a b = go (decide (label_ok a)) (decide (label_ok b))
  where
    go : (label_ok a ≡ true) ⊎ (label_ok a ≡ false) → (label_ok b ≡ true) ⊎ (label_ok b ≡ false) → compare_of b a ≡ swapped (label_ok b) (compare_of a b)
    go (inl p) (inl q) = rw (p, q) (swap-from true 0 (counted a) (counted b))
    go (inl p) (inr q) = rw (p, q)
    go (inr p) (inl q) = rw (p, q)
    go (inr p) (inr q) = rw (p, q)
