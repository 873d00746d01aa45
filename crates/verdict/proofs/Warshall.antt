-- Warshall's algorithm over any edge test: after the passes for all nodes below n a test holds exactly where there is a walk.
use Prim.Native.Nat.{ℕ, zero, suc, ◌≤◌, ◌<◌}
use mathlib.Core.Path.{◌≡◌, refl, subst}
use mathlib.Core.Logic.{◌⊎◌, inl, inr, ⊎_elim}
use mathlib.Core.Bool.{Bool, true, ◌&&◌, ◌||◌}
use native.Mathlib.Decide.{ℕ_discrete}
use native.Mathlib.Omega.{arith}
use lib.Dec.{eqb}
use borrow.Author.Tests.{eqb-true, eq-eqb}
use Rattle.bundle.proofs.Tests.{both, and_left, and_right, or_cases, or-one, or-other}
use Rattle.verdict.specs.Matrix.{stage, Walk, stay, along}

module _ (edge : ℕ → ℕ → Bool) where
  -- an edge stays
  stage-keeps : (k i j : ℕ) → edge i j ≡ true → stage edge k i j ≡ true
  unfolding stage
  stage-keeps zero i j e = e
  stage-keeps (suc k) i j e = or-one (stage edge k i k && stage edge k k j) (stage-keeps k i j e)

  -- from a node below k an edge leads on
  stage-onward : (k i j l : ℕ) → stage edge k i j ≡ true → j < k → edge j l ≡ true → stage edge k i l ≡ true
  unfolding stage
  stage-onward zero i j l s h e = absurd (omega arith)
  stage-onward (suc k) i j l s h e =
      go (λ r t g. stage-onward k r j l t g e) (ℕ_discrete j k) (or_cases (stage edge k i j) (stage edge k i k && stage edge k k j) s)
    where
      through : stage edge k i k ≡ true → stage edge k k l ≡ true → (stage edge k i l || stage edge k i k && stage edge k k l) ≡ true
      through a b = or-other (stage edge k i l) (both a b)

      last : j ≡ k → stage edge k k l ≡ true
      last q = stage-keeps k k l (rw q at e)

      go :
          ((r : ℕ) → stage edge k r j ≡ true → j < k → stage edge k r l ≡ true)
          → Dec (j ≡ k)
          → (stage edge k i j ≡ true) ⊎ ((stage edge k i k && stage edge k k j) ≡ true)
          → (stage edge k i l || stage edge k i k && stage edge k k l) ≡ true
      go ih (yes q) (inl a) = through (rw q at a) (last q)
      go ih (yes q) (inr b) = through (and_left (stage edge k i k) (stage edge k k j) b) (last q)
      go ih (no g) (inl a) = or-one (stage edge k i k && stage edge k k l) (ih i a (omega arith))
      go ih (no g) (inr b) =
          through
          (and_left (stage edge k i k) (stage edge k k j) b)
          (ih k (and_right (stage edge k i k) (stage edge k k j) b) (omega arith))

-- edges that agree below n have stages that agree
module _ {edge other : ℕ → ℕ → Bool} (n : ℕ) (same : (r c : ℕ) → r < n → c < n → edge r c ≡ other r c) where
  pub stage-same : (k : ℕ) → k ≤ n → (i j : ℕ) → i < n → j < n → stage edge k i j ≡ stage other k i j
  unfolding stage
  stage-same zero h i j a b = same i j a b
  stage-same (suc k) h i j a b =
      let ih = stage-same k (omega arith) in
      let l : k < n = h in
      rw (ih i j a b, ih i k a l, ih k j l b)

-- with an edge from each node to itself
abbrev pub with_self : (ℕ → ℕ → Bool) → ℕ → ℕ → Bool
with_self edge i j = eqb i j || edge i j

module _ {n : ℕ} {edge : ℕ → ℕ → Bool} where
  pub walk-trans : {i j k : ℕ} → Walk n edge i j → Walk n edge j k → Walk n edge i k
  walk-trans v stay = v
  walk-trans v (along w h e) = along (walk-trans v w) h e

  -- what the stages find is a walk
  pub stage-walk : (k : ℕ) → k ≤ n → (i j : ℕ) → i < n → stage (with_self edge) k i j ≡ true → Walk n edge i j
  unfolding stage
  stage-walk zero h i j a s =
      ⊎_elim (λ t. subst (Walk n edge i) (eqb-true i j t) stay) (λ t. along stay a t) (or_cases (eqb i j) (edge i j) s)
  stage-walk (suc k) h i j a s =
      let ik = stage (with_self edge) k i k in
      let kj = stage (with_self edge) k k j in
      ⊎_elim
      (stage-walk k (omega arith) i j a)
      (λ t. walk-trans (stage-walk k (omega arith) i k a (and_left ik kj t)) (stage-walk k (omega arith) k j h (and_right ik kj t)))
      (or_cases (stage (with_self edge) k i j) (ik && kj) s)

  -- the stages find every walk
  pub walk-stage : {i j : ℕ} → Walk n edge i j → stage (with_self edge) n i j ≡ true
  walk-stage {i} stay = stage-keeps (with_self edge) n i i (or-one (edge i i) (eq-eqb i i refl))
  walk-stage {i} (along {j = j} {k = k} w h e) = stage-onward (with_self edge) n i j k (walk-stage w) h (or-other (eqb j k) e)
