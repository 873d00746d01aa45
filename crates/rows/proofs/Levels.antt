-- A team is at most 4 deep, so that 5 climbs reach the root.
use Prim.Native.Nat.{ℕ, zero, suc, ◌+◌, ◌≤◌, ◌<◌}
use mathlib.Core.Path.{◌≡◌, refl, sym, ◌∙◌, ap}
use mathlib.Core.List.{List, Memᴰ}
use mathlib.Core.Option.{Option, none, some}
use native.Mathlib.Omega.{arith}
use borrow.Author.Tests.{ltb-false}
use Rattle.bundle.specs.Lists.{from_option}
use Rattle.bundle.specs.Chunks.{chunks_of}
use Rattle.bundle.specs.Walk.{forks_of}
use Rattle.bundle.specs.Check.{fork_of, depth_from, depth_of, Accepted}
use Rattle.bundle.specs.declared.index.Fork.{Fork}
use Rattle.bundle.proofs.Onward.{legible, team-falls}
use Rattle.order.proofs.Climbs.{fork-known, fork-team}

abbrev onwards : ℕ → List Fork → Option Fork → ℕ
onwards fuel fs = from_option 0 (λ (f : Fork). suc (depth_from fuel fs f.parent))

-- fuel beyond the depth changes nothing
enough : (n m : ℕ) (fs : List Fork) (t : ℕ) → n ≤ m → depth_from m fs t ≤ n → depth_from n fs t ≡ depth_from m fs t
unfolding depth_from
enough zero zero fs t l h = refl
enough zero (suc m) fs t l h = omega arith
enough (suc n) zero fs t l h = absurd (omega arith)
enough (suc n) (suc m) fs t l h = go (fork_of fs t) h (λ u k. enough n m fs u (omega arith) k)
  where
    go : (o : Option Fork) → onwards m fs o ≤ suc n → ((u : ℕ) → depth_from m fs u ≤ n → depth_from n fs u ≡ depth_from m fs u) → onwards n fs o ≡ onwards m fs o
    go none k ih = refl
    go (some f) k ih = ap suc (ih f.parent (omega arith))

module _ (fs : List Fork) (falls : (f : Fork) → Memᴰ f fs → f.parent < f.team) where
  -- fuel beyond the team's number changes nothing
  same-depth : (n m t : ℕ) → t < n → t < m → depth_from n fs t ≡ depth_from m fs t
  unfolding depth_from
  same-depth zero m t h l = absurd (omega arith)
  same-depth (suc n) zero t h l = absurd (omega arith)
  same-depth (suc n) (suc m) t h l = go (fork_of fs t) refl (λ u b. same-depth n m u (omega arith) (omega arith))
    where
      go : (o : Option Fork) → fork_of fs t ≡ o → ((u : ℕ) → u < t → depth_from n fs u ≡ depth_from m fs u) → onwards n fs o ≡ onwards m fs o
      go none e ih = refl
      go (some f) e ih = ap suc (ih f.parent (fork-team fs falls e))

pub level-depth : (s : List ℕ) → Accepted s → (t : ℕ) → depth_from 5 (forks_of (chunks_of s)) t ≡ depth_of (forks_of (chunks_of s)) t
unfolding depth_of
level-depth s a t =
    let fs = forks_of (chunks_of s) in
    let same = same-depth fs (team-falls s a) (suc t) (t + 6) t (omega arith) (omega arith) in
    enough 5 (t + 6) fs t (omega arith) (shallow same) ∙ sym same
  where
    few : (o : Option Fork) → fork_of (forks_of (chunks_of s)) t ≡ o → depth_from (suc t) (forks_of (chunks_of s)) t ≤ 4
    few none e = unfold depth_from in rw e (omega arith)
    few (some f) e =
        let w = fork-known (forks_of (chunks_of s)) t e in
        let deep : depth_from (suc f.team) (forks_of (chunks_of s)) f.team ≤ 4 = unfold depth_of in (ltb-false 4 (depth_of (forks_of (chunks_of s)) f.team) ((legible s a).shaped.shallow f w.0)) in
        rw w.1 at deep

    shallow : depth_from (suc t) (forks_of (chunks_of s)) t ≡ depth_from (t + 6) (forks_of (chunks_of s)) t → depth_from (t + 6) (forks_of (chunks_of s)) t ≤ 5
    shallow same = let h = few (fork_of (forks_of (chunks_of s)) t) refl in omega arith
