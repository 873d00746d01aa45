-- The slot of a team, and what the tests 8 and 11 and the size of a team are by it.
use Prim.Native.Nat.{ℕ, zero, suc, ◌-◌, ◌*◌, ◌/◌, ◌%◌, ◌≤◌, ◌<◌}
use mathlib.Core.Path.{◌≡◌, refl, sym, ◌∙◌, ap}
use mathlib.Core.Logic.{◌⊎◌, inl, inr}
use mathlib.Core.Bool.{Bool, true, false, cond, ◌&&◌}
use mathlib.Core.List.{List}
use mathlib.Core.Option.{Option, none, some}
use native.Mathlib.Omega.{arith}
use native.Mathlib.Decide.{ℕ_discrete, dec_lt}
use lib.Dec.{eqb, ltb, leb, leb-suc-suc}
use lib.ListN.{length, get_or}
use borrow.Author.Tests.{ltb-true, ltb-false, le-ltb, le-leb, lt-leb, eqb-true, eq-eqb, ne_eqb}
use Rattle.sorting.specs.Searching.{lower_bound, first_with_key}
use Rattle.bundle.specs.Lists.{from_option}
use Rattle.bundle.specs.Check.{fork_of, size_of, depth_from, depth_of, forked_before}
use Rattle.bundle.specs.Index.{fork_row_at, table}
use Rattle.bundle.specs.Shape.{fails_at, FirstFailing, slot_of, ByTeam, Known, climbs, deep_by}
use Rattle.bundle.specs.declared.index.Fork.{Fork}
use Rattle.bundle.proofs.Tests.{decide, not-both}
use Rattle.bundle.proofs.Tables.{table-length, first-at, first_past}
use Rattle.bundle.proofs.FailingAt.{index-first, passed-index}

module _ (f : ℕ → Fork) (n : ℕ) where
  abbrev fs : List Fork
  fs = table f n

  slot-first : (t : ℕ) → FirstFailing (λ i. eqb (f i).team t) n (slot_of fs t)
  unfolding slot_of
  slot-first t = index-first (λ (g : Fork). eqb g.team t) f n

  pub slot-within : (t : ℕ) → slot_of fs t ≤ n
  slot-within t = (slot-first t).within

  pub slot-team : (t : ℕ) → slot_of fs t < n → (f (slot_of fs t)).team ≡ t
  slot-team t h = eqb-true (f (slot_of fs t)).team t ((slot-first t).here h)

  pub fork-some : (t : ℕ) → slot_of fs t < n → fork_of fs t ≡ some (f (slot_of fs t))
  unfolding slot_of fork_of
  fork-some t h = first-at (λ (g : Fork). eqb g.team t) f n (slot_of fs t) refl h

  pub fork-none : (t : ℕ) → n ≤ slot_of fs t → fork_of fs t ≡ none
  unfolding slot_of fork_of
  fork-none t h = first_past (λ (g : Fork). eqb g.team t) f n (slot_of fs t) refl h

  -- different teams that are known have different slots
  pub slots-differ : (t u : ℕ) → Known fs t → Known fs u → slot_of fs t ≡ slot_of fs u → t ≡ u
  slots-differ t u k l e = go (dec_lt (slot_of fs t) n)
    where
      go : Dec (slot_of fs t < n) → t ≡ u
      go (yes h) = sym (slot-team t h) ∙ ap (λ (s : ℕ). (f s).team) e ∙ slot-team u (rw (← e) h)
      go (no h) =
          let past : length fs ≤ slot_of fs t = rw (table-length f n) (omega arith) in
          k past ∙ sym (l (rw (← e) past))

  -- the size of a team
  pub size-root : (t : ℕ) → t ≡ 0 → 1 ≡ size_of fs t
  unfolding size_of
  size-root t e = rw e

  module _ (t slot : ℕ) (e : slot ≡ slot_of fs t) (ne : t ≡ 0 → ⊥) where
    pub size_none : n ≤ slot → 0 ≡ size_of fs t
    unfolding size_of
    size_none h = rw (ne_eqb t 0 ne, fork-none t (rw e at h))

    pub size-some : slot < n → (g : Fork) → g ≡ f slot → g.size ≡ size_of fs t
    unfolding size_of
    size-some h g q = rw (ne_eqb t 0 ne, fork-some t (rw e at h), q, e)

  -- a team with a member is known
  pub sized-known : (t m : ℕ) → m < size_of fs t → Known fs t
  sized-known t m h past = go (ℕ_discrete t 0)
    where
      go : Dec (t ≡ 0) → t ≡ 0
      go (yes e) = e
      go (no ne) = let z = size_none t (slot_of fs t) refl ne (rw (table-length f n) at past) in absurd (omega arith)

  -- 8
  pub forked-index : (i : ℕ) → i < n → ltb (slot_of fs (f i).team) i ≡ fails_at forked_before f i
  unfolding slot_of forked_before
  forked-index i h = passed-index (λ (g : Fork). eqb g.team (f i).team) f n i (omega arith)

  -- past 8, a REGION has its own slot
  pub own-slot : (i : ℕ) → i < n → fails_at forked_before f i ≡ false → slot_of fs (f i).team ≡ i
  own-slot i h e =
      let low = ltb-false (slot_of fs (f i).team) i (forked-index i h ∙ e) in
      go low (dec_lt i (slot_of fs (f i).team))
    where
      go : i ≤ slot_of fs (f i).team → Dec (i < slot_of fs (f i).team) → slot_of fs (f i).team ≡ i
      go low (yes l) = not-both (eq-eqb (f i).team (f i).team refl) ((slot-first (f i).team).before i l)
      go low (no l) = omega arith

-- an index that is found fits 32 bits
pub key_fits : (order : List ℕ) (key : ℕ) → length order ≤ 512 → first_with_key order key < 4294967296
unfolding first_with_key
key_fits order key h =
    let at = lower_bound order (key * 65536) in
    let word = get_or order at 0 in
    go (ltb key 281474976710656 && ltb at (length order) && eqb (word / 65536) key) word (length order) h
  where
    go : (b : Bool) (w n : ℕ) → n ≤ 512 → cond b (w % 65536) n < 4294967296
    go true w n l = omega arith
    go false w n l = omega arith

-- one climb
module _ (forks order : List ℕ) (t k : ℕ) where
  pub climbs-none : k ≡ 0 → true ≡ climbs k forks order t
  unfolding climbs
  climbs-none e = rw e

  climbs-one : (k ≡ 0 → ⊥) → climbs k forks order t ≡ climbs (suc (k - 1)) forks order t
  climbs-one ne = let e : k ≡ suc (k - 1) = omega arith in ap (λ (j : ℕ). climbs j forks order t) e

  module _ (ne : k ≡ 0 → ⊥) (slot : ℕ) (e : slot ≡ first_with_key order t) where
    pub climbs-ends : length order ≤ slot → false ≡ climbs k forks order t
    climbs-ends h = sym (climbs-one ne ∙ unfold climbs in (rw (← e, le-leb (length order) slot h)))

    pub climbs-goes : slot < length order → (f : Fork) → f ≡ fork_row_at forks slot → climbs (k - 1) forks order f.parent ≡ climbs k forks order t
    climbs-goes h f q = sym (climbs-one ne ∙ unfold climbs in (rw (← e, lt-leb (length order) slot h, q)))

-- 11: five climbs decide whether a team is deeper than 4
module _ (forks order : List ℕ) (n : ℕ) (by : ByTeam order (table (fork_row_at forks) n)) where
  abbrev rows : List Fork
  rows = table (fork_row_at forks) n

  climbs-depth : (k fuel t : ℕ) → k ≤ fuel → climbs k forks order t ≡ leb k (depth_from fuel rows t)
  unfolding climbs depth_from
  climbs-depth zero fuel t h = sym (le-leb 0 (depth_from fuel rows t) (omega arith))
  climbs-depth (suc k) zero t h = absurd (omega arith)
  climbs-depth (suc k) (suc fuel) t h =
      rw (by.slot t, by.long, table-length (fork_row_at forks) n) (go (λ u. climbs-depth k fuel u (omega arith)) (dec_lt slot n))
    where
      slot : ℕ
      slot = slot_of rows t

      go :
          ((u : ℕ) → climbs k forks order u ≡ leb k (depth_from fuel rows u))
          → Dec (slot < n)
          → cond (leb n slot) false (climbs k forks order (fork_row_at forks slot).parent)
          ≡ leb (suc k) (from_option 0 (λ (g : Fork). suc (depth_from fuel rows g.parent)) (fork_of rows t))
      go ih (yes l) =
          rw (lt-leb n slot l, fork-some (fork_row_at forks) n t l)
          (ih (fork_row_at forks slot).parent ∙ sym (leb-suc-suc k (depth_from fuel rows (fork_row_at forks slot).parent)))
      go ih (no l) = rw (le-leb n slot (omega arith), fork-none (fork_row_at forks) n t (omega arith)) (sym (lt-leb (suc k) 0 (omega arith)))

  depth-within : (fuel t : ℕ) → depth_from fuel rows t ≤ fuel
  unfolding depth_from
  depth-within zero t = omega arith
  depth-within (suc fuel) t = go (fork_of rows t) (depth-within fuel)
    where
      go :
          (o : Option Fork)
          → ((u : ℕ) → depth_from fuel rows u ≤ fuel)
          → from_option 0 (λ (g : Fork). suc (depth_from fuel rows g.parent)) o ≤ suc fuel
      go none ih = omega arith
      go (some g) ih = let h = ih g.parent in omega arith

  pub deep-depth : (t : ℕ) → deep_by forks order t ≡ ltb 4 (depth_of rows t)
  unfolding deep_by depth_of
  deep-depth t = go (decide (ltb t 4))
    where
      go : (ltb t 4 ≡ true) ⊎ (ltb t 4 ≡ false) → cond (ltb t 4) false (climbs 5 forks order t) ≡ ltb 4 (depth_from (suc t) rows t)
      go (inl e) =
          let h = ltb-true t 4 e in
          let d = depth-within (suc t) t in
          rw e (sym (le-ltb 4 (depth_from (suc t) rows t) (omega arith)))
      go (inr e) = let h = ltb-false t 4 e in rw e (climbs-depth 5 (suc t) t (omega arith))
