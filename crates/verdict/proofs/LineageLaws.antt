-- Lineages: their team numbers fall, and the locks that count for two accesses are found by climbing from the larger team number.
use Prim.Native.Nat.{ℕ, zero, suc, ◌≤◌, ◌<◌}
use mathlib.Core.Path.{◌≡◌, refl, sym, ◌∙◌, ap, ap₂}
use mathlib.Core.Bool.{Bool, true, false, cond, ◌&&◌, ◌||◌, or-false}
use mathlib.Core.List.{List, [], ◌∷◌, Memᴰ}
use mathlib.Core.Option.{Option, none, some}
use native.Mathlib.Omega.{arith}
use native.Mathlib.Nat.{zero-div}
use lib.Bits.{bit_or}
use lib.Dec.{eqb}
use borrow.Author.Tests.{eq-eqb, ne_eqb}
use Rattle.bundle.specs.Lists.{up_to, any, from_option}
use Rattle.bundle.specs.Locks.{holds, common_lock}
use Rattle.bundle.specs.Check.{fork_of}
use Rattle.bundle.specs.declared.index.Fork.{Fork}
use Rattle.bundle.proofs.ListLaws.{any-intro, up_to-intro}
use Rattle.bundle.proofs.Tests.{both, and-swap, or_assoc, or-one}
use Rattle.order.proofs.Climbs.{fork-known, fork-team}
use Rattle.verdict.specs.Lineages.{Holder, above_from, lineage, has_team, up_to_parting, counts_lock}
use Rattle.verdict.specs.RaceLists.{common_counted}
use Rattle.verdict.specs.Linking.{climbed}
use Rattle.verdict.proofs.WordBits.{bit-or}

-- the chunk that a REGION stands in, with the locks that it holds there
abbrev pub forker : Fork → Holder
forker f = record { team = f.parent; member = f.member; locks = f.state.locks }

held-or : (lock a b : ℕ) → holds lock (bit_or a b) ≡ (holds lock a || holds lock b)
unfolding holds
held-or lock a b = bit-or a b lock

-- own locks always count, and in one team nothing else does
module _ (fs : List Fork) (a b : Holder) (lock : ℕ) where
  pub own-counted : holds lock a.locks ≡ true → counts_lock fs a b lock ≡ true
  unfolding counts_lock lineage up_to_parting
  own-counted h = or-one _ h

  pub same-team : a.team ≡ b.team → counts_lock fs a b lock ≡ holds lock a.locks
  unfolding counts_lock lineage up_to_parting has_team
  same-team e = rw (eq-eqb b.team a.team (sym e)) (or-false (holds lock a.locks))

-- no lock is held at a REGION
module _ (fs : List Fork) (none-held : (f : Fork) → Memᴰ f fs → f.state.locks ≡ 0) (lock : ℕ) where
  abbrev held : List Holder → Bool
  held hs = any (λ (h : Holder). holds lock h.locks) hs

  nothing : holds lock 0 ≡ false
  unfolding holds
  nothing = rw (zero-div)

  stopped : (t : Bool) (hs : List Holder) → held hs ≡ false → held (cond t [] hs) ≡ false
  stopped true hs h = refl
  stopped false hs h = h

  none_above : (fuel t : ℕ) (other : List Holder) → held (up_to_parting (above_from fuel fs t) other) ≡ false
  unfolding above_from up_to_parting
  none_above zero t other = refl
  none_above (suc fuel) t other = go (fork_of fs t) refl (none_above fuel)
    where
      step : Option Fork → List Holder
      step = from_option [] (λ (f : Fork). forker f ∷ above_from fuel fs f.parent)

      go :
          (o : Option Fork)
          → fork_of fs t ≡ o
          → ((u : ℕ) (hs : List Holder) → held (up_to_parting (above_from fuel fs u) hs) ≡ false)
          → held (up_to_parting (step o) other) ≡ false
      go none e ih = refl
      go (some f) e ih =
          rw (ap (holds lock) (none-held f (fork-known fs t e).0) ∙ nothing)
          (stopped (has_team other f.parent) (up_to_parting (above_from fuel fs f.parent) other) (ih f.parent other))

  pub none-counted : (a b : Holder) → counts_lock fs a b lock ≡ holds lock a.locks
  unfolding counts_lock lineage up_to_parting
  none-counted a b =
      ap (λ (x : Bool). holds lock a.locks || x)
      (stopped (has_team (lineage fs b) a.team) (up_to_parting (above_from (suc a.team) fs a.team) (lineage fs b)) (none_above (suc a.team) a.team (lineage fs b)))
      ∙ or-false (holds lock a.locks)

-- team numbers fall on the way up
module _ (fs : List Fork) (falls : (f : Fork) → Memᴰ f fs → f.parent < f.team) where
  above-enough : (n m t : ℕ) → t < n → t < m → above_from n fs t ≡ above_from m fs t
  unfolding above_from
  above-enough zero m t h l = absurd (omega arith)
  above-enough (suc n) zero t h l = absurd (omega arith)
  above-enough (suc n) (suc m) t h l = go (fork_of fs t) refl (λ u b. above-enough n m u (omega arith) (omega arith))
    where
      step : ℕ → Option Fork → List Holder
      step fuel = from_option [] (λ (f : Fork). forker f ∷ above_from fuel fs f.parent)

      go : (o : Option Fork) → fork_of fs t ≡ o → ((u : ℕ) → u < t → above_from n fs u ≡ above_from m fs u) → step n o ≡ step m o
      go none e ih = refl
      go (some f) e ih = rw (ih f.parent (fork-team fs falls e))

  -- above a team stands the lineage of the chunk that forks it
  pub above-forked : (t : ℕ) {f : Fork} → fork_of fs t ≡ some f → above_from (suc t) fs t ≡ lineage fs (forker f)
  unfolding above_from lineage
  above-forked t {f} e =
      let below = fork-team fs falls e in
      rw (e, above-enough t (suc f.parent) f.parent below (omega arith))

  above_low : (fuel t u : ℕ) → t ≤ u → has_team (above_from fuel fs t) u ≡ false
  unfolding above_from has_team
  above_low zero t u h = refl
  above_low (suc fuel) t u h = go (fork_of fs t) refl (λ v l. above_low fuel v u l)
    where
      go :
          (o : Option Fork)
          → fork_of fs t ≡ o
          → ((v : ℕ) → v ≤ u → has_team (above_from fuel fs v) u ≡ false)
          → any (λ (x : Holder). eqb x.team u) (from_option [] (λ (f : Fork). forker f ∷ above_from fuel fs f.parent) o) ≡ false
      go none e ih = refl
      go (some f) e ih =
          let below = fork-team fs falls e in
          rw (ne_eqb f.parent u (omega arith)) (ih f.parent (omega arith))

  pub lineage-low : (h : Holder) (u : ℕ) → h.team < u → has_team (lineage fs h) u ≡ false
  unfolding lineage has_team
  lineage-low h u l =
      rw (ne_eqb h.team u (omega arith)) (above_low (suc h.team) h.team u (omega arith))

  -- the side with the larger team number climbs: nothing else changes
  module _ (a b : Holder) {f : Fork} (below : a.team < b.team) (forked : fork_of fs b.team ≡ some f) where
    abbrev up : List Holder
    up = lineage fs (climbed b f)

    lineage-up : lineage fs b ≡ b ∷ lineage fs (forker f)
    lineage-up = unfold lineage in (ap (λ (hs : List Holder). b ∷ hs) (unfold lineage in (above-forked b.team forked)))

    -- the teams of the lineage that climbs, for teams below its own
    has-team : (u : ℕ) → u < b.team → has_team (lineage fs b) u ≡ has_team up u
    unfolding has_team
    has-team u l =
        ap (any (λ (h : Holder). eqb h.team u)) lineage-up
        ∙ ap (λ (x : Bool). x || any (λ (h : Holder). eqb h.team u) (lineage fs (forker f))) (ne_eqb b.team u (omega arith))
        ∙ (unfold lineage in refl)

    above-counted : (fuel t : ℕ) → t ≤ b.team → up_to_parting (above_from fuel fs t) (lineage fs b) ≡ up_to_parting (above_from fuel fs t) up
    unfolding above_from up_to_parting
    above-counted zero t h = refl
    above-counted (suc fuel) t h = go (fork_of fs t) refl (above-counted fuel)
      where
        go :
            (o : Option Fork)
            → fork_of fs t ≡ o
            → ((u : ℕ) → u ≤ b.team → up_to_parting (above_from fuel fs u) (lineage fs b) ≡ up_to_parting (above_from fuel fs u) up)
            → up_to_parting (from_option [] (λ (g : Fork). forker g ∷ above_from fuel fs g.parent) o) (lineage fs b)
            ≡ up_to_parting (from_option [] (λ (g : Fork). forker g ∷ above_from fuel fs g.parent) o) up
        go none e ih = refl
        go (some g) e ih =
            let lower = fork-team fs falls e in
            rw (has-team g.parent (omega arith), ih g.parent (omega arith))

    -- what the lower side counts
    pub lower-counts : (lock : ℕ) → counts_lock fs a b lock ≡ counts_lock fs a (climbed b f) lock
    unfolding counts_lock lineage up_to_parting
    lower-counts lock =
        ap₂ (λ (x : Bool) (hs : List Holder). any (λ (h : Holder). holds lock h.locks) (a ∷ cond x [] hs)) (has-team a.team below)
        (above-counted (suc a.team) a.team (omega arith))

    -- what the side that climbs counts
    pub upper-counts : (lock : ℕ) → counts_lock fs b a lock ≡ counts_lock fs (climbed b f) a lock
    unfolding counts_lock lineage up_to_parting
    upper-counts lock =
        ap₂ (λ (x : Bool) (hs : List Holder). held (b ∷ cond x [] (up_to_parting hs (lineage fs a)))) (lineage-low a b.team below)
        (above-forked b.team forked)
        ∙ sym (or_assoc (holds lock b.locks) (holds lock f.state.locks) rest)
        ∙ ap (λ (x : Bool). x || rest) (sym (held-or lock b.locks f.state.locks))
      where
        held : List Holder → Bool
        held hs = any (λ (h : Holder). holds lock h.locks) hs

        rest : Bool
        rest = held (cond (has_team (lineage fs a) f.parent) [] (up_to_parting (above_from (suc f.parent) fs f.parent) (lineage fs a)))

-- whether two sides count a lock in common
module _ (fs : List Fork) where
  -- what both hold themselves both count
  pub own-common :
      (a b : Holder) (lock : ℕ) → lock < 64 → holds lock a.locks ≡ true → holds lock b.locks ≡ true → common_counted fs a b ≡ true
  unfolding common_counted
  own-common a b lock h p q =
      any-intro (λ l. counts_lock fs a b l && counts_lock fs b a l) (up_to-intro 64 h)
      (both (own-counted fs a b lock p) (own-counted fs b a lock q))

  pub common-swap : (a b : Holder) → common_counted fs a b ≡ common_counted fs b a
  unfolding common_counted
  common-swap a b = λ i. any (λ lock. and-swap (counts_lock fs a b lock) (counts_lock fs b a lock) i) (up_to 64)

  pub common-met : (a b : Holder) → a.team ≡ b.team → common_counted fs a b ≡ common_lock a.locks b.locks
  unfolding common_counted common_lock
  common-met a b e = λ i. any (λ lock. same-team fs a b lock e i && same-team fs b a lock (sym e) i) (up_to 64)

  pub common-unheld :
      ((f : Fork) → Memᴰ f fs → f.state.locks ≡ 0)
      → (a b : Holder)
      → common_counted fs a b ≡ common_lock a.locks b.locks
  unfolding common_counted common_lock
  common-unheld h a b = λ i. any (λ lock. none-counted fs h lock a b i && none-counted fs h lock b a i) (up_to 64)

  module _ (falls : (f : Fork) → Memᴰ f fs → f.parent < f.team) where
    pub common-climbed : (a b : Holder) {f : Fork} → a.team < b.team → fork_of fs b.team ≡ some f → common_counted fs a b ≡ common_counted fs a (climbed b f)
    unfolding common_counted
    common-climbed a b l e = λ i. any (λ lock. lower-counts fs falls a b l e lock i && upper-counts fs falls a b l e lock i) (up_to 64)
