-- One command of the scan: each answer of the code is the definition's.
use Prim.Native.Nat.{ℕ, ◌+◌, ◌<◌}
use mathlib.Core.Path.{◌≡◌, refl, sym, ◌∙◌, ap}
use mathlib.Core.Bool.{Bool, true, false, cond, not, ◌&&◌, ◌||◌}
use mathlib.Core.List.{List}
use native.Mathlib.Omega.{arith}
use lib.Dec.{eqb, ltb}
use borrow.Author.Tests.{lt-ltb, le-ltb}
use Rattle.bundle.specs.Answer.{Answer, gives, refuses}
use Rattle.bundle.specs.Locks.{holds}
use Rattle.bundle.specs.Commands.{Taken, operands_ok, in_range, decode_at}
use Rattle.bundle.specs.Chunks.{after_barrier, after_join, after_acquire, after_release, after_command}
use Rattle.bundle.specs.Walk.{opens_segment, adds_access}
use Rattle.bundle.specs.Scan.{misplaced, differs, of_other_group, above_own_team, misuses_lock, too_many, fault_of, scanned}
use Rattle.bundle.specs.Survey.{Bounded, scan_with, Stepped, decided, tested_at, step_at}
use Rattle.bundle.specs.declared.refusal.Cause.{Cause}
use Rattle.bundle.specs.declared.chunk.ChunkState.{ChunkState}
use Rattle.bundle.specs.declared.scan.Scan.{Scan}
use Rattle.bundle.specs.declared.command.Access.{Access}
use Rattle.bundle.specs.declared.command.Command.{Command}
use Rattle.bundle.specs.declared.command.Command.TheVariants as Com
use Rattle.bundle.proofs.Ranges.{in-range-ok}

-- the scan after a command that passes
module _ {k r : Scan} {st : ChunkState} (b : Bounded k) where
  pub after_region :
      (t z : ℕ)
      → st ≡ cond (ltb k.state.regions 4294967295) (after_join k.state) k.state
      → r ≡ scan_with k st 1 0 k.wide
      → r ≡ scanned k (Com.Region t z)
  unfolding scanned after_command opens_segment adds_access
  after_region t z e q =
      q ∙ ap (λ (x : ChunkState). scan_with k x 1 0 k.wide) (e ∙ rw (lt-ltb k.state.regions 4294967295 (omega (arith, b.segments, b.opened))))

  pub after-barrier :
      st ≡ cond (ltb k.state.barriers 4294967295) (after_barrier k.state) k.state
      → r ≡ scan_with k st 1 0 k.wide
      → r ≡ scanned k Com.Barrier
  unfolding scanned after_command opens_segment adds_access
  after-barrier e q =
      q ∙ ap (λ (x : ChunkState). scan_with k x 1 0 k.wide) (e ∙ rw (lt-ltb k.state.barriers 4294967295 (omega (arith, b.segments, b.opened))))

module _ (k : Scan) {r : Scan} {st : ChunkState} where
  pub after-acquire :
      (l : ℕ)
      → in_range (Com.Acquire l) ≡ true
      → misuses_lock k.state.locks (Com.Acquire l) ≡ false
      → st ≡ cond (ltb l 64 && not (holds l k.state.locks)) (after_acquire l k.state) k.state
      → r ≡ scan_with k st 0 0 k.wide
      → r ≡ scanned k (Com.Acquire l)
  unfolding scanned after_command opens_segment adds_access operands_ok misuses_lock
  after-acquire l i o e q =
      q ∙ ap (λ (x : ChunkState). scan_with k x 0 0 k.wide) (e ∙ rw (in-range-ok (Com.Acquire l) i, o))

  pub after-release :
      (l : ℕ)
      → misuses_lock k.state.locks (Com.Release l) ≡ false
      → st ≡ cond (holds l k.state.locks) (after_release l k.state) k.state
      → r ≡ scan_with k st 0 0 k.wide
      → r ≡ scanned k (Com.Release l)
  unfolding scanned after_command opens_segment adds_access misuses_lock
  after-release l o e q =
      q ∙ ap (λ (x : ChunkState). scan_with k x 0 0 k.wide) (e ∙ rw (held (holds l k.state.locks) o))
    where
      held : (t : Bool) → not t ≡ false → t ≡ true
      held true h = refl
      held false h = sym h

pub after-access : (k : Scan) {r : Scan} (a : Access) {wide : Bool} → a.wide ≡ wide → r ≡ scan_with k k.state 0 1 wide → r ≡ scanned k (Com.Access a)
unfolding scanned after_command opens_segment adds_access
after-access k a e q = q ∙ ap (scan_with k k.state 0 1) (sym e)

-- 7 by what a command adds
module _ (k : Scan) (c : Command) (b : Bounded k) where
  pub many-segments : opens_segment c ≡ 1 → adds_access c ≡ 0 → too_many k c ≡ ltb 512 (k.segments + 1)
  unfolding too_many
  many-segments e f = rw (e, f, le-ltb 1024 (k.accesses + 0) (omega (arith, b.accesses))) (or-none (ltb 512 (k.segments + 1)))
    where
      or-none : (t : Bool) → (t || false) ≡ t
      or-none true = refl
      or-none false = refl

  pub many-accesses : opens_segment c ≡ 0 → adds_access c ≡ 1 → too_many k c ≡ ltb 1024 (k.accesses + 1)
  unfolding too_many
  many-accesses e f = rw (e, f, le-ltb 512 (k.segments + 0) (omega (arith, b.segments)))

  pub many-none : opens_segment c ≡ 0 → adds_access c ≡ 0 → too_many k c ≡ false
  unfolding too_many
  many-none e f = rw (e, f, le-ltb 512 (k.segments + 0) (omega (arith, b.segments)), le-ltb 1024 (k.accesses + 0) (omega (arith, b.accesses)))

-- 20: the group of an access against that of those before it
module _ (k : Scan) (b : Bounded k) {wide : Bool} where
  pub wide-follows : wide ≡ true → ltb 0 k.accesses && not k.wide ≡ ltb 0 k.accesses && differs k.wide wide
  unfolding differs
  wide-follows e = rw e (ap (λ (t : Bool). ltb 0 k.accesses && t) (go k.wide))
    where
      go : (w : Bool) → not w ≡ differs w true
      go true = refl
      go false = refl

  pub narrow-follows : wide ≡ false → k.wide ≡ ltb 0 k.accesses && differs k.wide wide
  unfolding differs
  narrow-follows e = rw e (go k.wide b.grouped)
    where
      none : (t : Bool) → false ≡ t && false
      none true = refl
      none false = refl

      go : (w : Bool) → (w ≡ true → 0 < k.accesses) → w ≡ ltb 0 k.accesses && differs w false
      go true g = rw (lt-ltb 0 k.accesses (g refl))
      go false g = none (ltb 0 k.accesses)

pub other-group :
    (k : Scan) (a : Access) {wide r : Bool}
    → a.wide ≡ wide
    → r ≡ ltb 0 k.accesses && differs k.wide wide
    → r ≡ of_other_group k (Com.Access a)
unfolding of_other_group
other-group k a e q = q ∙ ap (λ (t : Bool). ltb 0 k.accesses && differs k.wide t) (sym e)

-- 5: the ranges, and the own-team rule at a REGION
pub beyond-range : (c : Command) {r : Bool} → r ≡ in_range c → not r ≡ not (in_range c && true)
beyond-range c e = ap not e ∙ go (in_range c)
  where
    go : (t : Bool) → not t ≡ not (t && true)
    go true = refl
    go false = refl

pub beyond-team :
    (own t z : ℕ) {r : Bool}
    → r ≡ in_range (Com.Region t z)
    → not (r && ltb own t) ≡ not (in_range (Com.Region t z) && above_own_team own (Com.Region t z))
unfolding above_own_team
beyond-team own t z e = ap (λ (x : Bool). not (x && ltb own t)) e

-- the tests in their order
pub tested :
    (k : Scan) (at : ℕ) (t : Taken) {m f b l n : Bool} {k' : Scan}
    → m ≡ misplaced k t.command
    → f ≡ of_other_group k t.command
    → b ≡ not (in_range t.command && above_own_team k.team t.command)
    → l ≡ misuses_lock k.state.locks t.command
    → n ≡ too_many k t.command
    → (in_range t.command ≡ true → misuses_lock k.state.locks t.command ≡ false → k' ≡ scanned k t.command)
    → decided at m f b l n (gives (record { scan = k'; command = t.command; next = t.next })) ≡ tested_at k at t
unfolding tested_at fault_of
tested k at t {k' = k'} e₄ e₂₀ e₅ e₆ e₇ after =
    rw (e₄, e₂₀, e₅, e₆, e₇)
    (go
    (misplaced k t.command)
    (of_other_group k t.command)
    (in_range t.command)
    (above_own_team k.team t.command)
    (misuses_lock k.state.locks t.command)
    (too_many k t.command)
    after)
  where
    stepped : Scan → Answer Stepped
    stepped scan = gives (record { scan = scan; command = t.command; next = t.next })

    fault : Bool → Bool → Bool → Bool → Bool → Bool → ℕ
    fault m f i o l n = cond m 4 (cond f 20 (cond (not (i && o)) 5 (cond l 6 (cond n 7 0))))

    go :
        (m f i o l n : Bool)
        → (i ≡ true → l ≡ false → k' ≡ scanned k t.command)
        → decided at m f (not (i && o)) l n (stepped k')
        ≡ cond (eqb (fault m f i o l n) 0) (stepped (scanned k t.command)) (refuses (fault m f i o l n) at)
    go true f i o l n h = refl
    go false true i o l n h = refl
    go false false false o l n h = refl
    go false false true false l n h = refl
    go false false true true true n h = refl
    go false false true true false true h = refl
    go false false true true false false h = ap stepped (h refl refl)

-- what was decoded, refused or taken
module _ (s : List ℕ) (at : ℕ) (k : Scan) where
  pub step-refused : {n p : ℕ} → refuses n p ≡ decode_at s at → refuses n p ≡ step_at s at k
  unfolding step_at
  step-refused e = rw (← e)

  pub step-taken : {t : Taken} {a : Answer Stepped} → gives t ≡ decode_at s at → a ≡ tested_at k at t → a ≡ step_at s at k
  unfolding step_at
  step-taken e q = rw (← e) q
