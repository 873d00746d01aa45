-- Each command opens a chunk, closes one, or does neither; each forks a team or does not, opens a segment or does not, and is an access or
-- is not: laws of the questions with a default.
use Prim.Native.Nat.{ℕ, ◌+◌, ◌≤◌}
use mathlib.Core.Path.{◌≡◌, refl, sym}
use mathlib.Core.Bool.{Bool, true, false}
use native.Mathlib.Omega.{arith}
use lib.ListN.{length}
use Rattle.bundle.specs.Cases.{on_delimiter, on_opening, on_region, on_access}
use Rattle.bundle.specs.Commands.{form_of, code_of, widths_of, operand_bytes, bytes_of}
use Rattle.bundle.specs.Chunks.{after_barrier, after_join, after_acquire, after_release, after_command, is_end}
use Rattle.bundle.specs.Walk.{opens_segment}
use Rattle.bundle.specs.declared.chunk.ChunkState.{ChunkState}
use Rattle.bundle.specs.declared.command.Access.{Access}
use Rattle.bundle.specs.declared.command.Command.{Command}
use Rattle.bundle.specs.declared.command.Command.TheVariants as Com
use Rattle.bundle.proofs.Tests.{false-is-true}

-- neither MEMBER nor END nor CUT
unfoldable pub plain : Command → Bool
plain = on_delimiter true (λ t m. false) false

unfoldable pub closes : Command → Bool
closes = on_delimiter false (λ t m. false) true

module _ {A : Type 0} (other : A) (opening : ℕ → ℕ → A) (closing : A) where
  pub on-plain : (c : Command) → plain c ≡ true → on_delimiter other opening closing c ≡ other
  unfolding plain
  on-plain (Com.Member t m) e = false-is-true e
  on-plain Com.End e = false-is-true e
  on-plain (Com.Region t z) e = refl
  on-plain Com.Barrier e = refl
  on-plain (Com.Acquire l) e = refl
  on-plain (Com.Release l) e = refl
  on-plain (Com.Access a) e = refl
  on-plain Com.Cut e = false-is-true e

  pub on-closes : (c : Command) → closes c ≡ true → on_delimiter other opening closing c ≡ closing
  unfolding closes
  on-closes (Com.Member t m) e = false-is-true e
  on-closes Com.End e = refl
  on-closes (Com.Region t z) e = false-is-true e
  on-closes Com.Barrier e = false-is-true e
  on-closes (Com.Acquire l) e = false-is-true e
  on-closes (Com.Release l) e = false-is-true e
  on-closes (Com.Access a) e = false-is-true e
  on-closes Com.Cut e = refl

pub data Delimiter : Command → Type 0 where
  opens_chunk : (t m : ℕ) → Delimiter (Com.Member t m)
  closes_chunk : {c : Command} → closes c ≡ true → Delimiter c
  neither : {c : Command} → plain c ≡ true → Delimiter c

pub delimits : (c : Command) → Delimiter c
unfolding plain closes
delimits (Com.Member t m) = opens_chunk t m
delimits Com.End = closes_chunk refl
delimits (Com.Region t z) = neither refl
delimits Com.Barrier = neither refl
delimits (Com.Acquire l) = neither refl
delimits (Com.Release l) = neither refl
delimits (Com.Access a) = neither refl
delimits Com.Cut = closes_chunk refl

-- REGION, or a command that forks no team
unfoldable pub forking : Command → Bool
forking = on_region false (λ t z. true)

pub on-other : {A : Type 0} (other : A) (region : ℕ → ℕ → A) (c : Command) → forking c ≡ false → on_region other region c ≡ other
unfolding forking
on-other other region (Com.Member t m) e = refl
on-other other region Com.End e = refl
on-other other region (Com.Region t z) e = false-is-true (sym e)
on-other other region Com.Barrier e = refl
on-other other region (Com.Acquire l) e = refl
on-other other region (Com.Release l) e = refl
on-other other region (Com.Access a) e = refl
on-other other region Com.Cut e = refl

pub data Forking : Command → Type 0 where
  forks_team : (t z : ℕ) → Forking (Com.Region t z)
  forks_none : {c : Command} → forking c ≡ false → Forking c

pub forkings : (c : Command) → Forking c
unfolding forking
forkings (Com.Member t m) = forks_none refl
forkings Com.End = forks_none refl
forkings (Com.Region t z) = forks_team t z
forkings Com.Barrier = forks_none refl
forkings (Com.Acquire l) = forks_none refl
forkings (Com.Release l) = forks_none refl
forkings (Com.Access a) = forks_none refl
forkings Com.Cut = forks_none refl

-- an access, or a command that touches no byte
unfoldable pub accessing : Command → Bool
accessing = on_access false (λ a. true)

pub on-no-access : {A : Type 0} (other : A) (access : Access → A) (c : Command) → accessing c ≡ false → on_access other access c ≡ other
unfolding accessing
on-no-access other access (Com.Member t m) e = refl
on-no-access other access Com.End e = refl
on-no-access other access (Com.Region t z) e = refl
on-no-access other access Com.Barrier e = refl
on-no-access other access (Com.Acquire l) e = refl
on-no-access other access (Com.Release l) e = refl
on-no-access other access (Com.Access a) e = false-is-true (sym e)
on-no-access other access Com.Cut e = refl

pub data Accessing : Command → Type 0 where
  accesses_some : (a : Access) → Accessing (Com.Access a)
  accesses_none : {c : Command} → accessing c ≡ false → Accessing c

pub accessings : (c : Command) → Accessing c
unfolding accessing
accessings (Com.Member t m) = accesses_none refl
accessings Com.End = accesses_none refl
accessings (Com.Region t z) = accesses_none refl
accessings Com.Barrier = accesses_none refl
accessings (Com.Acquire l) = accesses_none refl
accessings (Com.Release l) = accesses_none refl
accessings (Com.Access a) = accesses_some a
accessings Com.Cut = accesses_none refl

-- MEMBER, REGION, BARRIER, or a command that opens no segment
unfoldable pub opening : Command → Bool
opening = on_opening false true (λ t. true) true

pub on-no-opening :
    {A : Type 0} (other member : A) (region : ℕ → A) (barrier : A) (c : Command)
    → opening c ≡ false
    → on_opening other member region barrier c ≡ other
unfolding opening
on-no-opening other member region barrier (Com.Member t m) e = false-is-true (sym e)
on-no-opening other member region barrier Com.End e = refl
on-no-opening other member region barrier (Com.Region t z) e = false-is-true (sym e)
on-no-opening other member region barrier Com.Barrier e = false-is-true (sym e)
on-no-opening other member region barrier (Com.Acquire l) e = refl
on-no-opening other member region barrier (Com.Release l) e = refl
on-no-opening other member region barrier (Com.Access a) e = refl
on-no-opening other member region barrier Com.Cut e = refl

pub data Opens : Command → Type 0 where
  opens_member : (t m : ℕ) → Opens (Com.Member t m)
  opens_region : (t z : ℕ) → Opens (Com.Region t z)
  opens_barrier : Opens Com.Barrier
  opens_none : {c : Command} → opening c ≡ false → Opens c

pub openings : (c : Command) → Opens c
unfolding opening
openings (Com.Member t m) = opens_member t m
openings Com.End = opens_none refl
openings (Com.Region t z) = opens_region t z
openings Com.Barrier = opens_barrier
openings (Com.Acquire l) = opens_none refl
openings (Com.Release l) = opens_none refl
openings (Com.Access a) = opens_none refl
openings Com.Cut = opens_none refl

-- what closes a chunk forks no team, opens no segment, is no access, leaves the state as it is, and has one byte
pub closes-forks-none : (c : Command) → closes c ≡ true → forking c ≡ false
unfolding closes forking
closes-forks-none (Com.Member t m) e = false-is-true e
closes-forks-none Com.End e = refl
closes-forks-none (Com.Region t z) e = false-is-true e
closes-forks-none Com.Barrier e = refl
closes-forks-none (Com.Acquire l) e = refl
closes-forks-none (Com.Release l) e = refl
closes-forks-none (Com.Access a) e = refl
closes-forks-none Com.Cut e = refl

pub closes-opens-none : (c : Command) → closes c ≡ true → opening c ≡ false
unfolding closes
closes-opens-none c = go (openings c)
  where
    go : {c : Command} → Opens c → closes c ≡ true → opening c ≡ false
    go (opens_member t m) e = false-is-true e
    go (opens_region t z) e = false-is-true e
    go opens_barrier e = false-is-true e
    go (opens_none h) e = h

pub closes-accesses-none : (c : Command) → closes c ≡ true → accessing c ≡ false
unfolding closes
closes-accesses-none c = go (accessings c)
  where
    go : {c : Command} → Accessing c → closes c ≡ true → accessing c ≡ false
    go (accesses_some a) e = false-is-true e
    go (accesses_none h) e = h

pub closes-keeps : (k : ChunkState) (c : Command) → closes c ≡ true → after_command k c ≡ k
unfolding closes after_command
closes-keeps k (Com.Member t m) e = refl
closes-keeps k Com.End e = refl
closes-keeps k (Com.Region t z) e = false-is-true e
closes-keeps k Com.Barrier e = false-is-true e
closes-keeps k (Com.Acquire l) e = false-is-true e
closes-keeps k (Com.Release l) e = false-is-true e
closes-keeps k (Com.Access a) e = refl
closes-keeps k Com.Cut e = refl

pub closes-width : (c : Command) → closes c ≡ true → length (bytes_of c) ≡ 1
unfolding closes bytes_of code_of form_of widths_of operand_bytes
closes-width (Com.Member t m) e = false-is-true e
closes-width Com.End e = refl
closes-width (Com.Region t z) e = false-is-true e
closes-width Com.Barrier e = refl
closes-width (Com.Acquire l) e = false-is-true e
closes-width (Com.Release l) e = false-is-true e
closes-width (Com.Access a) e = false-is-true e
closes-width Com.Cut e = refl

-- a barrier or a join opens a segment
pub state-counts :
    (k : ChunkState) (c : Command) → (after_command k c).barriers + (after_command k c).regions ≤ k.barriers + k.regions + opens_segment c
unfolding after_command after_barrier after_join after_acquire after_release opens_segment
state-counts k (Com.Member t m) = omega arith
state-counts k Com.End = omega arith
state-counts k (Com.Region t z) = omega arith
state-counts k Com.Barrier = omega arith
state-counts k (Com.Acquire l) = omega arith
state-counts k (Com.Release l) = omega arith
state-counts k (Com.Access a) = omega arith
state-counts k Com.Cut = omega arith

-- no command takes a barrier back
pub barriers-rise : (k : ChunkState) (c : Command) → k.barriers ≤ (after_command k c).barriers
unfolding after_command after_barrier after_join after_acquire after_release
barriers-rise k (Com.Member t m) = omega arith
barriers-rise k Com.End = omega arith
barriers-rise k (Com.Region t z) = omega arith
barriers-rise k Com.Barrier = omega arith
barriers-rise k (Com.Acquire l) = omega arith
barriers-rise k (Com.Release l) = omega arith
barriers-rise k (Com.Access a) = omega arith
barriers-rise k Com.Cut = omega arith

-- a command that neither opens nor closes a chunk is not END
pub plain-not-end : (c : Command) → plain c ≡ true → is_end c ≡ false
unfolding plain is_end
plain-not-end (Com.Member t m) e = refl
plain-not-end Com.End e = false-is-true e
plain-not-end (Com.Region t z) e = refl
plain-not-end Com.Barrier e = refl
plain-not-end (Com.Acquire l) e = refl
plain-not-end (Com.Release l) e = refl
plain-not-end (Com.Access a) e = refl
plain-not-end Com.Cut e = refl
