-- A bundle has at most as many intervals as segments, so at most 512.
use Prim.Native.Nat.{ℕ, ◌+◌, ◌≤◌}
use mathlib.Core.Path.{◌≡◌, refl}
use mathlib.Core.Bool.{true}
use mathlib.Core.List.{List, [], ◌∷◌, map, Memᴰ}
use native.Mathlib.Omega.{arith}
use lib.ListN.{length, length-append}
use Rattle.bundle.specs.Lists.{concat_map}
use Rattle.bundle.specs.Commands.{bytes_of}
use Rattle.bundle.specs.Chunks.{Placed, Chunk, fresh, after_command, chunks_of, commands_of}
use Rattle.bundle.specs.Walk.{opens_segment, adds_access, entries_from, entries_of}
use Rattle.bundle.specs.Scan.{start}
use Rattle.bundle.specs.Index.{total, log_of}
use Rattle.bundle.specs.Check.{Accepted}
use Rattle.bundle.specs.declared.chunk.ChunkState.{ChunkState}
use Rattle.bundle.specs.declared.command.Command.{Command}
use Rattle.bundle.specs.declared.command.Command.TheVariants as Com
use Rattle.bundle.proofs.Tests.{false-is-true}
use Rattle.bundle.proofs.Delimiters.{plain, closes}
use Rattle.bundle.proofs.Scanning.{total-append}
use Rattle.bundle.proofs.Gathering.{Body, ends, goes, Formed}
use Rattle.bundle.proofs.Onward.{legible}
use Rattle.bundle.proofs.WalkLaws.{accepted-room}
use Rattle.rows.specs.Rows.{past_of, ends_interval, intervals_from, intervals_in}
use Rattle.rows.specs.Passing.{listed}

-- the commands alone
abbrev pub bare : List Placed → List Command
bare ps = map (λ (p : Placed). p.command) ps

module _ (t m : ℕ) where
  abbrev Few : List Placed → Type 0
  Few ps =
      (b : ℕ) (k₀ k : ChunkState) (g n : ℕ)
      → length (intervals_from t m b k₀ (entries_from k g n ps)) ≤ 1 + total opens_segment (bare ps)

  few-closing : (p : Placed) → closes p.command ≡ true → Few (p ∷ [])
  unfolding intervals_from entries_from ends_interval total opens_segment closes
  few-closing p e b k₀ k g n = go p.command e
    where
      Goal : Command → Type 0
      Goal d = length (intervals_from t m b k₀ (entries_from k g n (record { at = p.at; command = d } ∷ []))) ≤ 1 + total opens_segment (d ∷ [])

      go : (d : Command) → closes d ≡ true → Goal d
      go (Com.Member u v) q = false-is-true q
      go Com.End q = omega arith
      go (Com.Region u z) q = false-is-true q
      go Com.Barrier q = false-is-true q
      go (Com.Acquire l) q = false-is-true q
      go (Com.Release l) q = false-is-true q
      go (Com.Access a) q = false-is-true q
      go Com.Cut q = omega arith

  few-plain : (p : Placed) (ps : List Placed) → plain p.command ≡ true → Few ps → Few (p ∷ ps)
  unfolding intervals_from entries_from ends_interval past_of total opens_segment adds_access plain
  few-plain p ps e ih b k₀ k g n = go p.command e
    where
      Goal : Command → Type 0
      Goal d = length (intervals_from t m b k₀ (entries_from k g n (record { at = p.at; command = d } ∷ ps))) ≤ 1 + total opens_segment (d ∷ bare ps)

      go : (d : Command) → plain d ≡ true → Goal d
      go (Com.Member u v) q = false-is-true q
      go Com.End q = false-is-true q
      go (Com.Region u z) q = let h = ih b k₀ (after_command k (Com.Region u z)) (g + 1) (n + 0) in omega arith
      go Com.Barrier q =
          let after = after_command k Com.Barrier in
          let h = ih (p.at + length (bytes_of Com.Barrier)) after after (g + 1) (n + 0) in
          omega arith
      go (Com.Acquire l) q = let h = ih b k₀ (after_command k (Com.Acquire l)) (g + 0) (n + 0) in omega arith
      go (Com.Release l) q = let h = ih b k₀ (after_command k (Com.Release l)) (g + 0) (n + 0) in omega arith
      go (Com.Access a) q = let h = ih b k₀ (after_command k (Com.Access a)) (g + 0) (n + 1) in omega arith
      go Com.Cut q = false-is-true q

  few-body : {ps : List Placed} → Body ps → Few ps
  few-body (ends {p = p} e) = few-closing p e
  few-body (goes {p = p} {ps = ps} e b) = few-plain p ps e (few-body b)

chunk-few : (d : Chunk) → Formed d → length (intervals_in d) ≤ total opens_segment (log_of d)
unfolding intervals_in entries_of log_of commands_of total
chunk-few d f =
    let h = few-body d.team d.member f.body_ok (d.place + length (bytes_of (Com.Member d.team d.member))) fresh fresh 0 0 in
    let one : opens_segment (Com.Member d.team d.member) ≡ 1 = unfold opens_segment in refl in
    omega (arith, h)

chunks-few : (cs : List Chunk) → ((d : Chunk) → Memᴰ d cs → Formed d) → length (concat_map intervals_in cs) ≤ total opens_segment (concat_map log_of cs)
chunks-few [] h = omega arith
chunks-few (d ∷ ds) h =
    let one = chunk-few d (h d (Memᴰ.head refl)) in
    let more = chunks-few ds (λ e m. h e (Memᴰ.tail m)) in
    let left = length-append (intervals_in d) (concat_map intervals_in ds) in
    let right = total-append opens_segment (log_of d) (concat_map log_of ds) in
    omega (arith, one, more, left, right)

pub few-intervals : (s : List ℕ) → Accepted s → length (listed s) ≤ 512
unfolding listed
few-intervals s a =
    let few = chunks-few (chunks_of s) (legible s a).formed in
    let room : start.segments + total opens_segment (concat_map log_of (chunks_of s)) ≤ 512 = (accepted-room s a).segments in
    omega (arith, few, room)
