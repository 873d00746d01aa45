-- A chunk has an access for each command that is one, and so a bundle that is accepted has at most 1,024.
use Prim.Native.Nat.{ℕ, ◌+◌, ◌≤◌}
use mathlib.Core.Path.{◌≡◌, refl, ◌∙◌}
use mathlib.Core.List.{List, [], ◌∷◌, map}
use native.Mathlib.Omega.{arith}
use lib.ListN.{length, length-append}
use Rattle.bundle.specs.Lists.{concat_map}
use Rattle.bundle.specs.Chunks.{Placed, Chunk, fresh, after_command, chunks_of, commands_of}
use Rattle.bundle.specs.Walk.{opens_segment, adds_access, Entry, entries_from, entries_of}
use Rattle.bundle.specs.Scan.{start}
use Rattle.bundle.specs.Index.{total, log_of}
use Rattle.bundle.specs.Check.{Accepted}
use Rattle.bundle.specs.declared.chunk.ChunkState.{ChunkState}
use Rattle.bundle.specs.declared.command.Command.{Command}
use Rattle.bundle.specs.declared.command.Command.TheVariants as Com
use Rattle.bundle.proofs.Delimiters.{Accessing, accesses_some, accesses_none, accessings, on-no-access}
use Rattle.bundle.proofs.WalkLaws.{chunks-total, accepted-room}
use Rattle.verdict.specs.Accesses.{access_at, accesses_in, accesses_of}

access-one : (t m : ℕ) (e : Entry) → length (access_at t m e) ≡ adds_access e.command
access-one t m e = go e.command (accessings e.command)
  where
    at : Command → Entry
    at c = record { at = e.at; command = c; state = e.state; segment = e.segment; accesses = e.accesses }

    go : (c : Command) → Accessing c → length (access_at t m (at c)) ≡ adds_access c
    go c (accesses_some a) = unfold access_at adds_access in refl
    go c (accesses_none h) =
        let none : access_at t m (at c) ≡ [] = unfold access_at in (on-no-access [] _ c h) in
        let zero : adds_access c ≡ 0 = unfold adds_access in (on-no-access {A = ℕ} 0 (λ a. 1) c h) in
        rw (none, zero)

entries-accesses :
    (t m : ℕ) (k : ChunkState) (g n : ℕ) (ps : List Placed)
    → length (concat_map (access_at t m) (entries_from k g n ps)) ≡ total adds_access (map (λ (p : Placed). p.command) ps)
unfolding entries_from total
entries-accesses t m k g n [] = refl
entries-accesses t m k g n (p ∷ ps) =
    let c = p.command in
    let e : Entry = record { at = p.at; command = c; state = k; segment = g; accesses = n } in
    let es = entries_from (after_command k c) (g + opens_segment c) (n + adds_access c) ps in
    let one = access-one t m e in
    let ih = entries-accesses t m (after_command k c) (g + opens_segment c) (n + adds_access c) ps in
    length-append (access_at t m e) (concat_map (access_at t m) es) ∙ omega arith

pub chunk-accesses : (c : Chunk) → length (accesses_in c) ≡ total adds_access (log_of c)
unfolding accesses_in entries_of log_of commands_of total
chunk-accesses c =
    let none : adds_access (Com.Member c.team c.member) ≡ 0 = unfold adds_access in refl in
    let count = entries-accesses c.team c.member fresh 0 0 c.body in
    omega arith

pub few-accesses : (s : List ℕ) → Accepted s → length (accesses_of (chunks_of s)) ≤ 1024
unfolding accesses_of
few-accesses s a =
    let count = chunks-total accesses_in adds_access chunk-accesses (chunks_of s) in
    let room : start.accesses + total adds_access (concat_map log_of (chunks_of s)) ≤ 1024 = (accepted-room s a).accesses in
    omega arith
