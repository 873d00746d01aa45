-- Chunks without their offsets: what of a bundle stays when its chunks stand in another order.
use Prim.Native.Nat.{ℕ, ◌+◌}
use mathlib.Core.Path.{◌≡◌, refl, ap}
use mathlib.Core.List.{List, [], ◌∷◌, map}
use Rattle.bundle.specs.Chunks.{Placed, Chunk, fresh, after_command, commands_of}
use Rattle.bundle.specs.Walk.{opens_segment, adds_access, Entry, entries_from, entries_of}
use Rattle.bundle.specs.declared.chunk.ChunkState.{ChunkState}
use Rattle.bundle.specs.declared.command.Command.{Command}

unfoldable pub unplaced_command : Placed → Placed
unplaced_command p = record { at = 0; command = p.command }

unfoldable pub unplaced : Chunk → Chunk
unplaced c =
    record { place = 0; team = c.team; member = c.member; body = map unplaced_command c.body; past = 0 }

-- team and member, by which a chunk is known
unfoldable pub member_key : Chunk → List ℕ
member_key c = c.team ∷ c.member ∷ []

bare : (ps : List Placed) → map (λ (p : Placed). p.command) (map unplaced_command ps) ≡ map (λ (p : Placed). p.command) ps
unfolding unplaced_command
bare [] = refl
bare (p ∷ ps) = ap (λ (cs : List Command). p.command ∷ cs) (bare ps)

pub commands_of-unplaced : (c : Chunk) → commands_of (unplaced c) ≡ commands_of c
unfolding commands_of unplaced
commands_of-unplaced c = bare c.body

-- the walk over a chunk, without offsets
unfoldable pub unplaced_entry : Entry → Entry
unplaced_entry e = record { at = 0; command = e.command; state = e.state; segment = e.segment; accesses = e.accesses }

entries-from-unplaced :
    (k : ChunkState) (g n : ℕ) (ps : List Placed) → entries_from k g n (map unplaced_command ps) ≡ map unplaced_entry (entries_from k g n ps)
unfolding entries_from unplaced_command unplaced_entry
entries-from-unplaced k g n [] = refl
entries-from-unplaced k g n (p ∷ ps) =
    ap (λ (es : List Entry). record { at = 0; command = p.command; state = k; segment = g; accesses = n } ∷ es)
    (entries-from-unplaced (after_command k p.command) (g + opens_segment p.command) (n + adds_access p.command) ps)

pub entries-unplaced : (c : Chunk) → entries_of (unplaced c) ≡ map unplaced_entry (entries_of c)
unfolding entries_of unplaced
entries-unplaced c = entries-from-unplaced fresh 0 0 c.body
