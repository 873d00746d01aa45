-- The walk over a chunk: its commands, each with where it stands, and what is read off them: its segments, REGIONs and barriers.
use Rattle.std.specs.Prelude.{ℕ, ◌+◌, List, [], ◌∷◌, map}
use Rattle.bundle.specs.Lists.{concat_map}
use Rattle.bundle.specs.Cases.{on_opening, on_region, on_access}
use Rattle.bundle.specs.Chunks.{Placed, Chunk, fresh, after_command, after_commands, commands_of}
use Rattle.bundle.specs.declared.chunk.ChunkState.{ChunkState}
use Rattle.bundle.specs.declared.command.Command.{Command}
use Rattle.bundle.specs.declared.index.Fork.{Fork}

-- what opens or ends a segment: the chunk's own MEMBER, and its END or CUT; the barrier of a number, counted from 0 in the chunk; the REGION that
-- forks a team
pub data Border : Type 0 where
  of_chunk : Border
  of_barrier : ℕ → Border
  of_region : ℕ → Border

-- the border at which a command opens a segment, if it opens one
unfoldable pub borders : ChunkState → Command → List Border
borders k = on_opening [] (of_chunk ∷ []) (λ t. of_region t ∷ []) (of_barrier k.barriers ∷ [])

-- how many segments and accesses a command adds
unfoldable pub opens_segment : Command → ℕ
opens_segment = on_opening 0 1 (λ t. 1) 1

unfoldable pub adds_access : Command → ℕ
adds_access = on_access 0 (λ a. 1)

-- a command of a chunk after MEMBER: its offset, the chunk's state before it, the number of the segment that it stands in, and the
-- number of accesses before it in the chunk
pub record Entry : Type 0 where
  pub at : ℕ
  pub command : Command
  pub state : ChunkState
  pub segment : ℕ
  pub accesses : ℕ

unfoldable pub entries_from : ChunkState → ℕ → ℕ → List Placed → List Entry
entries_from k g n [] = []
entries_from k g n (p ∷ ps) =
    record { at = p.at; command = p.command; state = k; segment = g; accesses = n }
    ∷ entries_from (after_command k p.command) (g + opens_segment p.command) (n + adds_access p.command) ps

-- MEMBER opens segment 0
unfoldable pub entries_of : Chunk → List Entry
entries_of c = entries_from fresh 0 0 c.body

-- the barriers that a chunk passes
unfoldable pub barriers_of : Chunk → ℕ
barriers_of c = (after_commands fresh (commands_of c)).barriers

-- a REGION: its offset, the team that it forks and that team's size, the team and member that fork it, and the state before it
unfoldable pub fork_at : ℕ → ℕ → Entry → List Fork
fork_at t m e =
    on_region [] (λ u z. record { place = e.at; team = u; size = z; parent = t; member = m; state = e.state } ∷ []) e.command

unfoldable pub forks_in : Chunk → List Fork
forks_in c = concat_map (fork_at c.team c.member) (entries_of c)

-- the bundle's REGIONs in the order of the bytes
unfoldable pub forks_of : List Chunk → List Fork
forks_of cs = concat_map forks_in cs

-- a segment by its chunk's team and member and its number in the chunk
pub record Node : Type 0 where
  pub team : ℕ
  pub member : ℕ
  pub number : ℕ

-- a segment: what opens it, the chunk's state there, and what ends it
pub record Segment : Type 0 where
  pub node : Node
  pub opened : Border
  pub state : ChunkState
  pub ended : Border

-- where a segment is opened: the border, and the state after it
pub record Opening : Type 0 where
  pub border : Border
  pub state : ChunkState

unfoldable pub opening_at : Entry → List Opening
opening_at e = map (λ b. record { border = b; state = after_command e.state e.command }) (borders e.state e.command)

-- "numbered from 0 in the chunk": each segment ends where the next is opened, the last with the chunk
unfoldable pub segments_from : ℕ → ℕ → ℕ → Opening → List Opening → List Segment
segments_from t m n o [] =
    record { node = record { team = t; member = m; number = n }; opened = o.border; state = o.state; ended = of_chunk } ∷ []
segments_from t m n o (p ∷ ps) =
    record { node = record { team = t; member = m; number = n }; opened = o.border; state = o.state; ended = p.border }
    ∷ segments_from t m (n + 1) p ps

unfoldable pub segments_in : Chunk → List Segment
segments_in c =
    segments_from c.team c.member 0 (record { border = of_chunk; state = fresh }) (concat_map opening_at (entries_of c))

unfoldable pub segments_of : List Chunk → List Segment
segments_of cs = concat_map segments_in cs
