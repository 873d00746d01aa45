-- Chunks: the state while a chunk is read, the commands of a bundle with their offsets, and its chunks.
use Rattle.std.specs.Prelude.{ℕ, zero, suc, ◌+◌, ◌-◌, Bool, true, false, cond, ◌&&◌, List, [], ◌∷◌, map, length, take, drop, eqb, leb}
use Rattle.std.proofs.Math.Option.{Option}
use Rattle.bundle.specs.Answer.{Answer, gives, refuses}
use Rattle.bundle.specs.Lists.{first, any}
use Rattle.bundle.specs.Locks.{acquired, released}
use Rattle.bundle.specs.Commands.{Taken, decode_at, bytes_of}
use Rattle.bundle.specs.Cases.{on_delimiter, on_end}
use Rattle.bundle.specs.declared.chunk.ChunkState.{ChunkState}
use Rattle.bundle.specs.declared.command.Command.{Command}
use Rattle.bundle.specs.declared.command.Command.TheVariants as Com

-- "While a chunk is read, its state is the barriers passed, the regions joined and the locks held. A member starts with no locks"
unfoldable pub fresh : ChunkState
fresh = record { barriers = 0; regions = 0; locks = 0 }

unfoldable pub after_barrier : ChunkState → ChunkState
after_barrier k = record { barriers = k.barriers + 1; regions = k.regions; locks = k.locks }

unfoldable pub after_join : ChunkState → ChunkState
after_join k = record { barriers = k.barriers; regions = k.regions + 1; locks = k.locks }

unfoldable pub after_acquire : ℕ → ChunkState → ChunkState
after_acquire lock k = record { barriers = k.barriers; regions = k.regions; locks = acquired lock k.locks }

unfoldable pub after_release : ℕ → ChunkState → ChunkState
after_release lock k = record { barriers = k.barriers; regions = k.regions; locks = released lock k.locks }

unfoldable pub after_command : ChunkState → Command → ChunkState
after_command k (Com.Member t m) = k
after_command k Com.End = k
after_command k (Com.Region t z) = after_join k
after_command k Com.Barrier = after_barrier k
after_command k (Com.Acquire l) = after_acquire l k
after_command k (Com.Release l) = after_release l k
after_command k (Com.Access a) = k
after_command k Com.Cut = k

unfoldable pub after_commands : ChunkState → List Command → ChunkState
after_commands k [] = k
after_commands k (c ∷ cs) = after_commands (after_command k c) cs

-- a command and its offset in the bundle
pub record Placed : Type 0 where
  pub at : ℕ
  pub command : Command

-- the bundle's commands front to back, their operands of any value, and how that ended: at the bundle's end, or at a command
-- that cannot be read (2 or 3)
pub record Front : Type 0 where
  pub placed : List Placed
  pub stop : Answer ℕ

unfoldable pub follow : (ℕ → Front) → ℕ → Answer Taken → Front
follow rest at (gives t) =
    let r = rest t.next in
    record { placed = record { at = at; command = t.command } ∷ r.placed; stop = r.stop }
follow rest at (refuses n p) = record { placed = []; stop = refuses n p }

unfoldable pub front_from : ℕ → List ℕ → ℕ → Front
front_from zero s at = record { placed = []; stop = gives at }
front_from (suc fuel) s at =
    cond (leb (length s) at)
    (record { placed = []; stop = gives at })
    (follow (front_from fuel s) at (decode_at s at))

-- each command has a byte at least, so the length is fuel enough
unfoldable pub front_of : List ℕ → Front
front_of s = front_from (length s) s 0

-- "MEMBER opens a chunk, the whole log of one team member; END closes the chunk", or CUT in its place: its offset, the commands after
-- MEMBER up to END or CUT, and the offset after that
pub record Chunk : Type 0 where
  pub place : ℕ
  pub team : ℕ
  pub member : ℕ
  pub body : List Placed
  pub past : ℕ

-- from the back: the commands and end of the chunk that stands open in front, and the chunks behind it
pub record Gathered : Type 0 where
  pub body : List Placed
  pub past : ℕ
  pub chunks : List Chunk

unfoldable pub gather_one : Placed → Gathered → Gathered
gather_one p g =
    on_delimiter
    (record { body = p ∷ g.body; past = g.past; chunks = g.chunks })
    (λ t m.
    record {
      body = [];
      past = 0;
      chunks = record { place = p.at; team = t; member = m; body = g.body; past = g.past } ∷ g.chunks;
    })
    (record { body = p ∷ []; past = p.at + length (bytes_of p.command); chunks = g.chunks })
    p.command

unfoldable pub gather : List Placed → Gathered
gather [] = record { body = []; past = 0; chunks = [] }
gather (p ∷ ps) = gather_one p (gather ps)

unfoldable pub chunks_of : List ℕ → List Chunk
chunks_of s = (gather (front_of s).placed).chunks

-- the chunk's commands after MEMBER
unfoldable pub commands_of : Chunk → List Command
commands_of c = map (λ (p : Placed). p.command) c.body

-- "complete": closed by END, not by CUT
unfoldable pub is_end : Command → Bool
is_end = on_end false true

unfoldable pub complete : Chunk → Bool
complete c = any is_end (commands_of c)

-- that part of the bundle, MEMBER to END or CUT
unfoldable pub part_of : List ℕ → Chunk → List ℕ
part_of s c = take (c.past - c.place) (drop c.place s)

-- the chunk of a member of a team
unfoldable pub is_of : ℕ → ℕ → Chunk → Bool
is_of t m c = eqb c.team t && eqb c.member m

unfoldable pub chunk_of : List Chunk → ℕ → ℕ → Option Chunk
chunk_of cs t m = first (is_of t m) cs
