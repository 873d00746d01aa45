-- Chunks that are cut: what each keeps of the chunk that it was.
use mathlib.Core.Path.{◌≡◌}
use mathlib.Core.Bool.{true, false}
use mathlib.Core.List.{List, [], ◌∷◌, ◌++◌, Memᴰ}
use Rattle.bundle.specs.Chunks.{Chunk, commands_of}
use Rattle.bundle.specs.declared.command.Command.{Command}
use Rattle.bundle.proofs.Delimiters.{closes, forking}

-- the chunk d has the first commands of the chunk c and one that closes it; the others are lost, no REGION among them. A chunk that stays
-- whole loses what closes it and has it again
pub record Shortened (c d : Chunk) : Type 0 where
  pub team : d.team ≡ c.team
  pub member : d.member ≡ c.member
  pub kept : List Command
  pub lost : List Command
  pub last : Command
  pub before : commands_of c ≡ kept ++ lost
  pub after : commands_of d ≡ kept ++ (last ∷ [])
  pub closing : closes last ≡ true
  pub no_region : (e : Command) → Memᴰ e lost → forking e ≡ false

-- chunk by chunk
pub data EachShortened : List Chunk → List Chunk → Type 0 where
  none : EachShortened [] []
  more : {c d : Chunk} {cs ds : List Chunk} → Shortened c d → EachShortened cs ds → EachShortened (c ∷ cs) (d ∷ ds)
