-- Cutting chunks of a bundle at the ends of commands, with no REGION lost (A.4).
use Rattle.std.specs.Prelude.{ℕ, ◌≡◌, Bool, true, false, List, [], ◌∷◌, ◌++◌}
use Rattle.bundle.specs.Lists.{any, back_to_back, concat_map}
use Rattle.bundle.specs.Commands.{bytes_of}
use Rattle.bundle.specs.Cases.{on_region}
use Rattle.bundle.specs.Chunks.{Chunk, chunks_of, commands_of, part_of}
use Rattle.bundle.specs.declared.command.Command.{Command}
use Rattle.bundle.specs.declared.command.Command.TheVariants as Com

unfoldable pub is_region : Command → Bool
is_region = on_region false (λ t z. true)

-- the bytes of MEMBER and these commands
unfoldable pub log_bytes : ℕ → ℕ → List Command → List ℕ
log_bytes t m cs = bytes_of (Com.Member t m) ++ concat_map bytes_of cs

-- what becomes of a chunk of the bundle b: it stays whole, or it is cut "at command ends, with no REGION lost": CUT stands in place of the
-- commands that are lost, of which the one that closed the chunk is the last
pub data CutTo (b : List ℕ) (c : Chunk) : List ℕ → Type 0 where
  whole : CutTo b c (part_of b c)
  cut :
      (kept lost : List Command)
      → commands_of c ≡ kept ++ lost
      → (lost ≡ [] → ⊥)
      → any is_region lost ≡ false
      → CutTo b c (log_bytes c.team c.member (kept ++ (Com.Cut ∷ [])))

pub data CutEach (b : List ℕ) : List Chunk → List (List ℕ) → Type 0 where
  none : CutEach b [] []
  more : {c : Chunk} {cs : List Chunk} {part : List ℕ} {parts : List (List ℕ)} → CutTo b c part → CutEach b cs parts → CutEach b (c ∷ cs) (part ∷ parts)

-- the bundle c is the bundle b with chunks cut
pub record Cutting (b c : List ℕ) : Type 0 where
  pub parts : List (List ℕ)
  pub each : CutEach b (chunks_of b) parts
  pub back-to-back : c ≡ back_to_back parts
