-- What rewriting is for, as one statement about accepted bundles.
use Rattle.std.specs.Prelude.{ℕ, ◌≤◌, ◌<◌, ◌≡◌, ◌↔◌, true, length, drop}
use mathlib.Core.List.{List, [], ◌∷◌, ◌++◌, map, Memᴰ, Permᴰ}
use Rattle.bundle.specs.Answer.{gives, refuses}
use Rattle.bundle.specs.Commands.{Bytes}
use Rattle.bundle.specs.Chunks.{chunks_of, part_of}
use Rattle.bundle.specs.Check.{Accepted, Reordered}
use Rattle.verdict.specs.Accesses.{lex_less}
use Rattle.verdict.specs.Demand.{Judged}
use Rattle.rewrite.specs.Rewriting.{chunk_name, rewritten, rewrite_of}

-- the bytes of each chunk of a bundle, MEMBER to END or CUT
unfoldable pub chunk_bytes : List ℕ → List (List ℕ)
chunk_bytes b = map (part_of b) (chunks_of b)

-- "they hold the same chunks"
abbrev pub SameChunkBytes : List ℕ → List ℕ → Type 0
SameChunkBytes b c = Permᴰ (chunk_bytes b) (chunk_bytes c)

-- each key is below all that follow it
pub data Ascending : List (List ℕ) → Type 0 where
  none : Ascending []
  more : {k : List ℕ} {ks : List (List ℕ)} → ((l : List ℕ) → Memᴰ l ks → lex_less k l ≡ true) → Ascending ks → Ascending (k ∷ ks)

-- what rewriting an accepted bundle b does
pub record Rewrites (b : List ℕ) : Type 0 where
  -- the result has the bundle's chunks in some order, "by team, then member", and is as long; it is accepted and judged the same
  pub in_some_order : Reordered b (rewritten b)
  pub by_name : Ascending (map chunk_name in_some_order.order)
  pub as_long : length (rewritten b) ≡ length b
  pub accepted_too : Accepted (rewritten b)
  pub judged_same : (v w : List ℕ) → 16384 ≤ length v → 16384 ≤ length w → Judged b (rewritten b) v w
  -- it fills the front of every buffer that is long enough, and the others are refused
  pub fills :
      (buffer : List ℕ)
      → length b ≤ length buffer
      → rewrite_of b buffer ≡ record { answer = gives (length b); buffer = rewritten b ++ drop (length b) buffer }
  pub short : (buffer : List ℕ) → length buffer < length b → rewrite_of b buffer ≡ record { answer = refuses 17 0; buffer = buffer }
  -- "Two accepted bundles come out as equal bytes exactly when they hold the same chunks"
  pub equal_exactly : (c : List ℕ) → Bytes c → Accepted c → (rewritten b ≡ rewritten c) ↔ SameChunkBytes b c
  -- "Rewriting twice changes nothing further"
  pub again : rewritten (rewritten b) ≡ rewritten b
  pub again_filled : (buffer : List ℕ) → rewrite_of (rewritten b) buffer ≡ rewrite_of b buffer

abbrev pub FixedOrder : Type 0
FixedOrder = (b : List ℕ) → Bytes b → Accepted b → Rewrites b
