-- Copying pieces one after another over the front of a buffer.
use Prim.Native.Nat.{ℕ, ◌+◌, ◌%◌, ◌≤◌, ◌<◌}
use mathlib.Core.Path.{◌≡◌, refl, sym, ◌∙◌, ap}
use mathlib.Core.List.{List, [], ◌∷◌, ◌++◌, map, map-append, append_assoc, append-nil}
use native.Mathlib.Omega.{arith}
use native.Mathlib.Nat.{zero-add}
use native.Mathlib.Numerals.{add-one}
use lib.ListN.{length, get_or, take, drop, length-append, take-append-drop}
use lib.Seq.{take-suc, take_all, take-append_seam, drop-append-add, drop-drop}
use Rattle.bundle.specs.Lists.{back_to_back}
use Rattle.bundle.specs.Commands.{written}
use Rattle.bundle.specs.Index.{chunk_row_at}
use Rattle.bundle.specs.declared.index.ChunkRow.{ChunkRow}
use Rattle.rewrite.specs.Words.{row_part, piece_at, pieces, RowFits, PiecesFit}

-- bytes over the front of a buffer, and further bytes behind them
pub written-front : (buffer bytes : List ℕ) → written buffer 0 bytes ≡ bytes ++ drop (length bytes) buffer
unfolding written
written-front buffer bytes = rw (zero-add (length bytes))

pub written_on : (buffer p q : List ℕ) → written (written buffer 0 p) (length p) q ≡ written buffer 0 (p ++ q)
written_on buffer p q =
    rw (written-front buffer p, written-front buffer (p ++ q), length-append p q)
    (unfold written in
    (rw (take-append_seam p (drop (length p) buffer), drop-append-add p (drop (length p) buffer) (length q), drop-drop (length q) (length p) buffer)))

back-to-back-append : (xss yss : List (List ℕ)) → back_to_back (xss ++ yss) ≡ back_to_back xss ++ back_to_back yss
back-to-back-append [] yss = refl
back-to-back-append (xs ∷ xss) yss = rw (back-to-back-append xss yss) (sym (append_assoc xs (back_to_back xss) (back_to_back yss)))

module _ (s chunks : List ℕ) where
  pieces-append : (vs ws : List ℕ) → pieces s chunks (vs ++ ws) ≡ pieces s chunks vs ++ pieces s chunks ws
  unfolding pieces
  pieces-append vs ws =
      rw (map-append (piece_at s chunks) vs ws) (back-to-back-append (map (piece_at s chunks) vs) (map (piece_at s chunks) ws))

  -- what the first i words have put into the buffer
  pub record CopiedTo (words old : List ℕ) (i position : ℕ) (new : List ℕ) : Type 0 where
    pub within : i ≤ length words
    pub long : length new ≡ length old
    pub at : position ≡ length (pieces s chunks (take i words))
    pub bytes : new ≡ written old 0 (pieces s chunks (take i words))

  pub copied_none : (words old : List ℕ) → CopiedTo words old 0 0 old
  copied_none words old =
      record {
        within = omega arith;
        long = refl;
        at = unfold pieces in refl;
        bytes = unfold pieces in (sym (written-front old []));
      }

  module _ (words old : List ℕ) (fit : PiecesFit s chunks words (length old)) where
    module _ {i position : ℕ} {new : List ℕ} (c : CopiedTo words old i position new) (more : i < length words) {row : ChunkRow}
        (is : row ≡ chunk_row_at chunks (get_or words i 0 % 65536)) where
      pub row_fits : RowFits s row
      row_fits = rw is (fit.each i more)

      further : pieces s chunks (take (i + 1) words) ≡ pieces s chunks (take i words) ++ row_part s row
      further =
          rw (add-one, take-suc words i 0 more, pieces-append (take i words) (get_or words i 0 ∷ []), is)
          (unfold pieces piece_at in (ap (λ (l : List ℕ). back_to_back (map (piece_at s chunks) (take i words)) ++ l) (append-nil _)))

      whole : length (pieces s chunks words) ≡ position + length (row_part s row) + length (pieces s chunks (drop (i + 1) words))
      whole =
          ap (λ (ws : List ℕ). length (pieces s chunks ws)) (sym (take-append-drop (i + 1) words))
          ∙ rw (pieces-append (take (i + 1) words) (drop (i + 1) words), further, length-append, length-append, ← c.at)

      pub piece-fits : position + length (row_part s row) ≤ length new
      piece-fits = omega (arith, whole, fit.all, c.long)

      pub copied_more :
          {after : List ℕ} {next : ℕ}
          → next ≡ position + length (row_part s row)
          → length after ≡ length new
          → after ≡ written new position (row_part s row)
          → CopiedTo words old (i + 1) next after
      copied_more {after} {next} n l e =
          record {
            within = omega arith;
            long = l ∙ c.long;
            at = n ∙ rw (further, length-append, c.at);
            bytes = e ∙ rw (c.bytes, c.at, further) (written_on old (pieces s chunks (take i words)) (row_part s row));
          }

    pub copied_all : {i position : ℕ} {new : List ℕ} → CopiedTo words old i position new → length words ≤ i → new ≡ written old 0 (pieces s chunks words)
    copied_all {i} c h = c.bytes ∙ ap (λ (ws : List ℕ). written old 0 (pieces s chunks ws)) (take_all i words h)
