-- The text of an access in 32 bytes, and a text put at a rank of a table. Assumes nothing.
use mathlib.Core.Path.{◌≡◌, refl, sym, ap, ◌∙◌}
use mathlib.Core.List.{List, [], ◌∷◌, ◌++◌, map, append_assoc, append-nil}
use Prim.Native.Nat.{ℕ, zero, suc, ◌+◌, ◌-◌, ◌%◌, ◌≤◌, ◌<◌, max}
use native.Mathlib.Decide.{dec_lt}
use native.Mathlib.Nat.{mod-eq_of_lt, sub_self}
use native.Mathlib.Omega.{arith}
use lib.ListN.{length, get_or, set, take, drop, replicate, length-append, length-drop, length-take, length-set}
use lib.Seq.{take-append_seam, get_or-set_same, get_or-take, take-set-le, take-set-lt}
use Rattle.std.proofs.lemmas.List.{get_or-map, get_or-set_other, get_or-replicate, get_or_append_left, get_or-append_right, get_or_past, length-map, length-replicate, map-set, map-append, take_more_set, replicate_more}
use Rattle.verdict.specs.declared.race.Race.{Race}
use Rattle.text.specs.Digits.{ascii, decimal, hexadecimal}
use Rattle.text.specs.Lines.{line_end, name_text, race_line}
use Rattle.text.specs.Inner.{access_text}
use Rattle.text.specs.Sides.{side_text, with_side, sides_line}

pub side-made : {front : List ℕ} (text zeros : List ℕ) → length zeros ≡ 32 → length text ≤ 31 → front ≡ text
    → side_text (set (front ++ drop (length text) zeros) 31 (length text)) ≡ text
unfolding side_text
side-made {front} text zeros whole short e =
    let bytes = front ++ drop (length text) zeros in
    let size = get_or-set_same bytes 31 (length text) 0 (omega (arith, length-append front (drop (length text) zeros), length-drop (length text) zeros, ap length e)) in
    ap (λ (n : ℕ). take n (set bytes 31 (length text))) (ap (λ (n : ℕ). n % 32) size ∙ mod-eq_of_lt (omega arith))
    ∙ take-set-le (length text) bytes 31 (length text) short
    ∙ ap (λ (l : List ℕ). take (length text) (l ++ drop (length text) zeros)) e
    ∙ take-append_seam text (drop (length text) zeros)

-- the text of a rank, by the table's first rows
pub side-there : (rows texts : List (List ℕ)) (count rank : ℕ) → map side_text (take count rows) ≡ texts → rank < count → count ≤ length rows
    → side_text (get_or rows rank []) ≡ get_or texts rank []
side-there rows texts count rank e h l =
    sym
    (rw (← e)
    (get_or-map side_text (take count rows) rank [] [] (omega (arith, length-take count rows))
    ∙ ap side_text (get_or-take count rows rank [] h)))

-- the text of a row of zeros is empty
no-texts : (k : ℕ) → map side_text (replicate k (replicate 32 0)) ≡ replicate k []
unfolding side_text
no-texts zero = refl
no-texts (suc k) = ap (λ (l : List (List ℕ)). [] ∷ l) (no-texts k)

-- rows made zeros after the first ones, one after another
pub none-cleared : (rows : List (List ℕ)) (count : ℕ) → take count rows ≡ take count rows ++ replicate (count - count) (replicate 32 0)
none-cleared rows count = rw (sub_self count) (sym (append-nil (take count rows)))

pub cleared_more :
    (rows cleared : List (List ℕ)) (count at : ℕ)
    → count ≤ at
    → at < length cleared
    → take at cleared ≡ take count rows ++ replicate (at - count) (replicate 32 0)
    → take (at + 1) (set cleared at (replicate 32 0)) ≡ take count rows ++ replicate (at + 1 - count) (replicate 32 0)
cleared_more rows cleared count at h l e =
    let more : at + 1 - count ≡ at - count + 1 = omega (arith, h) in
    rw (more, ← replicate_more (at - count) (replicate {A = ℕ} 32 0), take_more_set cleared at (replicate 32 0) l, e)
    (append_assoc (take count rows) (replicate (at - count) (replicate 32 0)) (replicate 32 0 ∷ []))

-- a text put at a rank, once the rows up to it that have none are zeros
pub side-put :
    (rows cleared texts : List (List ℕ)) (side text : List ℕ) (count all rank : ℕ)
    → map side_text (take count rows) ≡ texts
    → count ≤ length rows
    → take all cleared ≡ take count rows ++ replicate (all - count) (replicate 32 0)
    → rank < all
    → all - count ≡ rank + 1 - count
    → side_text side ≡ text
    → map side_text (take all (set cleared rank side)) ≡ with_side texts rank text
unfolding with_side
side-put rows cleared texts side text count all rank e whole front below lack made =
    let long : length texts ≡ count = omega (arith, whole, ap length e, length-map (take count rows) side_text, length-take count rows) in
    rw (
      long,
      ← lack,
      take-set-lt all cleared rank side below,
      front,
      map-set side_text (take count rows ++ replicate (all - count) (replicate 32 0)) rank side,
      map-append side_text (take count rows) (replicate (all - count) (replicate 32 0)),
      e,
      no-texts (all - count),
      made,
    )

-- what a table with a text put at a rank holds: that text there, at any other rank what it held, and no more ranks than that takes
module _ (texts : List (List ℕ)) (rank : ℕ) (text : List ℕ) where
  abbrev lacking : List (List ℕ)
  lacking = replicate (rank + 1 - length texts) []

  reaches : length (texts ++ lacking) ≡ max (length texts) (rank + 1)
  reaches = omega (arith, length-append texts lacking, length-replicate {A = List ℕ} (rank + 1 - length texts) [])

  pub side-long : length (with_side texts rank text) ≡ max (length texts) (rank + 1)
  unfolding with_side
  side-long = length-set (texts ++ lacking) rank text ∙ reaches

  pub side-at : get_or (with_side texts rank text) rank [] ≡ text
  unfolding with_side
  side-at = get_or-set_same (texts ++ lacking) rank text [] (omega (arith, reaches))

  -- the empty text, at any rank of those that were lacking and past them
  none : (k i : ℕ) → get_or {A = List ℕ} (replicate k []) i [] ≡ []
  none k i = go (dec_lt i k)
    where
      go : Dec (i < k) → get_or {A = List ℕ} (replicate k []) i [] ≡ []
      go (yes h) = get_or-replicate k i [] [] h
      go (no h) = get_or_past (replicate k []) i [] (omega (arith, length-replicate {A = List ℕ} k []))

  pub side-kept : (i : ℕ) → (i ≡ rank → ⊥) → get_or (with_side texts rank text) i [] ≡ get_or texts i []
  unfolding with_side
  side-kept i other = get_or-set_other (texts ++ lacking) rank i text [] other ∙ go (dec_lt i (length texts))
    where
      go : Dec (i < length texts) → get_or (texts ++ lacking) i [] ≡ get_or texts i []
      go (yes h) = get_or_append_left texts lacking [] i h
      go (no h) =
          get_or-append_right texts lacking (length texts) i [] refl (omega arith)
          ∙ none (rank + 1 - length texts) (i - length texts)
          ∙ sym (get_or_past texts i [] (omega arith))

-- a race's line by the texts of its accesses
regroup : (w h g a x b y e : List ℕ) → w ++ h ++ g ++ a ++ g ++ x ++ g ++ b ++ g ++ y ++ e ≡ w ++ h ++ (g ++ a ++ g ++ x) ++ (g ++ b ++ g ++ y) ++ e
regroup w h g a x b y e = simp append_assoc

pub race-sides : (r : Race) → race_line r ≡ sides_line r.witness (access_text r.first r.first_site) (access_text r.second r.second_site)
unfolding access_text race_line sides_line
race-sides r =
    regroup (ascii "race ") (hexadecimal r.witness) (ascii " ") (name_text r.first) (decimal r.first_site) (name_text r.second)
    (decimal r.second_site) line_end
