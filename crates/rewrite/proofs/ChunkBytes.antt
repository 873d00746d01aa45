-- The bytes of a bundle's chunks: they tell team and member, and a bundle in another order has the same.
use Prim.Native.Nat.{ℕ, ◌<◌}
use mathlib.Core.Path.{◌≡◌, refl, sym, ◌∙◌, ap, subst}
use mathlib.Core.Bool.{true}
use mathlib.Core.List.Permᴰ
use mathlib.Core.List.{List, [], ◌∷◌, map, map-map, Memᴰ, Permᴰ}
use mathlib.Core.Option.{some}
use native.Mathlib.Omega.{arith}
use lib.ListN.{length, get_or}
use Rattle.bundle.specs.Answer.{Answer, gives, refuses}
use Rattle.bundle.specs.Lists.{back_to_back, concat_map}
use Rattle.bundle.specs.Commands.{Bytes, bytes_of, in_range, decode_at}
use Rattle.bundle.specs.declared.command.Taken.{Taken}
use Rattle.bundle.specs.Cases.{on_delimiter}
use Rattle.bundle.specs.Chunks.{Chunk, chunks_of, commands_of, part_of}
use Rattle.bundle.specs.Scan.{start}
use Rattle.bundle.specs.Check.{Accepted, Reordered}
use Rattle.bundle.specs.declared.command.Command.{Command}
use Rattle.bundle.specs.declared.command.Command.TheVariants as Com
use Rattle.bundle.proofs.ListLaws.{perm-mem, perm-map, perm-length, perm-concat_map, concat_map-intro, Distinct}
use Rattle.bundle.proofs.Places.{unplaced, member_key, commands_of-unplaced}
use Rattle.bundle.proofs.Gathering.{log_of}
use Rattle.bundle.proofs.Printing.{printed, decode-printed}
use Rattle.bundle.proofs.Reorder.{known, orderly-range, part-printed, back-to-back, reordered, distinct-members}
use Rattle.verdict.proofs.ListPlaces.{at_mem, mem-at, at_below, at-get_d}
use Rattle.rewrite.specs.Rewriting.{chunk_name}
use Rattle.rewrite.specs.FixedOrder.{chunk_bytes, SameChunkBytes}

module _ {A B : Type 0} where
  pub map_same : (f g : A → B) (xs : List A) → ((x : A) → Memᴰ x xs → f x ≡ g x) → map f xs ≡ map g xs
  map_same f g [] h = refl
  map_same f g (x ∷ xs) h = rw (h x (Memᴰ.head refl), map_same f g xs (λ y m. h y (Memᴰ.tail m)))

  back-to-back-map : (f : A → List B) (xs : List A) → back_to_back (map f xs) ≡ concat_map f xs
  back-to-back-map f [] = refl
  back-to-back-map f (x ∷ xs) = rw (back-to-back-map f xs)

-- bytes, by their members
bytes-mem : {s : List ℕ} {x : ℕ} → Bytes s → Memᴰ x s → x < 256
bytes-mem {s} {x} bytes m =
    let a = mem-at m in
    let h = at_below s a.0 a.1 in
    is (get_or s a.0 0) (bytes a.0 h) (sym (at-get_d s a.0 0 h) ∙ a.1)
  where
    is : (y : ℕ) → y < 256 → some y ≡ some x → x < 256
    is y l e = let q : y ≡ x = cc in omega arith

mem_bytes : (s : List ℕ) → ((x : ℕ) → Memᴰ x s → x < 256) → Bytes s
mem_bytes s h i l = h (get_or s i 0) (at_mem s i (at-get_d s i 0 l))

-- team and member as the first command of a chunk's bytes tells them
abbrev name_in : Answer Taken → List ℕ
name_in (gives t) = on_delimiter [] (λ team member. team ∷ member ∷ []) [] t.command
name_in (refuses n p) = []

unfoldable pub part_name : List ℕ → List ℕ
part_name part = name_in (decode_at part 0)

module _ (b : List ℕ) (bytes : Bytes b) (ok : Accepted b) where
  pub part-name : (c : Chunk) → Memᴰ c (chunks_of b) → part_name (part_of b c) ≡ chunk_name c
  unfolding part_name chunk_name
  part-name c m =
      ap (λ (s : List ℕ). name_in (decode_at s 0)) (part-printed b bytes ok c m)
      ∙ unfold log_of printed in
      (ap name_in (decode-printed [] (concat_map bytes_of (commands_of c)) first in-range))
    where
      first : Command
      first = Com.Member c.team c.member

      in-range : in_range first ≡ true
      in-range =
          orderly-range start (concat_map log_of (chunks_of b)) (known b bytes ok).sound.order first
          (concat_map-intro log_of m (unfold log_of in (Memᴰ.head refl)))

  pub names-distinct : Distinct (map chunk_name (chunks_of b))
  names-distinct = unfold chunk_name member_key in (distinct-members b ok)

  pub part-names : map part_name (chunk_bytes b) ≡ map chunk_name (chunks_of b)
  unfolding chunk_bytes
  part-names = map-map part_name (part_of b) (chunks_of b) ∙ map_same (λ (c : Chunk). part_name (part_of b c)) chunk_name (chunks_of b) part-name

  pub parts-distinct : Distinct (map part_name (chunk_bytes b))
  parts-distinct = rw part-names names-distinct

  abbrev log : Chunk → List ℕ
  log c = printed (log_of c)

  -- the bytes of a chunk do not depend on its place
  pub bytes-unplaced : chunk_bytes b ≡ map log (map unplaced (chunks_of b))
  unfolding chunk_bytes
  bytes-unplaced =
      map_same (part_of b) (λ (c : Chunk). log (unplaced c)) (chunks_of b) (λ c m. part-printed b bytes ok c m ∙ placeless c)
      ∙ sym (map-map log unplaced (chunks_of b))
    where
      placeless : (c : Chunk) → log c ≡ log (unplaced c)
      placeless c = unfold log_of in (rw (commands_of-unplaced c) (unfold unplaced in refl))

-- a bundle in another order
module _ (b c : List ℕ) (bytes : Bytes b) (ok : Accepted b) (r : Reordered b c) where
  same_bytes : Permᴰ b c
  same_bytes =
      subst (λ (s : List ℕ). Permᴰ s c) (back-to-back b bytes ok)
      (rw (r.back-to-back, back-to-back-map (part_of b) (chunks_of b), back-to-back-map (part_of b) r.order) (perm-concat_map (part_of b) r.same_chunks))

  pub reordered-length : length c ≡ length b
  reordered-length = sym (perm-length same_bytes)

  pub reordered-bytes : Bytes c
  reordered-bytes = mem_bytes c (λ x m. bytes-mem bytes (perm-mem (Permᴰ.symm same_bytes) m))

  pub reordered-chunks : SameChunkBytes b c
  reordered-chunks =
      let q = reordered b c bytes ok r in
      rw (bytes-unplaced b bytes ok, bytes-unplaced c reordered-bytes q.0) (perm-map (λ (d : Chunk). printed (log_of d)) q.1)
