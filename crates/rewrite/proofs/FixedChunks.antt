-- Rewriting: the same chunks in one order for all their orders.
use Prim.Native.Nat.{ℕ, ◌≤◌, ◌<◌}
use mathlib.Core.Path.{◌≡◌, refl, sym, ◌∙◌, ap}
use mathlib.Core.List.Permᴰ
use mathlib.Core.List.{List, ◌++◌}
use native.Mathlib.Nat.{zero-add}
use lib.ListN.{length, drop}
use borrow.Author.Tests.{lt-ltb, le-ltb}
use Rattle.bundle.specs.Answer.{gives, refuses}
use Rattle.bundle.specs.Lists.{back_to_back}
use Rattle.bundle.specs.Commands.{Bytes, written}
use Rattle.bundle.specs.Chunks.{chunks_of, part_of}
use Rattle.bundle.specs.Check.{Accepted, Reordered}
use Rattle.bundle.proofs.Reorder.{reordered}
use Rattle.verdict.proofs.Demand3.{demand3}
use Rattle.rewrite.specs.Rewriting.{sorted_by, chunk_name, rewritten, filling_of, rewrite_as, rewrite_of}
use Rattle.rewrite.specs.FixedOrder.{chunk_bytes, SameChunkBytes, FixedOrder}
use Rattle.rewrite.proofs.KeySort.{sort-perm, sort-same, sort-map, sort-ascends}
use Rattle.rewrite.proofs.ChunkBytes.{part_name, part-name, names-distinct, parts-distinct, reordered-length, reordered-bytes, reordered-chunks}

-- the result has the chunks of the bundle in some order
pub in_some_order : (b : List ℕ) → Reordered b (rewritten b)
unfolding rewritten
in_some_order b = record { order = sorted_by chunk_name (chunks_of b); same_chunks = sort-perm chunk_name (chunks_of b); back-to-back = refl }

-- the order by what the chunks' bytes tell
pub rewritten-parts : (b : List ℕ) → Bytes b → Accepted b → rewritten b ≡ back_to_back (sorted_by part_name (chunk_bytes b))
unfolding rewritten chunk_bytes
rewritten-parts b bytes ok = ap back_to_back (sort-map chunk_name part_name (part_of b) (chunks_of b) (part-name b bytes ok))

module _ (b c : List ℕ) (bytes : Bytes b) (bytes' : Bytes c) (ok : Accepted b) (ok' : Accepted c) where
  same-rewritten : SameChunkBytes b c → rewritten b ≡ rewritten c
  same-rewritten p =
      rewritten-parts b bytes ok
      ∙ ap back_to_back (sort-same part_name p (parts-distinct b bytes ok))
      ∙ sym (rewritten-parts c bytes' ok')

  same_chunks : rewritten b ≡ rewritten c → SameChunkBytes b c
  same_chunks e =
      Permᴰ.trans {l₃ = chunk_bytes c} (reordered-chunks b (rewritten b) bytes ok (in_some_order b))
      (rw e (Permᴰ.symm (reordered-chunks c (rewritten c) bytes' ok' (in_some_order c))))

-- what the operation does with the result
module _ (b buffer : List ℕ) (ok : Accepted b) (long : length (rewritten b) ≡ length b) where
  fills : length b ≤ length buffer → rewrite_of b buffer ≡ record { answer = gives (length b); buffer = rewritten b ++ drop (length b) buffer }
  unfolding rewrite_of rewrite_as filling_of written
  fills h = rw (ok, long, le-ltb (length buffer) (length b) h, zero-add (length b))

  short : length buffer < length b → rewrite_of b buffer ≡ record { answer = refuses 17 0; buffer = buffer }
  unfolding rewrite_of rewrite_as filling_of
  short h = rw (ok, long, lt-ltb (length buffer) (length b) h)

same-filling : (b c buffer : List ℕ) → Accepted b → Accepted c → rewritten c ≡ rewritten b → rewrite_of c buffer ≡ rewrite_of b buffer
unfolding rewrite_of rewrite_as
same-filling b c buffer ok ok' e = rw (ok, ok', e)

pub fixed-order : FixedOrder
fixed-order b bytes ok =
    record {
      in_some_order = r;
      by_name = unfold in_some_order in (sort-ascends chunk_name (chunks_of b) (names-distinct b bytes ok));
      as_long = long;
      accepted_too = ok';
      judged_same = λ v w. demand3 b (rewritten b) v w bytes ok r;
      fills = λ buffer. fills b buffer ok long;
      short = λ buffer. short b buffer ok long;
      equal_exactly = λ c bytes' ok''. (same_chunks b c bytes bytes' ok ok'', same-rewritten b c bytes bytes' ok ok'');
      again = twice;
      again_filled = λ buffer. same-filling b (rewritten b) buffer ok ok' twice;
    }
  where
    r : Reordered b (rewritten b)
    r = in_some_order b

    ok' : Accepted (rewritten b)
    ok' = (reordered b (rewritten b) bytes ok r).0

    long : length (rewritten b) ≡ length b
    long = reordered-length b (rewritten b) bytes ok r

    twice : rewritten (rewritten b) ≡ rewritten b
    twice = sym (same-rewritten b (rewritten b) bytes (reordered-bytes b (rewritten b) bytes ok r) ok ok' (reordered-chunks b (rewritten b) bytes ok r))
