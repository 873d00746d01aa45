-- For callers: a chunk that an accepted bundle has is found as exactly its bytes, and reading at the place of each of its commands gives
-- that command.
use Prim.Native.Nat.{ℕ, zero, suc}
use mathlib.Core.Path.{◌≡◌, refl, sym, ◌∙◌, ap, subst}
use mathlib.Core.Logic.{⊎_elim}
use mathlib.Core.Bool.{Bool, true, false, cond}
use mathlib.Core.List.Memᴰ
use mathlib.Core.List.{List, [], map, Memᴰ}
use mathlib.Core.Option.{some}
use lib.Dec.{leb}
use lib.ListN.{length}
use borrow.Author.Tests.{eq-eqb}
use Rattle.bundle.specs.Answer.{Answer, gives, refuses}
use Rattle.bundle.specs.Lists.{first}
use Rattle.bundle.specs.Commands.{Taken, decode_at, read_at}
use Rattle.bundle.specs.Chunks.{Placed, Chunk, follow, front_from, front_of, chunks_of, part_of, is_of, chunk_of}
use Rattle.bundle.specs.Walk.{forks_of}
use Rattle.bundle.specs.declared.index.Fork.{Fork}
use Rattle.bundle.specs.Check.{size_of, failing, forked_before, stray, shape_of, find_of, Accepted}
use Rattle.bundle.specs.Scan.{start}
use Rattle.bundle.proofs.Tests.{both, not-both, is_false, or-other}
use Rattle.bundle.proofs.ListLaws.{any-intro, concat_map-intro}
use Rattle.bundle.proofs.Failing.{NoneFails, at_end, one_more, failing-none, refused_none}
use Rattle.bundle.proofs.Decoding.{decode-reads}
use Rattle.bundle.proofs.Gathering.{placed_of, all-in-chunks}
use Rattle.bundle.proofs.Reorder.{checked, scan-passed, orderly-range}

-- no member has a second chunk
alone : (fs : List Fork) {before xs : List Chunk} → NoneFails (stray fs) before xs → (c y : Chunk) → Memᴰ c xs → Memᴰ y before → is_of c.team c.member y ≡ false
unfolding stray
alone fs at_end c y m l = absurd (Memᴰ.not-nil m)
alone fs (one_more {before = before} {x = x} h n) c y m l =
    ⊎_elim
    (λ e. ap (λ (z : Chunk). is_of z.team z.member y) e ∙ is_false (is_of x.team x.member y) (λ t. not-both (or-other (leb (size_of fs x.team) x.member) (any-intro (is_of x.team x.member) l t)) h))
    (λ k. alone fs n c y k (Memᴰ.tail l))
    (Memᴰ.cases_cons m)

own : (c : Chunk) → is_of c.team c.member c ≡ true
unfolding is_of
own c = both (eq-eqb c.team c.team refl) (eq-eqb c.member c.member refl)

found_first : (fs : List Fork) {before xs : List Chunk} → NoneFails (stray fs) before xs → (c : Chunk) → Memᴰ c xs → first (is_of c.team c.member) xs ≡ some c
found_first fs at_end c m = absurd (Memᴰ.not-nil m)
found_first fs (one_more {before = before} {x = x} {xs = xs} h n) c m =
    ⊎_elim
    (λ e. let t : is_of c.team c.member x ≡ true = ap (is_of c.team c.member) (sym e) ∙ own c in rw t (ap some (sym e)))
    (λ k. let t : is_of c.team c.member x ≡ false = alone fs n c x k (Memᴰ.head refl) in rw t (found_first fs n c k))
    (Memᴰ.cases_cons m)

none-stray : (cs : List Chunk) → shape_of cs ≡ gives tt → NoneFails (stray (forks_of cs)) [] cs
unfolding shape_of
none-stray cs e =
    let eight = refused_none 8 (failing (λ (f : Fork). f.place) forked_before [] (forks_of cs)) _ e in
    let nine = refused_none 9 (failing (λ (c : Chunk). c.place) (stray (forks_of cs)) [] cs) _ eight.1 in
    failing-none (λ (c : Chunk). c.place) (stray (forks_of cs)) [] cs nine.0

pub find-known : (s : List ℕ) (c : Chunk) → Accepted s → Memᴰ c (chunks_of s) → find_of s c.team c.member ≡ gives (part_of s c)
unfolding find_of chunk_of
find-known s c a m = rw (a, found_first (forks_of (chunks_of s)) (none-stray (chunks_of s) (checked s a).shape) c m)

-- reading at the place of a command
record Decodes (s : List ℕ) (p : Placed) : Type 0 where
  next : ℕ
  decodes : decode_at s p.at ≡ gives (record { command = p.command; next = next })

placed-decodes : (fuel : ℕ) (s : List ℕ) (at : ℕ) (p : Placed) → Memᴰ p (front_from fuel s at).placed → Decodes s p
unfolding front_from follow
placed-decodes zero s at p m = absurd (Memᴰ.not-nil m)
placed-decodes (suc fuel) s at p m = go (leb (length s) at) (decode_at s at) refl (λ next. placed-decodes fuel s next p) m
  where
    go :
        (b : Bool) (d : Answer Taken)
        → decode_at s at ≡ d
        → ((next : ℕ) → Memᴰ p (front_from fuel s next).placed → Decodes s p)
        → Memᴰ p (cond b (record { placed = []; stop = gives at }) (follow (front_from fuel s) at d)).placed
        → Decodes s p
    go true d e ih k = absurd (Memᴰ.not-nil k)
    go false (refuses n q) e ih k = absurd (Memᴰ.not-nil k)
    go false (gives t) e ih k =
        ⊎_elim
        (λ q. subst (Decodes s) (sym q) (record { next = t.next; decodes = e }))
        (ih t.next)
        (Memᴰ.cases_cons k)

pub record Reads (s : List ℕ) (p : Placed) : Type 0 where
  pub next : ℕ
  pub reads : read_at s p.at ≡ gives (record { command = p.command; next = next })

pub placed-reads : (s : List ℕ) (p : Placed) → Accepted s → Memᴰ p (front_of s).placed → Reads s p
placed-reads s p a m =
    let k = checked s a in
    let q = scan-passed s k.scan k.scan_ok in
    let d = placed-decodes (length s) s 0 p (unfold front_of in m) in
    let r = orderly-range start (map (λ (x : Placed). x.command) (front_of s).placed) q.order p.command (Memᴰ.map (λ (x : Placed). x.command) m) in
    record { next = d.next; reads = decode-reads s p.at (record { command = p.command; next = d.next }) d.decodes r }

-- MEMBER, and each command behind it, of each chunk
pub chunk-reads : (s : List ℕ) (c : Chunk) (p : Placed) → Accepted s → Memᴰ c (chunks_of s) → Memᴰ p (placed_of c) → Reads s p
unfolding chunks_of
chunk-reads s c p a m l =
    let k = checked s a in
    let q = scan-passed s k.scan k.scan_ok in
    let parts = (all-in-chunks (front_of s).placed q.order).parts in
    placed-reads s p a (subst (λ (ps : List Placed). Memᴰ p ps) (sym parts) (concat_map-intro placed_of m l))
