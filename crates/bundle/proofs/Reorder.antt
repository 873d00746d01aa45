-- An accepted bundle is its chunks' bytes back to back, and every order of its chunks is accepted.
use Prim.Native.Nat.{ℕ}
use mathlib.Core.Path.{◌≡◌, refl, sym, ◌∙◌, ap, subst}
use mathlib.Core.Logic.{⊎_elim}
use mathlib.Core.Bool.{Bool, true, false, cond}
use mathlib.Core.List.Memᴰ
use mathlib.Core.List.Permᴰ
use mathlib.Core.List.{List, [], ◌∷◌, map, Memᴰ, Permᴰ, head-eq_of_cons-eq, tail-eq_of_cons-eq}
use native.Mathlib.Omega.{arith}
use lib.ListN.{length}
use lib.Dec.{ltb}
use Rattle.bundle.specs.Answer.{Answer, gives, refuses, when_given}
use Rattle.bundle.specs.Lists.{all, back_to_back, concat_map}
use Rattle.bundle.specs.Commands.{Bytes, bytes_of, in_range}
use Rattle.bundle.specs.Chunks.{Placed, Chunk, Front, front_of, gather, chunks_of, part_of}
use Rattle.bundle.specs.Scan.{opens_segment, adds_access, start, scanned, scan_of, walk}
use Rattle.bundle.specs.Check.{shape_of, check_of, Accepted, Reordered}
use Rattle.bundle.specs.declared.scan.Scan.{Scan}
use Rattle.bundle.specs.declared.command.Command.{Command}
use Rattle.bundle.proofs.ListLaws.{all-elim, all-intro, perm-mem, perm-map, perm-length, perm-concat_map, concat_map-append, Distinct}
use Rattle.bundle.proofs.Places.{unplaced, member_key}
use Rattle.bundle.proofs.Scanning.{total, perm-total, uncounted, orderly, orderly-head, orderly-tail, no-group, Room, Passed, walk-elim, walk-intro}
use Rattle.bundle.proofs.Gathering.{Formed, placed_of, log_of, all-in-chunks}
use Rattle.bundle.proofs.ScanChunks.{scan-chunks, commands-of-chunks}
use Rattle.bundle.proofs.Printing.{printed, placed_from, commands-placed, prints-front, front-of-printed}
use Rattle.bundle.proofs.Settling.{settle, gather-settle, unplaced-settle, part-settle}
use Rattle.bundle.proofs.Shaped.{Shaped, shaped-elim, shaped-intro}
use Rattle.bundle.proofs.ShapeOrder.{shaped-perm, shaped-unplaced, unplaced-shaped}

-- check taken apart
pub record Checked (s : List ℕ) : Type 0 where
  pub short : ltb 65536 (length s) ≡ false
  pub scan : Scan
  pub scan_ok : scan_of s ≡ gives scan
  pub shape : shape_of (chunks_of s) ≡ gives tt

pub checked : (s : List ℕ) → Accepted s → Checked s
unfolding check_of
checked s e = go (ltb 65536 (length s)) (scan_of s) refl refl e
  where
    go :
        (t : Bool) (a : Answer Scan)
        → ltb 65536 (length s) ≡ t
        → scan_of s ≡ a
        → cond t (refuses 1 0) (when_given a (λ k. shape_of (chunks_of s))) ≡ gives tt
        → Checked s
    go true a l q f = let z : ◌≡◌ {A = ℕ} 0 1 = cc in absurd (omega arith)
    go false (gives k) l q f = record { short = l; scan = k; scan_ok = q; shape = f }
    go false (refuses n p) l q f = let z : ◌≡◌ {A = ℕ} 0 1 = cc in absurd (omega arith)

pub accepts : (s : List ℕ) → Checked s → Accepted s
unfolding check_of
accepts s c = rw (c.short, c.scan_ok) c.shape

pub orderly-range : (k : Scan) (cs : List Command) → orderly k cs ≡ true → (c : Command) → Memᴰ c cs → in_range c ≡ true
orderly-range k [] o c m = absurd (Memᴰ.not-nil m)
orderly-range k (d ∷ cs) o c m =
    ⊎_elim
    (λ q. ap in_range q ∙ (orderly-head k d cs o).in-range)
    (orderly-range (uncounted (scanned k d)) cs (orderly-tail k d cs o) c)
    (Memᴰ.cases_cons m)

-- chunks that make a bundle which is accepted
pub record Sound (cs : List Chunk) : Type 0 where
  pub formed : (c : Chunk) → Memᴰ c cs → Formed c
  pub order : orderly start (concat_map log_of cs) ≡ true
  pub room : Room start (concat_map log_of cs)
  pub short : ltb 65536 (length (printed (concat_map log_of cs))) ≡ false
  pub shaped : Shaped cs

in-range : {cs : List Chunk} → Sound cs → (c : Command) → Memᴰ c (concat_map log_of cs) → in_range c ≡ true
in-range {cs} s = orderly-range start (concat_map log_of cs) s.order

-- an accepted bundle is made of its chunks
pub record Known (b : List ℕ) : Type 0 where
  pub sound : Sound (chunks_of b)
  pub bytes : b ≡ printed (concat_map log_of (chunks_of b))

-- what a bundle that passes the scan tells
pub scan-passed : (s : List ℕ) (k : Scan) → scan_of s ≡ gives k → Passed (front_of s).placed (front_of s).stop start
unfolding scan_of
scan-passed s k e = walk-elim (front_of s).placed (front_of s).stop start k room e
  where
    room : Room start []
    room = unfold start total in (record { segments = omega arith; accesses = omega arith; one_group = no-group start })

pub known : (b : List ℕ) → Bytes b → Accepted b → Known b
known b bytes a = go (scan-passed b k.scan k.scan_ok)
  where
    k : Checked b
    k = checked b a

    ps : List Placed
    ps = (front_of b).placed

    stop : Answer ℕ
    stop = (front_of b).stop

    go : Passed ps stop start → Known b
    go p = made (unfold chunks_of in (all-in-chunks ps p.order).parts) (unfold chunks_of in (all-in-chunks ps p.order).formed)
      where
        made : ps ≡ concat_map placed_of (chunks_of b) → ((c : Chunk) → Memᴰ c (chunks_of b) → Formed c) → Known b
        made parts formed =
            record {
              sound =
                  record {
                    formed = formed;
                    order = rw logs at p.order;
                    room = rw logs at p.room;
                    short = subst (λ (s : List ℕ). ltb 65536 (length s) ≡ false) whole k.short;
                    shaped = shaped-elim (chunks_of b) k.shape;
                  };
              bytes = whole;
            }
          where
            logs : map (λ (q : Placed). q.command) ps ≡ concat_map log_of (chunks_of b)
            logs = ap (map (λ (q : Placed). q.command)) parts ∙ commands-of-chunks (chunks_of b)

            whole : b ≡ printed (concat_map log_of (chunks_of b))
            whole =
                prints-front b p.past bytes p.ended (orderly-range start (map (λ (q : Placed). q.command) ps) p.order)
                ∙ ap printed logs

-- sound chunks printed one after another are accepted, and are the chunks of what is printed
pub record Made (cs : List Chunk) : Type 0 where
  pub accepted : Accepted (printed (concat_map log_of cs))
  pub chunks : chunks_of (printed (concat_map log_of cs)) ≡ settle 0 cs

pub made : (cs : List Chunk) → Sound cs → Made cs
made cs s =
    record {
      accepted = accepts b (record { short = s.short; scan = pass.0; scan_ok = unfold scan_of in (ap (λ (f : Front). walk f.placed f.stop start) front ∙ pass.1); shape = shape });
      chunks = chunks;
    }
  where
    b : List ℕ
    b = printed (concat_map log_of cs)

    front : front_of b ≡ record { placed = placed_from 0 (concat_map log_of cs); stop = gives (length b) }
    front = front-of-printed (concat_map log_of cs) (in-range s)

    bare : map (λ (p : Placed). p.command) (placed_from 0 (concat_map log_of cs)) ≡ concat_map log_of cs
    bare = commands-placed 0 (concat_map log_of cs)

    pass : (k : Scan) × (walk (placed_from 0 (concat_map log_of cs)) (gives (length b)) start ≡ gives k)
    pass = walk-intro (placed_from 0 (concat_map log_of cs)) (length b) start (rw bare s.order) (rw bare s.room)

    chunks : chunks_of b ≡ settle 0 cs
    chunks = unfold chunks_of in (ap (λ (f : Front). (gather f.placed).chunks) front ∙ gather-settle 0 cs s.formed)

    shape : shape_of (chunks_of b) ≡ gives tt
    shape =
        shaped-intro (chunks_of b)
        (unplaced-shaped (chunks_of b)
        (rw (chunks, unplaced-settle 0 cs) (shaped-unplaced cs s.shaped)))

-- a chunk's part of an accepted bundle is its commands printed
same_at : {A B : Type 0} (f g : A → B) (xs : List A) {x : A} → map f xs ≡ map g xs → Memᴰ x xs → f x ≡ g x
same_at f g [] e m = absurd (Memᴰ.not-nil m)
same_at f g (y ∷ ys) e m =
    ⊎_elim
    (λ q. ap f q ∙ head-eq_of_cons-eq e ∙ ap g (sym q))
    (same_at f g ys (tail-eq_of_cons-eq e))
    (Memᴰ.cases_cons m)

pub part-printed : (b : List ℕ) → Bytes b → Accepted b → (c : Chunk) → Memᴰ c (chunks_of b) → part_of b c ≡ printed (log_of c)
part-printed b bytes a c m = same_at (part_of b) (λ (d : Chunk). printed (log_of d)) cs parts m
  where
    cs : List Chunk
    cs = chunks_of b

    k : Known b
    k = known b bytes a

    again : settle 0 cs ≡ cs
    again = sym (made cs k.sound).chunks ∙ ap chunks_of (sym k.bytes)

    parts : map (part_of b) cs ≡ map (λ (d : Chunk). printed (log_of d)) cs
    parts = subst (λ (s : List ℕ). map (part_of s) cs ≡ map (λ (d : Chunk). printed (log_of d)) cs) (sym k.bytes) (rw again at (part-settle [] cs))

print-chunks : (f : Chunk → List ℕ) (cs : List Chunk) → ((c : Chunk) → Memᴰ c cs → f c ≡ printed (log_of c)) → back_to_back (map f cs) ≡ printed (concat_map log_of cs)
unfolding printed
print-chunks f [] h = refl
print-chunks f (c ∷ cs) h =
    rw (h c (Memᴰ.head refl), print-chunks f cs (λ d m. h d (Memᴰ.tail m)))
    (sym (concat_map-append bytes_of (log_of c) (concat_map log_of cs)))

-- "chunks back to back": an accepted bundle is its chunks' bytes, MEMBER to END or CUT each, one after another
pub back-to-back : (b : List ℕ) → Bytes b → Accepted b → back_to_back (map (part_of b) (chunks_of b)) ≡ b
back-to-back b bytes a = print-chunks (part_of b) (chunks_of b) (part-printed b bytes a) ∙ sym (known b bytes a).bytes

-- another order of sound chunks is sound
sound-perm : {cs ds : List Chunk} → Permᴰ cs ds → Sound cs → Sound ds
sound-perm {cs} {ds} p s =
    record {
      formed = formed;
      order = scan-chunks ds formed ∙ all-intro passing ds (λ c m. all-elim passing each (perm-mem (Permᴰ.symm p) m));
      room =
          record {
            segments = rw (← perm-total opens_segment logs) s.room.segments;
            accesses = rw (← perm-total adds_access logs) s.room.accesses;
            one_group =
                record {
                  group = s.room.one_group.group;
                  before = s.room.one_group.before;
                  each = λ a m. s.room.one_group.each a (perm-mem (Permᴰ.symm logs) m);
                };
          };
      short = rw (← long) s.short;
      shaped = shaped-perm p s.shaped;
    }
  where
    passing : Chunk → Bool
    passing c = orderly start (log_of c)

    formed : (c : Chunk) → Memᴰ c ds → Formed c
    formed c m = s.formed c (perm-mem (Permᴰ.symm p) m)

    each : all passing cs ≡ true
    each = sym (scan-chunks cs s.formed) ∙ s.order

    logs : Permᴰ (concat_map log_of cs) (concat_map log_of ds)
    logs = perm-concat_map log_of p

    long : length (printed (concat_map log_of cs)) ≡ length (printed (concat_map log_of ds))
    long = unfold printed in (perm-length (perm-concat_map bytes_of logs))

-- "the bundle in that order is accepted too", and has the same chunks but for their places
pub reordered : (b c : List ℕ) → Bytes b → Accepted b → Reordered b c → Accepted c × Permᴰ (map unplaced (chunks_of b)) (map unplaced (chunks_of c))
reordered b c bytes a r = subst Result (sym same) (m.accepted, rw (m.chunks, unplaced-settle 0 ds) (perm-map unplaced r.same_chunks))
  where
    ds : List Chunk
    ds = r.order

    m : Made ds
    m = made ds (sound-perm r.same_chunks (known b bytes a).sound)

    same : c ≡ printed (concat_map log_of ds)
    same =
        r.back-to-back
        ∙ print-chunks (part_of b) ds (λ d l. part-printed b bytes a d (perm-mem (Permᴰ.symm r.same_chunks) l))

    Result : List ℕ → Type 0
    Result x = Accepted x × Permᴰ (map unplaced (chunks_of b)) (map unplaced (chunks_of x))

-- no member has two chunks
pub distinct-members : (b : List ℕ) → Accepted b → Distinct (map member_key (chunks_of b))
distinct-members b a = (shaped-elim (chunks_of b) (checked b a).shape).members_once
