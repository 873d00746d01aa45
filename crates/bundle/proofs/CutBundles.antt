-- Cutting chunks of an accepted bundle at the ends of commands, with no REGION lost, gives an accepted bundle.
use Prim.Native.Nat.{ℕ, zero, suc, ◌+◌, ◌≤◌, ◌<◌}
use mathlib.Core.Path.{◌≡◌, refl, sym, ◌∙◌, subst}
use mathlib.Core.Logic.{◌⊎◌, inl, inr, ⊎_elim}
use mathlib.Core.Bool.{Bool, true, false, not, ◌&&◌}
use mathlib.Core.List.Memᴰ
use mathlib.Core.List.{List, [], ◌∷◌, ◌++◌, map, Memᴰ}
use native.Mathlib.Omega.{arith}
use lib.ListN.{length, length-append}
use lib.Dec.{eqb, ltb, leb}
use borrow.Author.Tests.{eqb-true, eq-eqb, ltb-true, ltb-false, le-ltb, not-false}
use Rattle.bundle.specs.Lists.{any, all, back_to_back, concat_map}
use Rattle.bundle.specs.Cases.{on_region}
use Rattle.bundle.specs.Commands.{Bytes, bytes_of}
use Rattle.bundle.specs.Chunks.{Chunk, gather, chunks_of, commands_of, complete, part_of, is_of}
use Rattle.bundle.specs.Walk.{opens_segment, adds_access, barriers_of, forks_of}
use Rattle.bundle.specs.Scan.{start}
use Rattle.bundle.specs.Check.{size_of, lacks_chunk, complete_in, lowest_complete, unlike_lowest, beyond_complete, Accepted}
use Rattle.bundle.specs.Cutting.{is_region, log_bytes, CutTo, CutEach, Cutting}
use Rattle.bundle.specs.declared.command.Command.{Command}
use Rattle.bundle.specs.declared.command.Command.TheVariants as Com
use Rattle.bundle.proofs.Tests.{both, and_left, and_right, is_false, decide, not-both, not_of_false, refuted}
use Rattle.bundle.proofs.ListLaws.{any-elim, any-intro, all-elim, all-intro, concat_map-elim, concat_map-intro, concat_map-append, Passing}
use Rattle.bundle.proofs.Delimiters.{forking, closes-width}
use Rattle.bundle.proofs.RoundTrip.{bytes-some}
use Rattle.bundle.proofs.Places.{member_key}
use Rattle.bundle.proofs.Scanning.{total, total-append, orderly}
use Rattle.bundle.proofs.Gathering.{Formed, log_of}
use Rattle.bundle.proofs.ScanChunks.{scan-chunks}
use Rattle.bundle.proofs.Printing.{printed, commands-placed}
use Rattle.bundle.proofs.Settling.{settled, settle}
use Rattle.bundle.proofs.Shaped.{Shaped}
use Rattle.bundle.proofs.ShapeOrder.{lacks-same}
use Rattle.bundle.proofs.Reorder.{Sound, known, Made, made, part-printed}
use Rattle.bundle.proofs.Shortening.{Shortened, EachShortened}
use Rattle.bundle.proofs.CutChunks.{LeftAs, cut-closes, left-whole, left_cut, left_body, Remains, remains-orderly, remains-total, remains-access, remains-barriers, remains-complete, remains-forks, remains-shortened}

-- chunk by chunk
data EachRemains : List Chunk → List Chunk → Type 0 where
  no_more : EachRemains [] []
  one_more : {c d : Chunk} {cs ds : List Chunk} → Remains c d → EachRemains cs ds → EachRemains (c ∷ cs) (d ∷ ds)

record Source (cs : List Chunk) (d : Chunk) : Type 0 where
  pub chunk : Chunk
  pub present : Memᴰ chunk cs
  pub remains : Remains chunk d

source : {cs ds : List Chunk} {d : Chunk} → EachRemains cs ds → Memᴰ d ds → Source cs d
source no_more m = absurd (Memᴰ.not-nil m)
source {d = d} (one_more {c = c} {d = e} {cs = cs} r rs) m = ⊎_elim here (λ l. further (source rs l)) (Memᴰ.cases_cons m)
  where
    here : d ≡ e → Source (c ∷ cs) d
    here q = record { chunk = c; present = Memᴰ.head refl; remains = subst (Remains c) (sym q) r }

    further : Source cs d → Source (c ∷ cs) d
    further s = record { chunk = s.chunk; present = Memᴰ.tail s.present; remains = s.remains }

-- what all chunks have in common with those that they are left of
same-forks : {cs ds : List Chunk} → EachRemains cs ds → forks_of ds ≡ forks_of cs
unfolding forks_of
same-forks no_more = refl
same-forks (one_more r rs) = rw (remains-forks r, same-forks rs)

same_keys : {cs ds : List Chunk} → EachRemains cs ds → map member_key ds ≡ map member_key cs
unfolding member_key
same_keys no_more = refl
same_keys (one_more r rs) = rw (r.team, r.member, same_keys rs)

same-members : {cs ds : List Chunk} → EachRemains cs ds → (t m : ℕ) → any (is_of t m) ds ≡ any (is_of t m) cs
unfolding is_of
same-members no_more t m = refl
same-members (one_more r rs) t m = rw (r.team, r.member, same-members rs t m)

-- a count over all commands that CUT adds least to
fewer :
    (f : Command → ℕ)
    → ((c : Command) → f Com.Cut ≤ f c)
    → {cs ds : List Chunk}
    → EachRemains cs ds
    → total f (concat_map log_of ds) ≤ total f (concat_map log_of cs)
fewer f least no_more = omega arith
fewer f least (one_more {c = c} {d = d} {cs = cs} {ds = ds} r rs) =
    let one = remains-total f least r in
    let ih = fewer f least rs in
    rw (total-append f (log_of c) (concat_map log_of cs), total-append f (log_of d) (concat_map log_of ds)) (omega arith)

-- 12 and 19 together: no chunk has more barriers than a complete one of its team
abbrev Bounded : List Chunk → Type 0
Bounded cs = (c d : Chunk) → Memᴰ c cs → Memᴰ d cs → d.team ≡ c.team → complete d ≡ true → barriers_of c ≤ barriers_of d

-- where a member of a team is complete, one is the lowest
lowest : (n : ℕ) (cs : List Chunk) (t : ℕ) (c : Chunk) → Memᴰ c cs → complete_in t c ≡ true → c.member < n → Passing (lowest_complete cs t) cs
lowest zero cs t c m e l = absurd (omega arith)
lowest (suc n) cs t c m e l = go (lowest n cs t) (decide (any below cs))
  where
    below : Chunk → Bool
    below d = complete_in t d && ltb d.member c.member

    lower : (x : ℕ) → ltb x c.member ≡ true → x < n
    lower x h = omega (arith, ltb-true x c.member h)

    go :
        ((d : Chunk) → Memᴰ d cs → complete_in t d ≡ true → d.member < n → Passing (lowest_complete cs t) cs)
        → (any below cs ≡ true) ⊎ (any below cs ≡ false)
        → Passing (lowest_complete cs t) cs
    go ih (inl f) =
        let w = any-elim below cs f in
        let d = w.element in
        let first = complete_in t d in
        let second = ltb d.member c.member in
        ih d w.present (and_left first second w.passes) (lower d.member (and_right first second w.passes))
    go ih (inr f) = record { element = c; present = m; passes = unfold lowest_complete in (both e (not_of_false f)) }

lowest-complete : (cs : List Chunk) (t : ℕ) (c : Chunk) → lowest_complete cs t c ≡ true → complete_in t c ≡ true
unfolding lowest_complete
lowest-complete cs t c h = and_left (complete_in t c) (not (any (λ (d : Chunk). complete_in t d && ltb d.member c.member) cs)) h

-- where no element passes two tests, one that passes the first fails the second
fails-second : {A : Type 0} (p q : A → Bool) {x : A} {xs : List A} → any (λ y. p y && q y) xs ≡ false → Memᴰ x xs → p x ≡ true → q x ≡ false
fails-second p q {x} e m h = is_false (q x) (λ f. not-both (any-intro (λ y. p y && q y) m (both h f)) e)

complete-in : (t : ℕ) (c : Chunk) → c.team ≡ t → complete c ≡ true → complete_in t c ≡ true
unfolding complete_in
complete-in t c q e = both (eq-eqb c.team t q) e

in-complete : (t : ℕ) (c : Chunk) → complete_in t c ≡ true → (c.team ≡ t) × (complete c ≡ true)
unfolding complete_in
in-complete t c h =
    (eqb-true c.team t (and_left (eqb c.team t) (complete c) h), and_right (eqb c.team t) (complete c) h)

module _ (cs : List Chunk) (s : Shaped cs) where
  -- a complete chunk has the barriers of the lowest one
  lowest-alike : (c e : Chunk) → Memᴰ c cs → Memᴰ e cs → complete c ≡ true → lowest_complete cs c.team e ≡ true → barriers_of c ≡ barriers_of e
  lowest-alike c e m l h low =
      let alike : (complete c && any (λ (d : Chunk). lowest_complete cs c.team d && not (eqb (barriers_of c) (barriers_of d))) cs) ≡ false =
      unfold unlike_lowest in (s.alike c m) in
      eqb-true (barriers_of c) (barriers_of e)
      (not-false (eqb (barriers_of c) (barriers_of e))
      (fails-second (lowest_complete cs c.team) (λ (d : Chunk). not (eqb (barriers_of c) (barriers_of d))) (rw h at alike) l low))

  bounded : Bounded cs
  bounded c d m l q e = go (decide (complete c))
    where
      go : (complete c ≡ true) ⊎ (complete c ≡ false) → barriers_of c ≤ barriers_of d
      go (inl h) =
          let w = lowest (suc c.member) cs c.team c m (complete-in c.team c refl h) (omega arith) in
          let one = lowest-alike c w.element m w.present h w.passes in
          let other = lowest-alike d w.element l w.present e (rw q w.passes) in
          omega arith
      go (inr h) =
          let beyond : (not (complete c) && any (λ (x : Chunk). complete_in c.team x && ltb (barriers_of x) (barriers_of c)) cs) ≡ false =
          unfold beyond_complete in (s.none_beyond c m) in
          ltb-false (barriers_of d) (barriers_of c)
          (fails-second (complete_in c.team) (λ (x : Chunk). ltb (barriers_of x) (barriers_of c)) (rw h at beyond) l (complete-in c.team d q e))

module _ (cs : List Chunk) (b : Bounded cs) where
  bounded-alike : (c : Chunk) → Memᴰ c cs → unlike_lowest cs c ≡ false
  unfolding unlike_lowest
  bounded-alike c m = is_false _ (λ h. differ (and_left (complete c) (any unlike cs) h) (any-elim unlike cs (and_right (complete c) (any unlike cs) h)))
    where
      unlike : Chunk → Bool
      unlike d = lowest_complete cs c.team d && not (eqb (barriers_of c) (barriers_of d))

      differ : complete c ≡ true → Passing unlike cs → ⊥
      differ h w =
          let d = w.element in
          let low = lowest_complete cs c.team d in
          let same = eqb (barriers_of c) (barriers_of d) in
          let t = in-complete c.team d (lowest-complete cs c.team d (and_left low (not same) w.passes)) in
          let more = b c d m w.present t.0 t.1 in
          let less = b d c w.present m (sym t.0) h in
          refuted (eq-eqb (barriers_of c) (barriers_of d) (omega arith)) (and_right low (not same) w.passes)

  bounded-beyond : (c : Chunk) → Memᴰ c cs → beyond_complete cs c ≡ false
  unfolding beyond_complete
  bounded-beyond c m = is_false _ (λ h. exceeds (any-elim beyond cs (and_right (not (complete c)) (any beyond cs) h)))
    where
      beyond : Chunk → Bool
      beyond d = complete_in c.team d && ltb (barriers_of d) (barriers_of c)

      exceeds : Passing beyond cs → ⊥
      exceeds w =
          let d = w.element in
          let first = complete_in c.team d in
          let second = ltb (barriers_of d) (barriers_of c) in
          let t = in-complete c.team d (and_left first second w.passes) in
          let most = b c d m w.present t.0 t.1 in
          let less = ltb-true (barriers_of d) (barriers_of c) (and_right first second w.passes) in
          omega arith

-- what is left of shaped chunks is shaped
module _ {cs ds : List Chunk} (rs : EachRemains cs ds) where
  still-bounded : Bounded cs → Bounded ds
  still-bounded b c d m l q e =
      let u = source rs m in
      let v = source rs l in
      let all = remains-complete v.remains e in
      let most = b u.chunk v.chunk u.present v.present (sym v.remains.team ∙ q ∙ u.remains.team) all.0 in
      let less = remains-barriers u.remains in
      let same = all.1 in
      omega arith

  lacks : (t size : ℕ) → lacks_chunk ds t size ≡ lacks_chunk cs t size
  lacks = lacks-same ds cs (same-members rs)

  still-shaped : Shaped cs → Shaped ds
  still-shaped s =
      record {
        forks_once = rw (same-forks rs) s.forks_once;
        members_once = rw (same_keys rs) s.members_once;
        members_low = λ d m. low d (source rs m);
        root = lacks 0 1 ∙ s.root;
        present = λ f m. lacks f.team f.size ∙ s.present f (rw (same-forks rs) at m);
        shallow = λ f m. rw (same-forks rs) (s.shallow f (rw (same-forks rs) at m));
        alike = bounded-alike ds (still-bounded (bounded cs s));
        none_beyond = bounded-beyond ds (still-bounded (bounded cs s));
      }
    where
      low : (d : Chunk) → Source cs d → leb (size_of (forks_of ds) d.team) d.member ≡ false
      low d u = rw (same-forks rs, u.remains.team, u.remains.member) (s.members_low u.chunk u.present)

-- the bytes of commands, counted
printed-length : (cs : List Command) → length (printed cs) ≡ total (λ (c : Command). length (bytes_of c)) cs
unfolding printed total
printed-length [] = refl
printed-length (c ∷ cs) = rw (length-append (bytes_of c) (concat_map bytes_of cs), printed-length cs)

-- CUT opens no segment, is no access, and has one byte
cut-opens : (c : Command) → opens_segment Com.Cut ≤ opens_segment c
unfolding opens_segment
cut-opens c = omega arith

cut-accesses : (c : Command) → adds_access Com.Cut ≤ adds_access c
unfolding adds_access
cut-accesses c = omega arith

cut_short : (c : Command) → length (bytes_of Com.Cut) ≤ length (bytes_of c)
cut_short c = let one = closes-width Com.Cut cut-closes in let some = bytes-some c in omega arith

still-sound : {cs ds : List Chunk} → EachRemains cs ds → Sound cs → Sound ds
still-sound {cs} {ds} rs s =
    record {
      formed = formed;
      order = scan-chunks ds formed ∙ all-intro passing ds (λ d m. let u = source rs m in remains-orderly u.remains (all-elim passing each u.present));
      room =
          record {
            segments = omega (arith, fewer opens_segment cut-opens rs, s.room.segments);
            accesses = omega (arith, fewer adds_access cut-accesses rs, s.room.accesses);
            one_group =
                record {
                  group = s.room.one_group.group;
                  before = s.room.one_group.before;
                  each =
                      λ a m.
                      let f = concat_map-elim log_of ds m in
                      let u = source rs f.present in
                      s.room.one_group.each a (concat_map-intro log_of u.present (remains-access u.remains f.gives));
                };
          };
      short = le-ltb 65536 (length (printed (concat_map log_of ds))) short;
      shaped = still-shaped rs s.shaped;
    }
  where
    passing : Chunk → Bool
    passing c = orderly start (log_of c)

    formed : (d : Chunk) → Memᴰ d ds → Formed d
    formed d m = (source rs m).remains.formed

    each : all passing cs ≡ true
    each = sym (scan-chunks cs s.formed) ∙ s.order

    short : length (printed (concat_map log_of ds)) ≤ 65536
    short =
        let before = printed-length (concat_map log_of cs) in
        let after = printed-length (concat_map log_of ds) in
        let less = fewer (λ (c : Command). length (bytes_of c)) cut_short rs in
        let most = ltb-false 65536 (length (printed (concat_map log_of cs))) s.short in
        omega arith

-- put one after another, they are the chunks shortened
settled-shortened : (at : ℕ) {c d : Chunk} → Remains c d → Shortened c (settled at d)
unfolding settled
settled-shortened at {c} {d} r = remains-shortened r refl refl (unfold commands_of in (commands-placed _ (commands_of d)))

settle-shortened : (at : ℕ) {cs ds : List Chunk} → EachRemains cs ds → EachShortened cs (settle at ds)
unfolding settle
settle-shortened at no_more = EachShortened.none
settle-shortened at (one_more {d = d} r rs) = EachShortened.more (settled-shortened at r) (settle-shortened (at + length (printed (log_of d))) rs)

-- what a cut leaves of a chunk, and that its bytes are those of the cut
record OneCut (c : Chunk) (part : List ℕ) : Type 0 where
  pub chunk : Chunk
  pub remains : Remains c chunk
  pub bytes : part ≡ printed (log_of chunk)

cut-one : (b : List ℕ) (c : Chunk) {part : List ℕ} → Formed c → part_of b c ≡ printed (log_of c) → CutTo b c part → OneCut c part
cut-one b c f p CutTo.whole =
    record { chunk = c; remains = record { team = refl; member = refl; body = left-whole f.body_ok; formed = f }; bytes = p }
cut-one b c f p (CutTo.cut kept lost q some none) =
    record {
      chunk = d;
      remains = record { team = refl; member = refl; body = w.left; formed = record { body_ok = left_body w.left; past_ok = refl } };
      bytes = unfold log_bytes printed log_of commands_of in (rw w.commands);
    }
  where
    no_region : (e : Command) → Memᴰ e lost → forking e ≡ false
    no_region e m = unfold forking is_region in (is_false (on_region false (λ t z. true) e) (λ h. not-both (any-intro is_region m h) none))

    w : LeftAs c.body (kept ++ (Com.Cut ∷ []))
    w = left_cut kept lost f.body_ok (unfold commands_of in q) some no_region

    d : Chunk
    d = record { place = 0; team = c.team; member = c.member; body = w.rest; past = (gather w.rest).past }

record AllCut (cs : List Chunk) (parts : List (List ℕ)) : Type 0 where
  pub chunks : List Chunk
  pub each : EachRemains cs chunks
  pub bytes : back_to_back parts ≡ printed (concat_map log_of chunks)

cut-each :
    (b : List ℕ) {cs : List Chunk} {parts : List (List ℕ)}
    → ((c : Chunk) → Memᴰ c cs → Formed c × (part_of b c ≡ printed (log_of c)))
    → CutEach b cs parts
    → AllCut cs parts
unfolding printed
cut-each b h CutEach.none = record { chunks = []; each = no_more; bytes = refl }
cut-each b h (CutEach.more {c = c} t ts) =
    let here = h c (Memᴰ.head refl) in
    let one = cut-one b c here.0 here.1 t in
    let rest = cut-each b (λ d m. h d (Memᴰ.tail m)) ts in
    record {
      chunks = one.chunk ∷ rest.chunks;
      each = one_more one.remains rest.each;
      bytes = (λ i. one.bytes i ++ rest.bytes i) ∙ sym (concat_map-append bytes_of (log_of one.chunk) (concat_map log_of rest.chunks));
    }

-- "Cutting chunks of an accepted bundle at command ends, with no REGION lost, gives an accepted bundle", whose chunks are those of the first,
-- shortened
pub cut-bundle : (b c : List ℕ) → Bytes b → Accepted b → Cutting b c → Accepted c × EachShortened (chunks_of b) (chunks_of c)
cut-bundle b c bytes a k = subst Result (sym same) (m.accepted, rw m.chunks (settle-shortened 0 w.each))
  where
    s : Sound (chunks_of b)
    s = (known b bytes a).sound

    w : AllCut (chunks_of b) k.parts
    w = cut-each b (λ d l. (s.formed d l, part-printed b bytes a d l)) k.each

    m : Made w.chunks
    m = made w.chunks (still-sound w.each s)

    same : c ≡ printed (concat_map log_of w.chunks)
    same = k.back-to-back ∙ w.bytes

    Result : List ℕ → Type 0
    Result x = Accepted x × EachShortened (chunks_of b) (chunks_of x)
