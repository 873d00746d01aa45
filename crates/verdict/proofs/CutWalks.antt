-- Chunks that are cut: their accesses are accesses of the full chunks, their REGIONs are the same, and each of their segments is one of the
-- full chunks as far as its opening tells.
use Prim.Native.Nat.{ℕ, ◌+◌}
use mathlib.Core.Path.{◌≡◌, refl, sym, ◌∙◌, ap, ap₂, subst}
use mathlib.Core.Logic.{⊎_elim}
use mathlib.Core.Bool.{true, false}
use mathlib.Core.List.Memᴰ
use mathlib.Core.List.{List, [], ◌∷◌, ◌++◌, map, map-append, append-nil, Memᴰ}
use Rattle.bundle.specs.Lists.{concat_map}
use Rattle.bundle.specs.Chunks.{Placed, Chunk, fresh, after_command, commands_of}
use Rattle.bundle.specs.Walk.{Border, of_chunk, of_barrier, of_region, borders, opens_segment, adds_access, Entry, entries_from, entries_of, fork_at, forks_in, forks_of, Opening, opening_at, segments_from}
use Rattle.bundle.specs.declared.chunk.ChunkState.{ChunkState}
use Rattle.bundle.specs.declared.command.Command.{Command}
use Rattle.bundle.specs.declared.index.Fork.{Fork}
use Rattle.bundle.proofs.ListLaws.{concat_map-elim, concat_map-intro, concat_map-append, concat_map-none}
use Rattle.bundle.proofs.Delimiters.{closes, forking, on-no-access, on-no-opening, closes-forks-none, closes-opens-none, closes-accesses-none}
use Rattle.bundle.proofs.Places.{unplaced_command, unplaced}
use Rattle.bundle.proofs.ShapeOrder.{unplaced_fork, forks-unplaced}
use Rattle.bundle.proofs.Onward.{entry-stands}
use Rattle.bundle.proofs.CutChunks.{no-fork}
use Rattle.bundle.proofs.Shortening.{Shortened, EachShortened, none, more}
use Rattle.verdict.specs.Graph.{Segment, segments_in, segments_of}
use Rattle.verdict.specs.Accesses.{NamedAccess, access_at, accesses_in, accesses_of}
use Rattle.verdict.proofs.SameRaces.{segments_in-unplaced, accesses_in-unplaced}

-- commands without offsets
abbrev placeless : Command → Placed
placeless c = record { at = 0; command = c }

body-placeless : (ps : List Placed) → map unplaced_command ps ≡ map placeless (map (λ (p : Placed). p.command) ps)
unfolding unplaced_command
body-placeless [] = refl
body-placeless (p ∷ ps) = ap (λ (qs : List Placed). placeless p.command ∷ qs) (body-placeless ps)

-- the walk past some commands: the state and the numbers that it reaches
record Reached (k : ChunkState) (g n : ℕ) (ps : List Placed) : Type 0 where
  state : ChunkState
  segment : ℕ
  accesses : ℕ
  onward : (qs : List Placed) → entries_from k g n (ps ++ qs) ≡ entries_from k g n ps ++ entries_from state segment accesses qs

reached : (k : ChunkState) (g n : ℕ) (ps : List Placed) → Reached k g n ps
unfolding entries_from
reached k g n [] = record { state = k; segment = g; accesses = n; onward = λ qs. refl }
reached k g n (p ∷ ps) =
    let r = reached (after_command k p.command) (g + opens_segment p.command) (n + adds_access p.command) ps in
    let e : Entry = record { at = p.at; command = p.command; state = k; segment = g; accesses = n } in
    record {
      state = r.state;
      segment = r.segment;
      accesses = r.accesses;
      onward = λ qs. ap (λ (es : List Entry). e ∷ es) (r.onward qs);
    }

-- the walk over a full chunk and over the one that is left of it, without offsets
record Walked (c d : Chunk) : Type 0 where
  before : List Entry
  behind : List Entry
  closing : Entry
  whole : entries_of (unplaced c) ≡ before ++ behind
  cut : entries_of (unplaced d) ≡ before ++ (closing ∷ [])
  closed : closes closing.command ≡ true
  no_region : (e : Entry) → Memᴰ e behind → forking e.command ≡ false

module _ (kept : List Command) where
  past : Reached fresh 0 0 (map placeless kept)
  past = reached fresh 0 0 (map placeless kept)

  walk-parts :
      (c : Chunk) (others : List Command)
      → commands_of c ≡ kept ++ others
      → entries_of (unplaced c)
      ≡ entries_from fresh 0 0 (map placeless kept) ++ entries_from past.state past.segment past.accesses (map placeless others)
  unfolding entries_of unplaced commands_of
  walk-parts c others e =
      ap (entries_from fresh 0 0) (body-placeless c.body ∙ ap (map placeless) e ∙ map-append placeless kept others)
      ∙ past.onward (map placeless others)

walked : {c d : Chunk} → Shortened c d → Walked c d
unfolding entries_from
walked {c} {d} s =
    let r = past s.kept in
    record {
      before = entries_from fresh 0 0 (map placeless s.kept);
      behind = entries_from r.state r.segment r.accesses (map placeless s.lost);
      closing = record { at = 0; command = s.last; state = r.state; segment = r.segment; accesses = r.accesses };
      whole = walk-parts s.kept c s.lost s.before;
      cut = walk-parts s.kept d (s.last ∷ []) s.after;
      closed = s.closing;
      no_region = λ e m.
          let p = entry-stands r.state r.segment r.accesses (map placeless s.lost) e m in
          let w = Memᴰ.of_map placeless s.lost p.present in
          subst (λ (x : Command). forking x ≡ false) (ap (λ (q : Placed). q.command) w.2 ∙ p.command) (s.no_region w.0 w.1);
    }

-- what closes a chunk is no access and opens no segment, so such an entry gives nothing
module _ (e : Entry) (h : closes e.command ≡ true) where
  closing-access : (t m : ℕ) → access_at t m e ≡ []
  unfolding access_at
  closing-access t m = on-no-access [] _ e.command (closes-accesses-none e.command h)

  closing-opening : opening_at e ≡ []
  unfolding opening_at borders
  closing-opening =
      ap (map (λ (b : Border). record { border = b; state = after_command e.state e.command }))
      (on-no-opening [] (of_chunk ∷ []) (λ t. of_region t ∷ []) (of_barrier e.state.barriers ∷ []) e.command (closes-opens-none e.command h))

-- what is read off the entries, in the two chunks
module _ {c d : Chunk} (w : Walked c d) {B : Type 0} (f : Entry → List B) where
  in_whole : concat_map f (entries_of (unplaced c)) ≡ concat_map f w.before ++ concat_map f w.behind
  in_whole = ap (concat_map f) w.whole ∙ concat_map-append f w.before w.behind

  in_cut : f w.closing ≡ [] → concat_map f (entries_of (unplaced d)) ≡ concat_map f w.before
  in_cut h =
      ap (concat_map f) w.cut
      ∙ concat_map-append f w.before (w.closing ∷ [])
      ∙ rw h (append-nil (concat_map f w.before))

-- a segment with the node of another and opened with the same state
pub record Lasting (ss : List Segment) (g : Segment) : Type 0 where
  pub segment : Segment
  pub present : Memᴰ segment ss
  pub node : segment.node ≡ g.node
  pub state : segment.state ≡ g.state

lasting-in : {ss us : List Segment} {g : Segment} → ((h : Segment) → Memᴰ h ss → Memᴰ h us) → Lasting ss g → Lasting us g
lasting-in f l = record { segment = l.segment; present = f l.segment l.present; node = l.node; state = l.state }

module _ (t m n : ℕ) (o : Opening) where
  -- the segment of an opening, ended by a border
  abbrev ended_by : Border → Segment
  ended_by b = record { node = record { team = t; member = m; number = n }; opened = o.border; state = o.state; ended = b }

  first-lasting : {b e : Border} {us : List Segment} {g : Segment} → g ≡ ended_by b → Lasting (ended_by e ∷ us) g
  first-lasting {e = e} q =
      record {
        segment = ended_by e;
        present = Memᴰ.head refl;
        node = ap (λ (h : Segment). h.node) (sym q);
        state = ap (λ (h : Segment). h.state) (sym q);
      }

-- more openings behind the last change only what ends it
segments-last :
    (t m n : ℕ) (o : Opening) (os ps : List Opening) {g : Segment}
    → Memᴰ g (segments_from t m n o os)
    → Lasting (segments_from t m n o (os ++ ps)) g
unfolding segments_from
segments-last t m n o [] [] l = first-lasting t m n o (Memᴰ.eq_of_singleton l)
segments-last t m n o [] (p ∷ ps) l = first-lasting t m n o (Memᴰ.eq_of_singleton l)
segments-last t m n o (p ∷ os) ps l =
    ⊎_elim
    (first-lasting t m n o)
    (λ k. lasting-in (λ h i. Memᴰ.tail i) (segments-last t m (n + 1) p os ps k))
    (Memᴰ.cases_cons l)

-- chunk by chunk, without offsets
module _ {c d : Chunk} (s : Shortened c d) where
  walk : Walked c d
  walk = walked s

  accesses-in : {x : NamedAccess} → Memᴰ x (accesses_in (unplaced d)) → Memᴰ x (accesses_in (unplaced c))
  unfolding accesses_in unplaced
  accesses-in {x} l =
      let f = access_at c.team c.member in
      let own : access_at d.team d.member ≡ f = ap₂ access_at s.team s.member in
      let m = subst (λ (g : Entry → List NamedAccess). Memᴰ x (concat_map g (entries_of (unplaced d)))) own l in
      rw (in_whole walk f)
      (Memᴰ.append_left (concat_map f walk.behind)
      (rw (in_cut walk f (closing-access walk.closing walk.closed c.team c.member)) at m))

  forks-in : forks_in (unplaced c) ≡ forks_in (unplaced d)
  unfolding forks_in unplaced
  forks-in =
      let f = fork_at c.team c.member in
      in_whole walk f
      ∙ ap (λ (l : List Fork). concat_map f walk.before ++ l) (concat_map-none f walk.behind (λ e m. no-fork c.team c.member e (walk.no_region e m)))
      ∙ append-nil (concat_map f walk.before)
      ∙ sym (in_cut walk f (no-fork c.team c.member walk.closing (closes-forks-none walk.closing.command walk.closed)))
      ∙ ap₂ (λ (t m : ℕ). concat_map (fork_at t m) (entries_of (unplaced d))) (sym s.team) (sym s.member)

  segments-in : {g : Segment} → Memᴰ g (segments_in (unplaced d)) → Lasting (segments_in (unplaced c)) g
  unfolding segments_in unplaced
  segments-in {g} l =
      let o : Opening = record { border = of_chunk; state = fresh } in
      let os = concat_map opening_at walk.before in
      let own =
      ap₂ (λ (t m : ℕ). segments_from t m 0 o (concat_map opening_at (entries_of (unplaced d)))) s.team s.member
      ∙ ap (segments_from c.team c.member 0 o) (in_cut walk opening_at (closing-opening walk.closing walk.closed))
      in
      rw (in_whole walk opening_at)
      (segments-last c.team c.member 0 o os (concat_map opening_at walk.behind) (subst (Memᴰ g) own l))

-- the full chunk of one that is cut
record Full (cs : List Chunk) (d : Chunk) : Type 0 where
  chunk : Chunk
  present : Memᴰ chunk cs
  shortened : Shortened chunk d

full : {cs ds : List Chunk} {d : Chunk} → EachShortened cs ds → Memᴰ d ds → Full cs d
full none l = absurd (Memᴰ.not-nil l)
full {d = d} (more {c = c} s each) l =
    ⊎_elim
    (λ e. record { chunk = c; present = Memᴰ.head refl; shortened = subst (Shortened c) (sym e) s })
    (λ m. let f = full each m in record { chunk = f.chunk; present = Memᴰ.tail f.present; shortened = f.shortened })
    (Memᴰ.cases_cons l)

module _ {cs ds : List Chunk} (each : EachShortened cs ds) where
  -- an access that survives is one of the full chunks
  pub cut-accesses : {x : NamedAccess} → Memᴰ x (accesses_of ds) → Memᴰ x (accesses_of cs)
  unfolding accesses_of
  cut-accesses {x} l =
      let from = concat_map-elim accesses_in ds l in
      let f = full each from.present in
      concat_map-intro accesses_in f.present
      (rw (accesses_in-unplaced f.chunk) at (accesses-in f.shortened {x = x} (rw (accesses_in-unplaced from.source) from.gives)))

  pub cut-segments : {g : Segment} → Memᴰ g (segments_of ds) → Lasting (segments_of cs) g
  unfolding segments_of
  cut-segments {g} l =
      let from = concat_map-elim segments_in ds l in
      let f = full each from.present in
      lasting-in (λ h m. concat_map-intro segments_in f.present m)
      (rw (segments_in-unplaced f.chunk) at (segments-in f.shortened {g = g} (rw (segments_in-unplaced from.source) from.gives)))

forks-each : {cs ds : List Chunk} → EachShortened cs ds → forks_of (map unplaced cs) ≡ forks_of (map unplaced ds)
unfolding forks_of
forks-each none = refl
forks-each (more s each) = ap₂ (λ (l k : List Fork). l ++ k) (forks-in s) (forks-each each)

-- the REGIONs are the same but for their offsets
pub cut-forks : {cs ds : List Chunk} → EachShortened cs ds → map unplaced_fork (forks_of cs) ≡ map unplaced_fork (forks_of ds)
cut-forks {cs} {ds} each = sym (forks-unplaced cs) ∙ forks-each each ∙ forks-unplaced ds
