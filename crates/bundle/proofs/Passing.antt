-- The pass over a bundle: each command adds its rows, and at the end the tables hold the rows of all chunks and REGIONs.
use Prim.Native.Nat.{ℕ, zero, suc, ◌+◌, ◌-◌, ◌≤◌, ◌<◌}
use mathlib.Core.Path.{◌≡◌, refl, sym, ◌∙◌, ap, ap₂, subst}
use mathlib.Core.Bool.{Bool, true, false, cond, not, ◌||◌}
use mathlib.Core.List.{List, [], ◌∷◌, ◌++◌, map, append_assoc, append-nil}
use native.Mathlib.Omega.{arith}
use native.Mathlib.Nat.{add-zero, add_assoc}
use lib.Dec.{eqb, ltb}
use lib.ListN.{length}
use borrow.Author.Tests.{eqb-true, le-leb, lt-leb, ltb-false}
use Rattle.bundle.specs.Answer.{Answer, gives, refuses, when_given}
use Rattle.bundle.specs.Lists.{any, concat_map}
use Rattle.bundle.specs.Cases.{on_region, on_access}
use Rattle.bundle.specs.Commands.{Taken, decode_at}
use Rattle.bundle.specs.Chunks.{Placed, Front, fresh, after_command, after_commands, follow, front_from, front_of, gather_one, gather, chunks_of, commands_of, is_end, complete}
use Rattle.bundle.specs.Walk.{opens_segment, adds_access, entries_from, entries_of, barriers_of, fork_at, forks_in, forks_of}
use Rattle.bundle.specs.Scan.{is_member, misplaced, too_many, fault_of, start, scanned, finish, walk, scan_of}
use Rattle.bundle.specs.Index.{chunk_row_at, fork_row_at, table_from, table, Added, total, log_of, chunk_row, rows_from, chunk_rows}
use Rattle.bundle.specs.Survey.{Bounded, Stepped, tested_at, step_at, beginning, opened_at, closed_row, fork_here, pass_after, new_chunks, new_forks, Notable, Noted, open_row, rows_behind, chunks_to_come, forks_to_come, Surveying, finished, Surveyed}
use Rattle.bundle.specs.declared.chunk.ChunkState.{ChunkState}
use Rattle.bundle.specs.declared.scan.Scan.{Scan}
use Rattle.bundle.specs.declared.command.Access.{Access}
use Rattle.bundle.specs.declared.command.Command.{Command}
use Rattle.bundle.specs.declared.command.Command.TheVariants as Com
use Rattle.bundle.specs.declared.index.ChunkRow.{ChunkRow}
use Rattle.bundle.specs.declared.index.Fork.{Fork}
use Rattle.bundle.specs.declared.survey.Progress.{Progress}
use Rattle.bundle.specs.declared.survey.RowCounts.{RowCounts}
use Rattle.bundle.specs.declared.refusal.Refusal.{Refusal}
use Rattle.std.specs.declared.result.Result.{Result}
use Rattle.std.specs.declared.result.Result.TheVariants.{Ok, Err}
use Rattle.bundle.specs.declared.refusal.Cause.TheVariants as Causes
use Rattle.bundle.proofs.Tests.{cond-elim, or-false, false_of_not, false-is-true}
use Rattle.bundle.proofs.Delimiters.{plain, closes, closes-forks-none, closes-keeps, closes-width, state-counts, Delimiter, opens_chunk, closes_chunk, neither, delimits, on-plain, on-closes, Forking, forks_team, forks_none, forkings, on-other, plain-not-end, Accessing, accesses_some, accesses_none, accessings, on-no-access}
use Rattle.bundle.proofs.Tables.{table-added}
use Rattle.bundle.proofs.Gathering.{gather-plain, gather-closes}
use Rattle.bundle.proofs.Decoding.{decode-next}
use Rattle.bundle.proofs.Scanning.{no-fault, tested}

-- a command that is no MEMBER stands inside a chunk
inside-plain : (k : Scan) (c : Command) → plain c ≡ true → misplaced k c ≡ false → k.inside ≡ true
unfolding misplaced is_member
inside-plain k c h e = out k.inside (rw (on-plain false (λ t m. true) false c h) at e)
  where
    out : (i : Bool) → not i ≡ false → i ≡ true
    out true q = refl
    out false q = sym q

inside-closes : (k : Scan) (c : Command) → closes c ≡ true → misplaced k c ≡ false → k.inside ≡ true
unfolding misplaced is_member
inside-closes k c h e = out k.inside (rw (on-closes false (λ t m. true) false c h) at e)
  where
    out : (i : Bool) → not i ≡ false → i ≡ true
    out true q = refl
    out false q = sym q

-- neither a plain command's scan nor the chunk that is open changes but for the state and the counts
record Continued (p : Progress) (c : Command) (next : ℕ) : Type 0 where
  scan :
      scanned p.scan c
      ≡ record {
        inside = p.scan.inside;
        team = p.scan.team;
        state = after_command p.scan.state c;
        segments = p.scan.segments + opens_segment c;
        accesses = p.scan.accesses + adds_access c;
        wide = on_access p.scan.wide (λ a. a.wide) c;
      }
  pass :
      pass_after p c (scanned p.scan c) next
      ≡ record {
        at = next;
        scan = scanned p.scan c;
        chunk = p.chunk;
        chunks = p.chunks;
        forks = on_region p.forks (λ t z. p.forks + 1) c;
      }

continued : (p : Progress) (c : Command) (next : ℕ) → plain c ≡ true → Continued p c next
continued p c next h =
    record {
      scan =
          unfold scanned in
          (rw (
            on-plain p.scan.inside (λ t m. true) false c h,
            on-plain p.scan.team (λ t m. t) 0 c h,
            on-plain (after_command p.scan.state c) (λ t m. fresh) fresh c h,
          ));
      pass =
          unfold pass_after in
          (rw (on-plain p.chunk (λ t m. opened_at p m) p.chunk c h, on-plain p.chunks (λ t m. p.chunks) (p.chunks + 1) c h));
    }

-- what is to come of the rows, with the scan's parts by name
module _ (p : Progress) (next : ℕ) (ps : List Placed) (c : Command) where
  abbrev here : Placed
  here = record { at = p.at; command = c }

  abbrev after : Progress
  after = pass_after p c (scanned p.scan c) next

  abbrev Comes : Type 0
  Comes =
      (chunks_to_come p (gather_one here (gather ps)) ≡ new_chunks p c ++ chunks_to_come after (gather ps))
      × (forks_to_come p (gather_one here (gather ps)) ≡ new_forks p c ++ forks_to_come after (gather ps))

-- the REGIONs of entries do not see the numbers of segments and accesses
forks-any : (t m : ℕ) (k : ChunkState) (g n : ℕ) (ps : List Placed) → concat_map (fork_at t m) (entries_from k g n ps) ≡ concat_map (fork_at t m) (entries_from k 0 0 ps)
unfolding entries_from fork_at
forks-any t m k g n [] = refl
forks-any t m k g n (p ∷ ps) =
    let k' = after_command k p.command in
    let g' = opens_segment p.command in
    let n' = adds_access p.command in
    rw (forks-any t m k' (g + g') (n + n') ps, forks-any t m k' (0 + g') (0 + n') ps)

comes-opens : (p : Progress) (next : ℕ) (ps : List Placed) (t m : ℕ) → p.scan.inside ≡ false → Comes p next ps (Com.Member t m)
unfolding chunks_to_come forks_to_come new_chunks new_forks pass_after scanned gather_one open_row rows_behind opened_at rows_from chunk_row total log_of barriers_of complete commands_of forks_of forks_in entries_of opens_segment adds_access
comes-opens p next ps t m e =
    let cs = map (λ (q : Placed). q.command) (gather ps).body in
    rw e (
      ap₂ (λ (g n : ℕ). open_row (after p next ps (Com.Member t m)) cs (gather ps).past ∷ rows_from g n (gather ps).chunks)
          (sym (add_assoc p.scan.segments 1 (total opens_segment cs)))
          (sym (add_assoc p.scan.accesses 0 (total adds_access cs))),
      refl,
    )

or-none : (b : Bool) → (b || false) ≡ b
or-none true = refl
or-none false = refl

comes-closes : (p : Progress) (next : ℕ) (ps : List Placed) (c : Command) → closes c ≡ true → p.scan.inside ≡ true → Comes p next ps c
unfolding chunks_to_come forks_to_come new_chunks new_forks pass_after scanned open_row rows_behind closed_row fork_here total after_commands entries_from fork_at gather rows_from forks_of
comes-closes p next ps c h e =
    rw (
      gather-closes (here p next ps c) (gather ps) h,
      on-closes p.scan.inside (λ t m. true) false c h,
      e,
      on-closes [] (λ t m. []) (closed_row p (is_end c) ∷ []) c h,
      closes-keeps p.scan.state c h,
      closes-width c h,
      add-zero (opens_segment c),
      add-zero (adds_access c),
      or-none (is_end c),
    )
    (refl, ap (λ (fs : List Fork). fs ++ forks_of (gather ps).chunks) (append-nil (new_forks p c)))

comes-plain : (p : Progress) (next : ℕ) (ps : List Placed) (c : Command) → plain c ≡ true → p.scan.inside ≡ true → Comes p next ps c
unfolding chunks_to_come forks_to_come new_chunks new_forks open_row rows_behind fork_here total after_commands entries_from fork_at gather rows_from closed_row forks_of
comes-plain p next ps c h e =
    let d = continued p c next h in
    let cs = map (λ (q : Placed). q.command) (gather ps).body in
    let k = after_command p.scan.state c in
    let row : ChunkRow =
    record {
      place = p.chunk.place;
      past = (gather ps).past;
      team = p.scan.team;
      member = p.chunk.member;
      barriers = (after_commands k cs).barriers;
      complete = any is_end cs;
      segments = p.chunk.segments;
      accesses = p.chunk.accesses;
    }
    in
    rw (
      gather-plain (here p next ps c) (gather ps) h,
      d.pass,
      d.scan,
      e,
      on-plain [] (λ t m. []) (closed_row p (is_end c) ∷ []) c h,
      plain-not-end c h,
    ) (
      ap₂ (λ (g n : ℕ). row ∷ rows_from g n (gather ps).chunks)
          (sym (add_assoc p.scan.segments (opens_segment c) (total opens_segment cs)))
          (sym (add_assoc p.scan.accesses (adds_access c) (total adds_access cs))),
      append_assoc (new_forks p c) (concat_map (fork_at p.scan.team p.chunk.member) (entries_from k (0 + opens_segment c) (0 + adds_access c) (gather ps).body)) (forks_of (gather ps).chunks)
          ∙ ap (λ (fs : List Fork). new_forks p c ++ (fs ++ forks_of (gather ps).chunks)) (forks-any p.scan.team p.chunk.member k (0 + opens_segment c) (0 + adds_access c) (gather ps).body),
    )

comes : (p : Progress) (next : ℕ) (ps : List Placed) (c : Command) → misplaced p.scan c ≡ false → Comes p next ps c
comes p next ps c e = go c (delimits c) e
  where
    go : (c : Command) → Delimiter c → misplaced p.scan c ≡ false → Comes p next ps c
    go c (opens_chunk t m) q = comes-opens p next ps t m (unfold misplaced is_member in q)
    go c (closes_chunk h) q = comes-closes p next ps c h (inside-closes p.scan c h q)
    go c (neither h) q = comes-plain p next ps c h (inside-plain p.scan c h q)

-- the counts after a command
room : (k : Scan) (c : Command) → too_many k c ≡ false → (k.segments + opens_segment c ≤ 512) × (k.accesses + adds_access c ≤ 1024)
unfolding too_many
room k c e =
    let f = or-false (ltb 512 (k.segments + opens_segment c)) (ltb 1024 (k.accesses + adds_access c)) e in
    (ltb-false 512 (k.segments + opens_segment c) f.0, ltb-false 1024 (k.accesses + adds_access c) f.1)

abbrev Opened : Bool → ℕ
Opened i = cond i 1 0

fork-opens : (n : ℕ) (c : Command) → on_region n (λ t z. n + 1) c ≤ n + opens_segment c
fork-opens n c = go c (forkings c)
  where
    go : (c : Command) → Forking c → on_region n (λ t z. n + 1) c ≤ n + opens_segment c
    go c (forks_team t z) = unfold opens_segment in (omega arith)
    go c (forks_none h) = rw (on-other n (λ t z. n + 1) c h) (omega arith)

-- the wide group is that of accesses, after a command too
grouped-after : (k : Scan) (c : Command) → Bounded k → on_access k.wide (λ (a : Access). a.wide) c ≡ true → 0 < k.accesses + adds_access c
unfolding adds_access
grouped-after k c b = go (accessings c)
  where
    go : {d : Command} → Accessing d → on_access k.wide (λ (a : Access). a.wide) d ≡ true → 0 < k.accesses + adds_access d
    go (accesses_some a) e = omega arith
    go (accesses_none {c = d} n) e =
        rw (on-no-access {A = ℕ} 0 (λ (a : Access). 1) d n, add-zero k.accesses)
        (b.grouped (sym (on-no-access k.wide (λ (a : Access). a.wide) d n) ∙ e))

module _ (p : Progress) (next : ℕ) where
  abbrev Counts : Command → Type 0
  Counts c =
      Bounded (scanned p.scan c)
      × ((pass_after p c (scanned p.scan c) next).chunks
      + (pass_after p c (scanned p.scan c) next).forks
      + Opened (scanned p.scan c).inside
      ≤ (scanned p.scan c).segments)

  counts :
      (c : Command)
      → misplaced p.scan c ≡ false
      → too_many p.scan c ≡ false
      → Bounded p.scan
      → p.chunks + p.forks + Opened p.scan.inside ≤ p.scan.segments
      → Counts c
  counts c e l b f = go c (delimits c) e (room p.scan c l)
    where
      k : Scan
      k = p.scan

      go : (c : Command) → Delimiter c → misplaced k c ≡ false → (k.segments + opens_segment c ≤ 512) × (k.accesses + adds_access c ≤ 1024) → Counts c
      go c (opens_chunk t m) q r =
          unfold scanned pass_after opens_segment adds_access fresh in
          (let i : k.inside ≡ false = unfold misplaced is_member in q in
          let o : p.chunks + p.forks + 0 ≤ k.segments = rw i at f in
          (record { segments = unfold opens_segment in r.0; accesses = unfold adds_access in r.1; opened = omega arith; grouped = grouped-after k c b }, omega arith))
      go c (closes_chunk h) q r =
          let o : p.chunks + p.forks + 1 ≤ k.segments = rw (inside-closes k c h q) at f in
          unfold scanned pass_after in
          (rw (
            on-closes k.inside (λ t m. true) false c h,
            on-closes (after_command k.state c) (λ t m. fresh) fresh c h,
            on-closes p.chunks (λ t m. p.chunks) (p.chunks + 1) c h,
            on-other p.forks (λ t z. p.forks + 1) c (closes-forks-none c h),
          )
          (record { segments = r.0; accesses = r.1; opened = unfold fresh in (omega arith); grouped = grouped-after k c b }, omega arith))
      go c (neither h) q r =
          let i = inside-plain k c h q in
          let d = continued p c next h in
          let o : p.chunks + p.forks + 1 ≤ k.segments = rw i at f in
          let n = fork-opens p.forks c in
          let s = state-counts k.state c in
          rw (d.pass, d.scan, i)
          (record { segments = r.0; accesses = r.1; opened = omega (arith, b.opened); grouped = grouped-after k c b }, omega arith)

-- what a step that gives, or refuses, tells
record Gave (k : Scan) (d : Answer Taken) (st : Stepped) : Type 0 where
  decodes : d ≡ gives (record { command = st.command; next = st.next })
  sound : fault_of k st.command ≡ 0
  scan : st.scan ≡ scanned k st.command

gave : (k : Scan) (at : ℕ) (d : Answer Taken) (st : Stepped) → when_given d (tested_at k at) ≡ gives st → Gave k d st
unfolding tested_at
gave k at (refuses n q) st e = let z : ◌≡◌ {A = ℕ} 0 1 = cc in absurd (omega arith)
gave k at (gives t) st e = go (eqb (fault_of k t.command) 0) refl e
  where
    go :
        (b : Bool)
        → eqb (fault_of k t.command) 0 ≡ b
        → cond b (gives (record { scan = scanned k t.command; command = t.command; next = t.next })) (refuses (fault_of k t.command) at) ≡ gives st
        → Gave k (gives t) st
    go true h q =
        let s : record { scan = scanned k t.command; command = t.command; next = t.next } ≡ st = cc in
        subst (Gave k (gives t)) s (record { decodes = refl; sound = eqb-true (fault_of k t.command) 0 h; scan = refl })
    go false h q = let z : ◌≡◌ {A = ℕ} 0 1 = cc in absurd (omega arith)

refused :
    (k : Scan) (at n q : ℕ) (d : Answer Taken) (rest : ℕ → Front)
    → when_given d (tested_at k at) ≡ refuses n q
    → walk (follow rest at d).placed (follow rest at d).stop k ≡ refuses n q
unfolding tested_at follow walk
refused k at n q (refuses m r) rest e = let u : m ≡ n = cc in let w : r ≡ q = cc in ap₂ refuses u w
refused k at n q (gives t) rest e = go (eqb (fault_of k t.command) 0) e
  where
    go :
        (b : Bool)
        → cond {A = Answer Stepped} b (gives (record { scan = scanned k t.command; command = t.command; next = t.next })) (refuses (fault_of k t.command) at) ≡ refuses n q
        → cond b (walk (rest t.next).placed (rest t.next).stop (scanned k t.command)) (refuses (fault_of k t.command) at) ≡ refuses n q
    go true f = let z : ◌≡◌ {A = ℕ} 0 1 = cc in absurd (omega arith)
    go false f = let u : fault_of k t.command ≡ n = cc in let w : at ≡ q = cc in ap₂ refuses u w

front-here : (fuel : ℕ) (s : List ℕ) (at : ℕ) → at < length s → front_from (suc fuel) s at ≡ follow (front_from fuel s) at (decode_at s at)
unfolding front_from
front-here fuel s at h = rw (lt-leb (length s) at h)

front-done : (fuel : ℕ) (s : List ℕ) (at : ℕ) → length s ≤ at → front_from fuel s at ≡ record { placed = []; stop = gives at }
unfolding front_from
front-done zero s at h = refl
front-done (suc fuel) s at h = rw (le-leb (length s) at h)

not-misplaced : (k : Scan) (c : Command) → fault_of k c ≡ 0 → (misplaced k c ≡ false) × (too_many k c ≡ false)
not-misplaced k c e =
    let n = no-fault k c e in
    (false_of_not (misplaced k c) (tested k c n.0).in_place, n.2)

-- the fuel left, where the bundle goes on
record More (s : List ℕ) (p : Progress) (chunks forks : List ℕ) : Type 0 where
  fuel : ℕ
  enough : length s ≤ p.at + suc fuel
  scan_rest : walk (follow (front_from fuel s) p.at (decode_at s p.at)).placed (follow (front_from fuel s) p.at (decode_at s p.at)).stop p.scan ≡ scan_of s
  chunk_rest :
      table (chunk_row_at chunks) p.chunks ++ chunks_to_come p (gather (follow (front_from fuel s) p.at (decode_at s p.at)).placed) ≡ chunk_rows (chunks_of s)
  fork_rest :
      table (fork_row_at forks) p.forks ++ forks_to_come p (gather (follow (front_from fuel s) p.at (decode_at s p.at)).placed) ≡ forks_of (chunks_of s)

more : {s : List ℕ} {p : Progress} {chunks forks : List ℕ} → p.at < length s → Surveying s p chunks forks → More s p chunks forks
more {s} {p} {chunks} {forks} h v = go v.fuel v.enough v.scan_rest v.chunk_rest v.fork_rest
  where
    go :
        (f : ℕ)
        → length s ≤ p.at + f
        → walk (front_from f s p.at).placed (front_from f s p.at).stop p.scan ≡ scan_of s
        → table (chunk_row_at chunks) p.chunks ++ chunks_to_come p (gather (front_from f s p.at).placed) ≡ chunk_rows (chunks_of s)
        → table (fork_row_at forks) p.forks ++ forks_to_come p (gather (front_from f s p.at).placed) ≡ forks_of (chunks_of s)
        → More s p chunks forks
    go zero e w x y = absurd (omega arith)
    go (suc f) e w x y =
        let q = front-here f s p.at h in
        record { fuel = f; enough = e; scan_rest = rw q at w; chunk_rest = rw q at x; fork_rest = rw q at y }

pub stopped :
    {s : List ℕ} {p : Progress} {chunks forks : List ℕ} (n q : ℕ)
    → p.at < length s
    → Surveying s p chunks forks
    → step_at s p.at p.scan ≡ refuses n q
    → scan_of s ≡ refuses n q
unfolding step_at
stopped {s} {p} n q h v e =
    let m = more h v in
    sym m.scan_rest ∙ refused p.scan p.at n q (decode_at s p.at) (front_from m.fuel s) e

-- before a command that passes there is room for a row
room_for :
    (p : Progress) (c : Command)
    → misplaced p.scan c ≡ false
    → too_many p.scan c ≡ false
    → Bounded p.scan
    → p.chunks + p.forks + Opened p.scan.inside ≤ p.scan.segments
    → p.chunks + p.forks < 512
room_for p c e l b f = go c (delimits c) e (room p.scan c l).0
  where
    inner : p.scan.inside ≡ true → p.chunks + p.forks < 512
    inner i = let o : p.chunks + p.forks + 1 ≤ p.scan.segments = rw i at f in omega (arith, b.segments)

    go : (c : Command) → Delimiter c → misplaced p.scan c ≡ false → p.scan.segments + opens_segment c ≤ 512 → p.chunks + p.forks < 512
    go c (opens_chunk t m) q r =
        let i : p.scan.inside ≡ false = unfold misplaced is_member in q in
        let o : p.chunks + p.forks + 0 ≤ p.scan.segments = rw i at f in
        let w : p.scan.segments + 1 ≤ 512 = unfold opens_segment in r in
        omega arith
    go c (closes_chunk h) q r = inner (inside-closes p.scan c h q)
    go c (neither h) q r = inner (inside-plain p.scan c h q)

module _ {s : List ℕ} {p : Progress} {chunks forks : List ℕ} (h : p.at < length s) (v : Surveying s p chunks forks) (st : Stepped)
    (e : step_at s p.at p.scan ≡ gives st) where
  given : Gave p.scan (decode_at s p.at) st
  unfolding step_at
  given = gave p.scan p.at (decode_at s p.at) st e

  pub notable : Notable p chunks forks
  notable =
      let o = not-misplaced p.scan st.command given.sound in
      let n : p.chunks + p.forks < 512 = room_for p st.command o.0 o.1 v.bounded v.few in
      record {
        chunk_room = omega (arith, n, v.chunk_table);
        fork_room = omega (arith, n, v.fork_table);
        few = n;
        near = record { at = omega (arith, v.short); bounded = v.bounded };
      }

  -- with the scan's own step
  went :
      (r : Progress) (chunks' forks' : List ℕ)
      → length chunks' ≡ 1024
      → length forks' ≡ 1536
      → r ≡ pass_after p st.command (scanned p.scan st.command) st.next
      → table (chunk_row_at chunks') r.chunks ≡ table (chunk_row_at chunks) p.chunks ++ new_chunks p st.command
      → table (fork_row_at forks') r.forks ≡ table (fork_row_at forks) p.forks ++ new_forks p st.command
      → (p.at < r.at) × Surveying s r chunks' forks'
  went r chunks' forks' lc lf q x y =
      let g = given in
      let m = more h v in
      let c = st.command in
      let k = scanned p.scan c in
      let o = not-misplaced p.scan c g.sound in
      let n = counts p st.next c o.0 o.1 v.bounded v.few in
      let d = decode-next s p.at (record { command = c; next = st.next }) g.decodes in
      let at : r.at ≡ st.next = ap (λ (z : Progress). z.at) q ∙ unfold pass_after in refl in
      let scan : r.scan ≡ k = ap (λ (z : Progress). z.scan) q ∙ unfold pass_after in refl in
      let rest = front_from m.fuel s st.next in
      let to-come = comes p st.next rest.placed c o.0 in (
        omega (arith, d.0, at),
        record {
          fuel = m.fuel;
          enough = omega (arith, m.enough, d.0, at);
          within = omega (arith, d.1, at);
          short = v.short;
          chunk_table = lc;
          fork_table = lf;
          bounded = rw scan n.0;
          few = rw q (unfold pass_after in n.1);
          scan_rest = rw (at, scan) (walked m.fuel g.decodes g.sound m.scan_rest);
          chunk_rest =
              ap (λ (z : ℕ). table (chunk_row_at chunks') r.chunks ++ chunks_to_come r (gather (front_from m.fuel s z).placed)) at
              ∙ ap (λ (l : List ChunkRow). l ++ chunks_to_come r (gather rest.placed)) x
              ∙ append_assoc (table (chunk_row_at chunks) p.chunks) (new_chunks p c) (chunks_to_come r (gather rest.placed))
              ∙ ap (λ (z : Progress). table (chunk_row_at chunks) p.chunks ++ (new_chunks p c ++ chunks_to_come z (gather rest.placed))) q
              ∙ ap (λ (l : List ChunkRow). table (chunk_row_at chunks) p.chunks ++ l) (sym to-come.0)
              ∙ placed-chunks m.fuel g.decodes m.chunk_rest;
          fork_rest =
              ap (λ (z : ℕ). table (fork_row_at forks') r.forks ++ forks_to_come r (gather (front_from m.fuel s z).placed)) at
              ∙ ap (λ (l : List Fork). l ++ forks_to_come r (gather rest.placed)) y
              ∙ append_assoc (table (fork_row_at forks) p.forks) (new_forks p c) (forks_to_come r (gather rest.placed))
              ∙ ap (λ (z : Progress). table (fork_row_at forks) p.forks ++ (new_forks p c ++ forks_to_come z (gather rest.placed))) q
              ∙ ap (λ (l : List Fork). table (fork_row_at forks) p.forks ++ l) (sym to-come.1)
              ∙ placed-forks m.fuel g.decodes m.fork_rest;
        },
      )
    where
      taken : Taken
      taken = record { command = st.command; next = st.next }

      walked :
          (f : ℕ)
          → decode_at s p.at ≡ gives taken
          → fault_of p.scan st.command ≡ 0
          → walk (follow (front_from f s) p.at (decode_at s p.at)).placed (follow (front_from f s) p.at (decode_at s p.at)).stop p.scan ≡ scan_of s
          → walk (front_from f s st.next).placed (front_from f s st.next).stop (scanned p.scan st.command) ≡ scan_of s
      walked f w z a = unfold follow walk in (rw (w, z) at a)

      placed-chunks :
          (f : ℕ)
          → decode_at s p.at ≡ gives taken
          → table (chunk_row_at chunks) p.chunks ++ chunks_to_come p (gather (follow (front_from f s) p.at (decode_at s p.at)).placed) ≡ chunk_rows (chunks_of s)
          → table (chunk_row_at chunks) p.chunks ++ chunks_to_come p (gather_one (record { at = p.at; command = st.command }) (gather (front_from f s st.next).placed)) ≡ chunk_rows (chunks_of s)
      placed-chunks f w a = unfold follow gather in (rw w at a)

      placed-forks :
          (f : ℕ)
          → decode_at s p.at ≡ gives taken
          → table (fork_row_at forks) p.forks ++ forks_to_come p (gather (follow (front_from f s) p.at (decode_at s p.at)).placed) ≡ forks_of (chunks_of s)
          → table (fork_row_at forks) p.forks ++ forks_to_come p (gather_one (record { at = p.at; command = st.command }) (gather (front_from f s st.next).placed)) ≡ forks_of (chunks_of s)
      placed-forks f w a = unfold follow gather in (rw w at a)

  pub went_on :
      (r : Progress) (chunks' forks' : List ℕ)
      → Noted p st.command st.scan st.next r chunks forks chunks' forks'
      → (p.at < r.at) × Surveying s r chunks' forks'
  went_on r chunks' forks' n =
      went r chunks' forks' (n.chunk_long ∙ v.chunk_table) (n.fork_long ∙ v.fork_table) (n.pass ∙ ap (λ (k : Scan). pass_after p st.command k st.next) given.scan) n.chunk-rows n.fork_rows

-- the pass at the front, and at the end
pub surveying-start :
    (s : List ℕ) (p : Progress) (chunks forks : List ℕ)
    → p ≡ beginning
    → length s ≤ 65536
    → length chunks ≡ 1024
    → length forks ≡ 1536
    → Surveying s p chunks forks
unfolding beginning start fresh scan_of front_of chunks_of chunks_to_come forks_to_come chunk_rows table table_from
surveying-start s p chunks forks e h lc lf =
    rw e
    (record {
      fuel = length s;
      enough = omega arith;
      within = omega arith;
      short = h;
      chunk_table = lc;
      fork_table = lf;
      bounded = record { segments = omega arith; accesses = omega arith; opened = omega arith; grouped = λ q. false-is-true q };
      few = omega arith;
      scan_rest = refl;
      chunk_rest = refl;
      fork_rest = refl;
    })

pick_true : {A : Type 0} (b : Bool) (x y : A) → b ≡ true → cond b x y ≡ x
pick_true b x y e = rw e

pick-false : {A : Type 0} (b : Bool) (x y : A) → b ≡ false → cond b x y ≡ y
pick-false b x y e = rw e

module _ {s : List ℕ} {p : Progress} {chunks forks : List ℕ} (h : length s ≤ p.at) (v : Surveying s p chunks forks) where
  at_end : p.at ≡ length s
  at_end = omega (arith, v.within)

  done : front_from v.fuel s p.at ≡ record { placed = []; stop = gives p.at }
  done = front-done v.fuel s p.at h

  scan-end : scan_of s ≡ cond p.scan.inside (refuses 4 (length s)) (gives p.scan)
  scan-end =
      sym v.scan_rest
      ∙ ap (λ (f : Front). walk f.placed f.stop p.scan) done
      ∙ unfold walk finish in refl
      ∙ ap (λ (n : ℕ). cond p.scan.inside (refuses 4 n) (gives p.scan)) at_end

  chunk_end : p.scan.inside ≡ false → table (chunk_row_at chunks) p.chunks ≡ chunk_rows (chunks_of s)
  chunk_end e =
      sym (append-nil (table (chunk_row_at chunks) p.chunks))
      ∙ ap (λ (l : List ChunkRow). table (chunk_row_at chunks) p.chunks ++ l) (sym (none e))
      ∙ ap (λ (f : Front). table (chunk_row_at chunks) p.chunks ++ chunks_to_come p (gather f.placed)) (sym done)
      ∙ v.chunk_rest
    where
      none : p.scan.inside ≡ false → chunks_to_come p (gather []) ≡ []
      none i = unfold chunks_to_come gather rows_from in (pick-false p.scan.inside _ [] i)

  fork-end : p.scan.inside ≡ false → table (fork_row_at forks) p.forks ≡ forks_of (chunks_of s)
  fork-end e =
      sym (append-nil (table (fork_row_at forks) p.forks))
      ∙ ap (λ (l : List Fork). table (fork_row_at forks) p.forks ++ l) (sym (none e))
      ∙ ap (λ (f : Front). table (fork_row_at forks) p.forks ++ forks_to_come p (gather f.placed)) (sym done)
      ∙ v.fork_rest
    where
      none : p.scan.inside ≡ false → forks_to_come p (gather []) ≡ []
      none i = unfold forks_to_come gather forks_of in (pick-false p.scan.inside _ [] i)

  pub surveyed-end : Surveyed s (finished p (length s)) chunks forks
  unfolding finished
  surveyed-end =
      let few = v.few in
      cond-elim (λ (r : Result RowCounts Refusal). Surveyed s r chunks forks) p.scan.inside
      (Err (record { place = length s; cause = Causes.Misplaced }))
      (Ok (record { chunks = p.chunks; forks = p.forks }))
      (λ e. scan-end ∙ pick_true p.scan.inside (refuses 4 (length s)) (gives p.scan) e)
      (λ e.
      record {
        scan = p.scan;
        passes = scan-end ∙ pick-false p.scan.inside (refuses 4 (length s)) (gives p.scan) e;
        few = omega (arith, v.few, v.bounded.segments);
        chunk_table = v.chunk_table;
        fork_table = v.fork_table;
        chunk-rows = chunk_end e;
        fork_rows = fork-end e;
      })

-- what each command notes
module _ (p : Progress) (k : Scan) (next : ℕ) (r : Progress) (chunks forks : List ℕ) where
  -- no row is added
  pub noted-none :
      (c : Command)
      → r ≡ pass_after p c k next
      → new_chunks p c ≡ []
      → new_forks p c ≡ []
      → (pass_after p c k next).chunks ≡ p.chunks
      → (pass_after p c k next).forks ≡ p.forks
      → Noted p c k next r chunks forks chunks forks
  noted-none c e x y n m =
      record {
        pass = e;
        chunk_long = refl;
        fork_long = refl;
        chunk-rows = rw (e, x, n) (sym (append-nil (table (chunk_row_at chunks) p.chunks)));
        fork_rows = rw (e, y, m) (sym (append-nil (table (fork_row_at forks) p.forks)));
      }

  pub noted-chunk :
      (c : Command) (chunks' : List ℕ) (row : ChunkRow)
      → closes c ≡ true
      → r ≡ record { at = next; scan = k; chunk = p.chunk; chunks = p.chunks + 1; forks = p.forks }
      → row ≡ closed_row p (is_end c)
      → Added chunk_row_at chunks chunks' p.chunks row
      → Noted p c k next r chunks forks chunks' forks
  noted-chunk c chunks' row h e w x =
      let none : new_forks p c ≡ [] = unfold new_forks in (on-other [] (λ t z. fork_here p t z ∷ []) c (closes-forks-none c h)) in
      let one : new_chunks p c ≡ closed_row p (is_end c) ∷ [] = unfold new_chunks in (on-closes [] (λ t m. []) (closed_row p (is_end c) ∷ []) c h) in
      record {
        pass =
            e
            ∙ unfold pass_after in
            (rw (
              on-closes p.chunk (λ t m. opened_at p m) p.chunk c h,
              on-closes p.chunks (λ t m. p.chunks) (p.chunks + 1) c h,
              on-other p.forks (λ t z. p.forks + 1) c (closes-forks-none c h),
            ));
        chunk_long = x.long;
        fork_long = refl;
        chunk-rows =
            rw (e, one)
            (table-added chunk_row_at x ∙ ap (λ (z : ChunkRow). table (chunk_row_at chunks) p.chunks ++ (z ∷ [])) w);
        fork_rows = rw (e, none) (sym (append-nil (table (fork_row_at forks) p.forks)));
      }

  pub noted-fork :
      (forks' : List ℕ) (t z : ℕ) (row : Fork)
      → r ≡ record { at = next; scan = k; chunk = p.chunk; chunks = p.chunks; forks = p.forks + 1 }
      → row ≡ fork_here p t z
      → Added fork_row_at forks forks' p.forks row
      → Noted p (Com.Region t z) k next r chunks forks chunks forks'
  unfolding pass_after new_chunks new_forks
  noted-fork forks' t z row e w x =
      record {
        pass = e;
        chunk_long = refl;
        fork_long = x.long;
        chunk-rows = rw e (sym (append-nil (table (chunk_row_at chunks) p.chunks)));
        fork_rows = rw e (table-added fork_row_at x ∙ ap (λ (y : Fork). table (fork_row_at forks) p.forks ++ (y ∷ [])) w);
      }

pub fewer-left : (n a b : ℕ) → a < n → a < b → n - b < n - a
fewer-left n a b h l = omega arith

pub surveyed-finish :
    (s : List ℕ) (p : Progress) (chunks forks : List ℕ) {r : Result RowCounts Refusal}
    → length s ≤ p.at
    → Surveying s p chunks forks
    → r ≡ finished p (length s)
    → Surveyed s r chunks forks
surveyed-finish s p chunks forks h v e = subst (λ (x : Result RowCounts Refusal). Surveyed s x chunks forks) (sym e) (surveyed-end h v)
