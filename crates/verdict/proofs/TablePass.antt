-- The pass over an accepted bundle, command by command, and the tables at its end.
use Prim.Native.Nat.{ℕ, ◌+◌, ◌≤◌, ◌<◌}
use mathlib.Core.Path.{◌≡◌, refl, sym, ◌∙◌, ap, subst}
use mathlib.Core.Bool.{Bool, true, false}
use mathlib.Core.List.{List, [], ◌∷◌, ◌++◌, append-nil}
use mathlib.Core.Option.{some}
use native.Mathlib.Omega.{arith}
use native.Mathlib.Nat.{add-zero}
use lib.ListN.{length, set, get_elem?}
use Rattle.bundle.specs.Answer.{gives, refuses}
use Rattle.bundle.specs.Commands.{range_ok, operands_ok, read_at}
use Rattle.bundle.specs.Chunks.{Placed, fresh, after_acquire, after_release, after_command, front_of, gather_one, gather, chunks_of}
use Rattle.bundle.specs.Walk.{Border, of_chunk, of_barrier, of_region, borders, opens_segment, adds_access, entries_from, Opening, opening_at, segments_from}
use Rattle.bundle.specs.Scan.{is_member, misplaced, misuses_lock, start}
use Rattle.bundle.specs.Check.{Accepted}
use Rattle.bundle.specs.Index.{Added}
use Rattle.bundle.specs.declared.command.Access.{Access}
use Rattle.bundle.specs.declared.command.Command.{Command}
use Rattle.bundle.specs.declared.command.Command.TheVariants as Com
use Rattle.bundle.proofs.Ranges.{in-range-ok}
use Rattle.bundle.proofs.Tests.{false-is-true, false_of_not}
use Rattle.bundle.proofs.Delimiters.{plain, closes, on-closes, on-no-opening, on-no-access, closes-opens-none, closes-accesses-none}
use Rattle.bundle.proofs.Decoding.{read_next}
use Rattle.bundle.proofs.Scanning.{orderly, orderly-head}
use Rattle.bundle.proofs.Reorder.{checked, scan-passed}
use Rattle.bundle.proofs.Onward.{Onward, onward-next, onward-read, onward-end, legible}
use Rattle.verdict.specs.Graph.{Segment, segments_of}
use Rattle.verdict.specs.Accesses.{NamedAccess, access_at, accesses_of}
use Rattle.verdict.specs.Working.{end_code, open_code, node_code, access_row_at, SegmentTables, AccessTable}
use Rattle.verdict.specs.Filling.{beginning, left, advanced, cursor_after, on_crossing, ends_after, opens_after, nodes_after, row_here, Room, Notable, Noted, Filled}
use Rattle.verdict.specs.declared.fill.Cursor.{Cursor}
use Rattle.verdict.proofs.TableRows.{rows_more}
use Rattle.verdict.proofs.PassStanding.{commands_in, scan_here, segments_to_come, accesses_to_come, Standing, Step, stands_on, ended_at, first_opening, step-member, step-closing, step-inside, stands-open, segment-room, access-room}
use Rattle.verdict.proofs.PassTables.{Holding, holds-member, holds-end, holds-crossing, holds-still, access_here, row_of}

-- the invariant of the pass
pub record Filling (s : List ℕ) (n : ℕ) (p : Cursor) (ends opens nodes rows : List ℕ) : Type 0 where
  inside : Bool
  opened : Opening
  rest : List Placed
  done : List Segment
  seen : List NamedAccess
  onwards : Onward s p.at rest
  stands : Standing s inside opened p rest done seen
  holds : Holding (segments_of (chunks_of s)) n inside opened p done seen ends opens nodes rows

-- one command: it can be noted, and the pass goes on behind it
pub record Advance (s : List ℕ) (n : ℕ) (p : Cursor) (c : Command) (next : ℕ) (ends opens nodes rows : List ℕ) : Type 0 where
  pub notable : Notable p c ends opens nodes rows
  at_next : (cursor_after p c next).at ≡ next
  goes :
      (rows' : List ℕ)
      → (adds_access c ≡ 0 → rows' ≡ rows)
      → ((a : Access) → c ≡ Com.Access a → Added access_row_at rows rows' p.accesses (row_here p a))
      → Filling s n (cursor_after p c next) (ends_after p c ends) (opens_after p c opens) (nodes_after p c nodes) rows'

module _ {s : List ℕ} (a : Accepted s) where
  notable-here :
      {inside : Bool} {o : Opening} {p : Cursor} {c : Command} {ps : List Placed} {done : List Segment} {seen : List NamedAccess} {ends opens nodes rows : List ℕ}
      → Standing s inside o p (record { at = p.at; command = c } ∷ ps) done seen
      → Room ends opens nodes rows
      → p.segment + on_crossing p.state 0 (λ b. 1) c < 512
      → p.accesses + adds_access c ≤ 1024
      → Notable p c ends opens nodes rows
  notable-here {inside} {o} {p} {c} {ps} v room x y =
      let t = orderly-head (scan_here inside p) c (commands_in ps) v.order in
      record {
        in-range = t.in-range;
        locks_ok = false_of_not (misuses_lock p.state.locks c) t.locks_ok;
        segment = x;
        number = v.number;
        opened = v.counted;
        access = y;
        access_in = v.access_in;
        room = room;
      }

  module _ (n : ℕ) (p : Cursor) (next : ℕ) (ps : List Placed) (onwards : Onward s next ps) (o : Opening) (done : List Segment) (seen : List NamedAccess) (ends opens nodes rows : List ℕ) where
    abbrev Stands : Bool → Command → Type 0
    Stands inside c = Standing s inside o p (record { at = p.at; command = c } ∷ ps) done seen

    abbrev Holds : Bool → Type 0
    Holds inside = Holding (segments_of (chunks_of s)) n inside o p done seen ends opens nodes rows

    advance-member : (t m : ℕ) → Stands false (Com.Member t m) → Holds false → Advance s n p (Com.Member t m) next ends opens nodes rows
    unfolding cursor_after ends_after opens_after nodes_after on_crossing adds_access
    advance-member t m v h =
        let w = stands_on v (step-member p next ps o t m) (sym (append-nil done)) (sym (append-nil seen)) in
        let few : p.segment < 512 = segment-room a w in
        let more = access-room a w in
        record {
          notable = notable-here v h.room (omega arith) (omega arith);
          at_next = refl;
          goes =
              λ rows' none row.
              rw (none refl)
              (record { inside = true; opened = first_opening; rest = ps; done = done; seen = seen; onwards = onwards; stands = w; holds = holds-member few v.segment_count t m next h });
        }

    advance-closing : (c : Command) → closes c ≡ true → Stands true c → Holds true → Advance s n p c next ends opens nodes rows
    unfolding cursor_after ends_after opens_after nodes_after on_crossing adds_access
    advance-closing c e v h =
        let w = stands_on v (step-closing p next ps o c e) refl (sym (append-nil seen)) in
        let few : p.segment < 512 = segment-room a v in
        let more = access-room a v in
        let still = on-no-opening {A = ℕ} 0 0 (λ t. 1) 1 c (closes-opens-none c e) in
        let none = on-no-access {A = ℕ} 0 (λ b. 1) c (closes-accesses-none c e) in
        record {
          notable = notable-here v h.room (omega arith) (omega arith);
          at_next = ap (λ (q : Cursor). q.at) (on-closes _ _ (left p next) c e);
          goes =
              λ rows' same row.
              rw (same none, on-closes _ _ (left p next) c e, on-closes _ _ (set ends p.segment (end_code p.team p.state.barriers of_chunk)) c e, on-closes _ _ opens c e, on-closes _ _ nodes c e)
              (record {
                inside = false;
                opened = o;
                rest = ps;
                done = done ++ ended_at p o of_chunk ∷ [];
                seen = seen;
                onwards = onwards;
                stands = w;
                holds = holds-end few v.segment_count next h;
              });
        }

    -- a command that crosses the border b
    module _ (c : Command) (b : Border) where
      abbrev crossed_to : Opening
      crossed_to = record { border = b; state = after_command p.state c }

      abbrev crossed_here : Cursor
      crossed_here = advanced p (after_command p.state c) 1 0 next

      advance-crossing :
          Stands true c
          → Step c true true o crossed_to p crossed_here ps (ended_at p o b ∷ []) []
          → cursor_after p c next ≡ crossed_here
          → ends_after p c ends ≡ set ends p.segment (end_code p.team p.state.barriers b)
          → opens_after p c opens ≡ set opens (p.segment + 1) (open_code p.team b)
          → nodes_after p c nodes ≡ set nodes (p.segment + 1) (node_code (record { team = p.team; member = p.member; number = p.number + 1 }))
          → on_crossing {A = ℕ} p.state 0 (λ b. 1) c ≡ 1
          → adds_access c ≡ 0
          → Holds true
          → Advance s n p c next ends opens nodes rows
      advance-crossing v st u x y z one none h =
          let w = stands_on v st refl (sym (append-nil seen)) in
          let few : p.segment < 512 = segment-room a v in
          let further : p.segment + 1 < 512 = segment-room a w in
          let more = access-room a v in
          record {
            notable = notable-here v h.room (omega arith) (omega arith);
            at_next = ap (λ (q : Cursor). q.at) u;
            goes =
                λ rows' same row.
                rw (same none, u, x, y, z)
                (record {
                  inside = true;
                  opened = crossed_to;
                  rest = ps;
                  done = done ++ ended_at p o b ∷ [];
                  seen = seen;
                  onwards = onwards;
                  stands = w;
                  holds = holds-crossing few v.segment_count b (after_command p.state c) next further h;
                });
          }

    advance-region : (t z : ℕ) → Stands true (Com.Region t z) → Holds true → Advance s n p (Com.Region t z) next ends opens nodes rows
    unfolding cursor_after ends_after opens_after nodes_after on_crossing opens_segment adds_access plain gather gather_one entries_from opening_at borders segments_from access_at
    advance-region t z v =
        advance-crossing (Com.Region t z) (of_region t) v
        (step-inside p next ps o (Com.Region t z) _ (ended_at p o (of_region t) ∷ []) [] refl refl refl refl refl)
        refl refl refl refl refl refl

    advance-barrier : Stands true Com.Barrier → Holds true → Advance s n p Com.Barrier next ends opens nodes rows
    unfolding cursor_after ends_after opens_after nodes_after on_crossing opens_segment adds_access plain gather gather_one entries_from opening_at borders segments_from access_at
    advance-barrier v =
        let b = of_barrier p.state.barriers in
        advance-crossing Com.Barrier b v
        (step-inside p next ps o Com.Barrier _ (ended_at p o b ∷ []) [] refl refl refl refl refl)
        refl refl refl refl refl refl

    -- a command at which no segment ends
    module _ (c : Command) where
      abbrev still_here : Cursor
      still_here = advanced p (after_command p.state c) 0 (adds_access c) next

      advance-still :
          (accs : List NamedAccess)
          → Stands true c
          → Step c true true o o p still_here ps [] accs
          → cursor_after p c next ≡ still_here
          → ends_after p c ends ≡ ends
          → opens_after p c opens ≡ opens
          → nodes_after p c nodes ≡ nodes
          → on_crossing {A = ℕ} p.state 0 (λ b. 1) c ≡ 0
          → (after_command p.state c).barriers ≡ p.state.barriers
          → ((rows' : List ℕ)
          → (adds_access c ≡ 0 → rows' ≡ rows)
          → ((a : Access) → c ≡ Com.Access a → Added access_row_at rows rows' p.accesses (row_here p a))
          → AccessTable (segments_of (chunks_of s)) (seen ++ accs) rows' × (length rows' ≡ length rows))
          → Holds true
          → Advance s n p c next ends opens nodes rows
      advance-still accs v st u x y z none same-barriers table h =
          let w = stands_on v st (sym (append-nil done)) refl in
          let few : p.segment < 512 = segment-room a v in
          let more : p.accesses + adds_access c ≤ 1024 = access-room a w in
          record {
            notable = notable-here v h.room (omega arith) more;
            at_next = ap (λ (q : Cursor). q.at) u;
            goes =
                λ rows' same row.
                let t = table rows' same row in
                rw (u, x, y, z)
                (record {
                  inside = true;
                  opened = o;
                  rest = ps;
                  done = done;
                  seen = seen ++ accs;
                  onwards = onwards;
                  stands = w;
                  holds = holds-still (after_command p.state c) (adds_access c) next same-barriers t.0 t.1 h;
                });
          }

    same_rows :
        (c : Command)
        → adds_access c ≡ 0
        → Holds true
        → (rows' : List ℕ)
        → (adds_access c ≡ 0 → rows' ≡ rows)
        → AccessTable (segments_of (chunks_of s)) (seen ++ []) rows' × (length rows' ≡ length rows)
    same_rows c none h rows' same = rw (same none, append-nil seen) (h.access_table, refl)

    advance-acquire : (l : ℕ) → Stands true (Com.Acquire l) → Holds true → Advance s n p (Com.Acquire l) next ends opens nodes rows
    unfolding cursor_after ends_after opens_after nodes_after on_crossing opens_segment adds_access plain gather gather_one entries_from opening_at borders segments_from access_at after_command after_acquire
    advance-acquire l v h =
        advance-still (Com.Acquire l) [] v
        (step-inside p next ps o (Com.Acquire l) o [] [] refl (rw (add-zero p.number)) refl refl refl)
        refl refl refl refl refl refl (λ rows' same row. same_rows (Com.Acquire l) refl h rows' same) h

    advance-release : (l : ℕ) → Stands true (Com.Release l) → Holds true → Advance s n p (Com.Release l) next ends opens nodes rows
    unfolding cursor_after ends_after opens_after nodes_after on_crossing opens_segment adds_access plain gather gather_one entries_from opening_at borders segments_from access_at after_command after_release
    advance-release l v h =
        advance-still (Com.Release l) [] v
        (step-inside p next ps o (Com.Release l) o [] [] refl (rw (add-zero p.number)) refl refl refl)
        refl refl refl refl refl refl (λ rows' same row. same_rows (Com.Release l) refl h rows' same) h

    advance-access : (x : Access) → Stands true (Com.Access x) → Holds true → Advance s n p (Com.Access x) next ends opens nodes rows
    unfolding cursor_after ends_after opens_after nodes_after on_crossing opens_segment adds_access plain gather gather_one entries_from opening_at borders segments_from access_at after_command
    advance-access x v h =
        let st = step-inside p next ps o (Com.Access x) o [] (access_here p x ∷ []) refl (rw (add-zero p.number)) refl refl refl in
        let w = stands_on v st (sym (append-nil done)) refl in
        let more : p.accesses + 1 ≤ 1024 = access-room a w in
        let range = (orderly-head (scan_here true p) (Com.Access x) (commands_in ps) v.order).in-range in
        let good : range_ok x.range ≡ true = unfold operands_ok in (in-range-ok (Com.Access x) range) in
        advance-still (Com.Access x) (access_here p x ∷ []) v st refl refl refl refl refl refl
        (λ rows' same row.
        let d = row x refl in (
          rows_more (access_here p x) h.access_table (rw v.access_count d) (omega (arith, v.access_count)) (row_of x (stands-open v) v.segment_count good),
          d.long,
        ))
        h

    -- a MEMBER stands outside chunks, each other command inside one
    within : (c : Command) (inside : Bool) → is_member c ≡ false → Stands inside c → Holds inside → (Stands true c → Holds true → Advance s n p c next ends opens nodes rows) → Advance s n p c next ends opens nodes rows
    within c true e v h go = go v h
    within c false e v h go =
        let t = (orderly-head (scan_here false p) c (commands_in ps) v.order).in_place in
        false-is-true (unfold misplaced in (rw e at t))

    advance-at : (c : Command) (inside : Bool) → Stands inside c → Holds inside → Advance s n p c next ends opens nodes rows
    unfolding is_member misplaced closes
    advance-at (Com.Member t m) false v h = advance-member t m v h
    advance-at (Com.Member t m) true v h = false-is-true (orderly-head (scan_here true p) (Com.Member t m) (commands_in ps) v.order).in_place
    advance-at Com.End inside v h = within Com.End inside refl v h (advance-closing Com.End refl)
    advance-at (Com.Region t z) inside v h = within (Com.Region t z) inside refl v h (advance-region t z)
    advance-at Com.Barrier inside v h = within Com.Barrier inside refl v h advance-barrier
    advance-at (Com.Acquire l) inside v h = within (Com.Acquire l) inside refl v h (advance-acquire l)
    advance-at (Com.Release l) inside v h = within (Com.Release l) inside refl v h (advance-release l)
    advance-at (Com.Access x) inside v h = within (Com.Access x) inside refl v h (advance-access x)
    advance-at Com.Cut inside v h = within Com.Cut inside refl v h (advance-closing Com.Cut refl)

  pub turn :
      {n : ℕ} {p : Cursor} {ends opens nodes rows : List ℕ} (c : Command) (next : ℕ)
      → Filling s n p ends opens nodes rows
      → read_at s p.at ≡ gives (record { command = c; next = next })
      → Advance s n p c next ends opens nodes rows
  turn {n} {p} {ends} {opens} {nodes} {rows} c next f e =
      let q = onward-next s p.at (record { command = c; next = next }) f.onwards e in
      advance-at n p next q.rest q.onwards f.opened f.done f.seen ends opens nodes rows c f.inside (rw q.parts at f.stands) f.holds

  pub turned :
      {n : ℕ} {p r : Cursor} {ends opens nodes rows ends' opens' nodes' rows' : List ℕ} (c : Command) (next : ℕ)
      → Filling s n p ends opens nodes rows
      → read_at s p.at ≡ gives (record { command = c; next = next })
      → Noted p c next r ends opens nodes rows ends' opens' nodes' rows'
      → (p.at < r.at) × Filling s n r ends' opens' nodes' rows'
  turned {n} {p} {r} {ends} {opens} {nodes} {rows} {ends'} {opens'} {nodes'} {rows'} c next f e w =
      let t = turn c next f e in
      let later = (read_next s p.at (record { command = c; next = next }) e).0 in
      let here : r.at ≡ next = ap (λ (q : Cursor). q.at) w.cursor ∙ t.at_next in
      (omega arith, rw (w.cursor, w.end_codes, w.open_codes, w.node_codes) (t.goes rows' w.no_row w.row))

nothing-at : {A B : Type 0} {x : A} (i : ℕ) → get_elem? [] i ≡ some x → B
nothing-at i e = absurd (let z : ◌≡◌ {A = ℕ} 0 1 = cc in omega arith)

-- the pass at the front, and at the end
pub filling-start :
    {s : List ℕ} {p : Cursor} {ends opens nodes rows : List ℕ}
    → Accepted s
    → Room ends opens nodes rows
    → p ≡ beginning
    → Filling s (length rows) p ends opens nodes rows
unfolding chunks_of start
filling-start {s} {p} {ends} {opens} {nodes} {rows} a room e =
    let k = checked s a in
    rw e
    (record {
      inside = false;
      opened = first_opening;
      rest = (front_of s).placed;
      done = [];
      seen = [];
      onwards = (legible s a).onwards;
      stands =
          record {
            order = (scan-passed s k.scan k.scan_ok).order;
            segment_parts = refl;
            access_parts = refl;
            segment_count = refl;
            access_count = refl;
            number = omega arith;
            counted = unfold fresh in (omega arith);
            access_in = omega arith;
          };
      holds =
          record {
            segment_tables = record { few = omega arith; end_codes = λ i q. nothing-at i q; open_codes = λ i q. nothing-at i q; node_codes = λ i q. nothing-at i q };
            access_table = record { few = omega arith; rows = λ i q. nothing-at i q };
            open_code = λ q. false-is-true q;
            node-code = λ q. false-is-true q;
            barriers = λ q. false-is-true q;
            room = room;
            long = refl;
          };
    })

-- the rest is empty, and no chunk is open
nothing-open : (inside : Bool) (o : Opening) (p : Cursor) → orderly (scan_here inside p) [] ≡ true → (segments_to_come inside o p (gather []) ≡ []) × (accesses_to_come inside p (gather []) ≡ [])
unfolding orderly gather segments_of accesses_of
nothing-open true o p e = false-is-true e
nothing-open false o p e = (refl, refl)

pub filled-end :
    {s : List ℕ} {n : ℕ} {p : Cursor} {ends opens nodes rows : List ℕ}
    → length s ≤ p.at
    → Filling s n p ends opens nodes rows
    → Filled s (record { segments = p.segment; accesses = p.accesses }) n ends opens nodes rows
filled-end {s} {n} {p} {ends} {opens} {nodes} {rows} l f =
    let none = onward-end s p.at f.onwards l in
    let v : Standing s f.inside f.opened p [] f.done f.seen = rw none at f.stands in
    let empty = nothing-open f.inside f.opened p v.order in
    let all : segments_of (chunks_of s) ≡ f.done = v.segment_parts ∙ ap (λ (l : List Segment). f.done ++ l) empty.0 ∙ append-nil f.done in
    let every : accesses_of (chunks_of s) ≡ f.seen = v.access_parts ∙ ap (λ (l : List NamedAccess). f.seen ++ l) empty.1 ∙ append-nil f.seen in
    let h = f.holds in
    record {
      segments = sym (ap length all ∙ v.segment_count);
      accesses = sym (ap length every ∙ v.access_count);
      segment_tables = subst (λ (ss : List Segment). SegmentTables ss ends opens nodes) (sym all) h.segment_tables;
      access_table = subst (λ (xs : List NamedAccess). AccessTable (segments_of (chunks_of s)) xs rows) (sym every) h.access_table;
      end_table = h.room.end_table;
      open_table = h.room.open_table;
      node_table = h.room.node_table;
      row_table = h.long;
    }

pub not-refused :
    {s : List ℕ} {n : ℕ} {p : Cursor} {ends opens nodes rows : List ℕ} {A : Type 0} (number place : ℕ)
    → Filling s n p ends opens nodes rows
    → p.at < length s
    → read_at s p.at ≡ refuses number place
    → A
not-refused {s} {p = p} number place f h e = absurd (onward-read s p.at number place f.onwards h e)
