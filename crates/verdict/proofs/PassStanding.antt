-- Where the pass over an accepted bundle stands: what is done and what the rest of the commands adds are the whole.
use Prim.Native.Nat.{ℕ, ◌+◌, ◌≤◌, ◌<◌}
use mathlib.Core.Path.{◌≡◌, refl, sym, ◌∙◌, ap}
use mathlib.Core.Bool.{Bool, true, false, cond}
use mathlib.Core.List.{List, [], ◌∷◌, ◌++◌, map, append_assoc}
use native.Mathlib.Omega.{arith}
use native.Mathlib.Nat.{add-zero}
use lib.ListN.{length, length-append}
use Rattle.bundle.specs.Lists.{concat_map}
use Rattle.bundle.specs.Chunks.{Placed, Gathered, fresh, after_command, gather_one, gather, chunks_of}
use Rattle.bundle.specs.Walk.{Border, of_chunk, of_barrier, of_region, borders, opens_segment, adds_access, entries_from, entries_of, Opening, opening_at, segments_from}
use Rattle.bundle.specs.Scan.{scanned}
use Rattle.bundle.specs.Check.{Accepted}
use Rattle.bundle.specs.declared.scan.Scan.{Scan}
use Rattle.bundle.specs.declared.command.Access.{Access}
use Rattle.bundle.specs.declared.command.Command.{Command}
use Rattle.bundle.specs.declared.command.Command.TheVariants as Com
use Rattle.bundle.proofs.Delimiters.{plain, closes, on-plain, on-closes, on-no-opening, on-no-access, closes-opens-none, closes-accesses-none, state-counts}
use Rattle.bundle.proofs.Gathering.{gather-closes}
use Rattle.bundle.proofs.Scanning.{uncounted, orderly, orderly-tail}
use Rattle.bundle.proofs.WalkLaws.{first-segment, few_segments}
use Rattle.verdict.specs.Graph.{Segment, segments_in, segments_of}
use Rattle.verdict.specs.Accesses.{NamedAccess, access_at, accesses_in, accesses_of}
use Rattle.verdict.specs.Filling.{node_here, entered, left, advanced}
use Rattle.verdict.specs.declared.fill.Cursor.{Cursor}
use Rattle.verdict.proofs.AccessCount.{few-accesses}

abbrev pub commands_in : List Placed → List Command
commands_in ps = map (λ (q : Placed). q.command) ps

-- the scan at the cursor, without its counts
abbrev pub scan_here : Bool → Cursor → Scan
scan_here inside p = record { inside = inside; team = p.team; state = p.state; segments = 0; accesses = 0; wide = false }

-- the segments and accesses that the rest of the commands adds; inside a chunk the first segment is the open one
abbrev pub segments_to_come : Bool → Opening → Cursor → Gathered → List Segment
segments_to_come inside o p g =
    cond inside
    (segments_from p.team p.member p.number o (concat_map opening_at (entries_from p.state p.number p.access g.body)))
    []
    ++ segments_of g.chunks

abbrev pub accesses_to_come : Bool → Cursor → Gathered → List NamedAccess
accesses_to_come inside p g =
    cond inside (concat_map (access_at p.team p.member) (entries_from p.state p.number p.access g.body)) []
    ++ accesses_of g.chunks

-- where the pass stands: the segments that have ended and the accesses so far, and those to come, are all
pub record Standing (s : List ℕ) (inside : Bool) (o : Opening) (p : Cursor) (rest : List Placed) (done : List Segment) (seen : List NamedAccess) : Type 0 where
  pub order : orderly (scan_here inside p) (commands_in rest) ≡ true
  pub segment_parts : segments_of (chunks_of s) ≡ done ++ segments_to_come inside o p (gather rest)
  pub access_parts : accesses_of (chunks_of s) ≡ seen ++ accesses_to_come inside p (gather rest)
  pub segment_count : length done ≡ p.segment
  pub access_count : length seen ≡ p.accesses
  pub number : p.number ≤ p.segment
  pub counted : p.state.barriers + p.state.regions ≤ p.number
  pub access_in : p.access ≤ p.accesses

-- what a command moves from what is to come to what is done
pub record Step (c : Command) (inside inside' : Bool) (o o' : Opening) (p p' : Cursor) (ps : List Placed) (segs : List Segment) (accs : List NamedAccess) : Type 0 where
  pub segments : segments_to_come inside o p (gather (record { at = p.at; command = c } ∷ ps)) ≡ segs ++ segments_to_come inside' o' p' (gather ps)
  pub accesses : accesses_to_come inside p (gather (record { at = p.at; command = c } ∷ ps)) ≡ accs ++ accesses_to_come inside' p' (gather ps)
  pub scan : uncounted (scanned (scan_here inside p) c) ≡ scan_here inside' p'
  pub segment_count : p.segment + length segs ≡ p'.segment
  pub access_count : p.accesses + length accs ≡ p'.accesses
  pub number : p.number ≤ p.segment → p'.number ≤ p'.segment
  pub counted : p.state.barriers + p.state.regions ≤ p.number → p'.state.barriers + p'.state.regions ≤ p'.number
  pub access_in : p.access ≤ p.accesses → p'.access ≤ p'.accesses

pub stands_on :
    {s : List ℕ} {c : Command} {inside inside' : Bool} {o o' : Opening} {p p' : Cursor} {ps : List Placed}
    {done done' segs : List Segment} {seen seen' accs : List NamedAccess}
    → Standing s inside o p (record { at = p.at; command = c } ∷ ps) done seen
    → Step c inside inside' o o' p p' ps segs accs
    → done' ≡ done ++ segs
    → seen' ≡ seen ++ accs
    → Standing s inside' o' p' ps done' seen'
stands_on {s} {c} {inside} {inside'} {o} {o'} {p} {p'} {ps} {done} {done'} {segs} {seen} {seen'} {accs} v t d e =
    rw (d, e)
    (record {
      order = rw t.scan at (orderly-tail (scan_here inside p) c (commands_in ps) v.order);
      segment_parts =
          v.segment_parts
          ∙ ap (λ (l : List Segment). done ++ l) t.segments
          ∙ sym (append_assoc done segs (segments_to_come inside' o' p' (gather ps)));
      access_parts =
          v.access_parts
          ∙ ap (λ (l : List NamedAccess). seen ++ l) t.accesses
          ∙ sym (append_assoc seen accs (accesses_to_come inside' p' (gather ps)));
      segment_count = length-append done segs ∙ ap (λ (n : ℕ). n + length segs) v.segment_count ∙ t.segment_count;
      access_count = length-append seen accs ∙ ap (λ (n : ℕ). n + length accs) v.access_count ∙ t.access_count;
      number = t.number v.number;
      counted = t.counted v.counted;
      access_in = t.access_in v.access_in;
    })

-- the open segment, with what ends it
abbrev pub ended_at : Cursor → Opening → Border → Segment
ended_at p o b = record { node = node_here p; opened = o.border; state = o.state; ended = b }

abbrev pub first_opening : Opening
first_opening = record { border = of_chunk; state = fresh }

module _ (p : Cursor) (next : ℕ) (ps : List Placed) (o : Opening) where
  pub step-member : (t m : ℕ) → Step (Com.Member t m) false true o first_opening p (entered p t m next) ps [] []
  unfolding gather gather_one segments_of segments_in accesses_of accesses_in entries_of uncounted scanned fresh
  step-member t m =
      record {
        segments = refl;
        accesses = refl;
        scan = refl;
        segment_count = add-zero p.segment;
        access_count = add-zero p.accesses;
        number = λ h. omega arith;
        counted = λ h. omega arith;
        access_in = λ h. omega arith;
      }

  -- END and CUT
  pub step-closing : (c : Command) → closes c ≡ true → Step c true false o o p (left p next) ps (ended_at p o of_chunk ∷ []) []
  unfolding gather entries_from opening_at borders segments_from access_at uncounted scanned fresh
  step-closing c h =
      record {
        segments = rw (gather-closes here (gather ps) h, on-no-opening {A = List Border} [] (of_chunk ∷ []) (λ t. of_region t ∷ []) (of_barrier p.state.barriers ∷ []) c (closes-opens-none c h));
        accesses = rw (gather-closes here (gather ps) h, on-no-access [] access c (closes-accesses-none c h));
        scan = rw (on-closes true (λ t m. true) false c h, on-closes p.team (λ t m. t) 0 c h, on-closes (after_command p.state c) (λ t m. fresh) fresh c h);
        segment_count = refl;
        access_count = add-zero p.accesses;
        number = λ l. omega arith;
        counted = λ l. omega arith;
        access_in = λ l. omega arith;
      }
    where
      here : Placed
      here = record { at = p.at; command = c }

      access : Access → List NamedAccess
      access a =
          record {
            name = record { team = p.team; member = p.member; number = p.access };
            node = node_here p;
            access = a;
            locks = p.state.locks;
          }
          ∷ []

  -- inside a chunk
  module _ (c : Command) where
    abbrev pub after : Cursor
    after = advanced p (after_command p.state c) (opens_segment c) (adds_access c) next

    pub step-inside :
        (o' : Opening) (segs : List Segment) (accs : List NamedAccess)
        → plain c ≡ true
        → segments_to_come true o p (gather (record { at = p.at; command = c } ∷ ps)) ≡ segs ++ segments_to_come true o' after (gather ps)
        → accesses_to_come true p (gather (record { at = p.at; command = c } ∷ ps)) ≡ accs ++ accesses_to_come true after (gather ps)
        → length segs ≡ opens_segment c
        → length accs ≡ adds_access c
        → Step c true true o o' p after ps segs accs
    step-inside o' segs accs h e f x y =
        let counts = state-counts p.state c in
        record {
          segments = e;
          accesses = f;
          scan =
              unfold uncounted scanned in
              (rw (
                on-plain true (λ t m. true) false c h,
                on-plain p.team (λ t m. t) 0 c h,
                on-plain (after_command p.state c) (λ t m. fresh) fresh c h,
              ));
          segment_count = ap (λ (n : ℕ). p.segment + n) x;
          access_count = ap (λ (n : ℕ). p.accesses + n) y;
          number = λ l. omega arith;
          counted = λ l. omega arith;
          access_in = λ l. omega arith;
        }

-- inside a chunk the open segment stands behind those that have ended
pub record Open (ss done : List Segment) (p : Cursor) : Type 0 where
  pub segment : Segment
  pub more : List Segment
  pub parts : ss ≡ done ++ segment ∷ more
  pub node : segment.node ≡ node_here p

pub stands-open :
    {s : List ℕ} {o : Opening} {p : Cursor} {rest : List Placed} {done : List Segment} {seen : List NamedAccess}
    → Standing s true o p rest done seen
    → Open (segments_of (chunks_of s)) done p
stands-open {s} {o} {p} {rest} {done} v =
    let g = gather rest in
    let os = concat_map opening_at (entries_from p.state p.number p.access g.body) in
    let f = first-segment p.team p.member p.number o os in
    record {
      segment = f.segment;
      more = f.more ++ segments_of g.chunks;
      parts = v.segment_parts ∙ ap (λ (l : List Segment). done ++ (l ++ segments_of g.chunks)) f.parts;
      node = f.node;
    }

-- 7's limits
module _ {s : List ℕ} (a : Accepted s) {o : Opening} {p : Cursor} {rest : List Placed} {done : List Segment} {seen : List NamedAccess} where
  pub segment-room : Standing s true o p rest done seen → p.segment < 512
  segment-room v =
      let f = stands-open v in
      let long = ap length f.parts ∙ length-append done (f.segment ∷ f.more) in
      omega (arith, few_segments s a, v.segment_count)

  pub access-room : {inside : Bool} → Standing s inside o p rest done seen → p.accesses ≤ 1024
  access-room {inside} v =
      let long = ap length v.access_parts ∙ length-append seen (accesses_to_come inside p (gather rest)) in
      omega (arith, few-accesses s a, v.access_count)
