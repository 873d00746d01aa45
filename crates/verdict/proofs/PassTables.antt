-- What the judge's tables hold while the pass goes on.
use Prim.Native.Nat.{ℕ, ◌+◌, ◌≤◌, ◌<◌}
use mathlib.Core.Path.{◌≡◌, refl, ◌∙◌, ap}
use mathlib.Core.Bool.{Bool, true, false}
use mathlib.Core.List.{List, [], ◌∷◌, ◌++◌}
use native.Mathlib.Omega.{arith}
use native.Mathlib.Nat.{add-zero}
use lib.ListN.{length, get_or, set, length-set}
use lib.Seq.{get_or-set_same, get_or-set_other}
use Rattle.bundle.specs.Commands.{range_ok}
use Rattle.bundle.specs.Walk.{Border, of_chunk, Opening}
use Rattle.bundle.specs.declared.chunk.ChunkState.{ChunkState}
use Rattle.bundle.specs.declared.command.Access.{Access}
use Rattle.bundle.proofs.Tests.{false-is-true}
use Rattle.verdict.specs.Graph.{Segment}
use Rattle.verdict.specs.Accesses.{NamedAccess}
use Rattle.verdict.specs.Working.{end_code, open_code, node_code, SegmentTables, RowOf, AccessTable}
use Rattle.verdict.specs.Filling.{node_here, entered, left, advanced, row_here, Room}
use Rattle.verdict.specs.declared.fill.Cursor.{Cursor}
use Rattle.verdict.proofs.ListPlaces.{at-seam}
use Rattle.verdict.proofs.TableRows.{tables-kept, tables_more}
use Rattle.verdict.proofs.PassStanding.{ended_at, first_opening, Open}

-- the tables hold what is done, and of the open segment where it is opened and its node; since it was opened no barrier was passed
pub record Holding (ss : List Segment) (n : ℕ) (inside : Bool) (o : Opening) (p : Cursor) (done : List Segment) (seen : List NamedAccess) (ends opens nodes rows : List ℕ) : Type 0 where
  pub segment_tables : SegmentTables done ends opens nodes
  pub access_table : AccessTable ss seen rows
  pub open_code : inside ≡ true → get_or opens p.segment 0 ≡ open_code p.team o.border
  pub node-code : inside ≡ true → get_or nodes p.segment 0 ≡ node_code (node_here p)
  pub barriers : inside ≡ true → p.state.barriers ≡ o.state.barriers
  pub room : Room ends opens nodes rows
  pub long : length rows ≡ n

below : (n : ℕ) (words : List ℕ) (i v : ℕ) → n ≤ i → (j : ℕ) → j < n → get_or (set words i v) j 0 ≡ get_or words j 0
below n words i v l j h = get_or-set_other words i j v 0 (λ q. omega arith)

module _ {ss : List Segment} {n : ℕ} {o : Opening} {p : Cursor} {done : List Segment} {seen : List NamedAccess} {ends opens nodes rows : List ℕ} (few : p.segment < 512) (here : length done ≡ p.segment) where
  pub holds-member :
      (t m next : ℕ)
      → Holding ss n false o p done seen ends opens nodes rows
      → Holding ss n true first_opening (entered p t m next) done seen
      ends
      (set opens p.segment (open_code t of_chunk))
      (set nodes p.segment (node_code (record { team = t; member = m; number = 0 })))
      rows
  holds-member t m next h =
      let code = open_code t of_chunk in
      let node = node_code (record { team = t; member = m; number = 0 }) in
      let l = h.room.open_table in
      let k = h.room.node_table in
      record {
        segment_tables =
            tables-kept h.segment_tables
            (λ i q. refl)
            (below (length done) opens p.segment code (omega arith))
            (below (length done) nodes p.segment node (omega arith));
        access_table = h.access_table;
        open_code = λ e. get_or-set_same opens p.segment code 0 (omega arith);
        node-code = λ e. get_or-set_same nodes p.segment node 0 (omega arith);
        barriers = λ e. refl;
        room =
            record {
              end_table = h.room.end_table;
              open_table = length-set opens p.segment code ∙ l;
              node_table = length-set nodes p.segment node ∙ k;
              row_table = h.room.row_table;
            };
        long = h.long;
      }

  -- the open segment ends: the words at later places may change
  ended :
      (b : Border) (opens' nodes' : List ℕ)
      → Holding ss n true o p done seen ends opens nodes rows
      → ((j : ℕ) → j ≤ p.segment → get_or opens' j 0 ≡ get_or opens j 0)
      → ((j : ℕ) → j ≤ p.segment → get_or nodes' j 0 ≡ get_or nodes j 0)
      → SegmentTables (done ++ ended_at p o b ∷ []) (set ends p.segment (end_code p.team p.state.barriers b)) opens' nodes'
  ended b opens' nodes' h x y =
      let code = end_code p.team p.state.barriers b in
      let l = h.room.end_table in
      let ends' = set ends p.segment code in
      let end-at : get_or ends' (length done) 0 ≡ end_code p.team o.state.barriers b =
      (rw here (get_or-set_same ends p.segment code 0 (omega arith))) ∙ ap (λ (n : ℕ). end_code p.team n b) (h.barriers refl)
      in
      let open_at : get_or opens' (length done) 0 ≡ open_code p.team o.border = rw here (x p.segment (omega arith) ∙ h.open_code refl) in
      let node_at : get_or nodes' (length done) 0 ≡ node_code (node_here p) = rw here (y p.segment (omega arith) ∙ h.node-code refl) in
      tables_more (ended_at p o b)
      (tables-kept h.segment_tables
      (below (length done) ends p.segment code (omega arith))
      (λ j q. x j (omega arith))
      (λ j q. y j (omega arith)))
      (omega arith)
      end-at
      open_at
      node_at

  pub holds-end :
      (next : ℕ)
      → Holding ss n true o p done seen ends opens nodes rows
      → Holding ss n false o (left p next) (done ++ ended_at p o of_chunk ∷ []) seen
      (set ends p.segment (end_code p.team p.state.barriers of_chunk))
      opens
      nodes
      rows
  holds-end next h =
      record {
        segment_tables = ended of_chunk opens nodes h (λ j q. refl) (λ j q. refl);
        access_table = h.access_table;
        open_code = λ e. false-is-true e;
        node-code = λ e. false-is-true e;
        barriers = λ e. false-is-true e;
        room =
            record {
              end_table = length-set ends p.segment (end_code p.team p.state.barriers of_chunk) ∙ h.room.end_table;
              open_table = h.room.open_table;
              node_table = h.room.node_table;
              row_table = h.room.row_table;
            };
        long = h.long;
      }

  -- REGION and BARRIER
  pub holds-crossing :
      (b : Border) (k : ChunkState) (next : ℕ)
      → p.segment + 1 < 512
      → Holding ss n true o p done seen ends opens nodes rows
      → Holding ss n true (record { border = b; state = k }) (advanced p k 1 0 next) (done ++ ended_at p o b ∷ []) seen
      (set ends p.segment (end_code p.team p.state.barriers b))
      (set opens (p.segment + 1) (open_code p.team b))
      (set nodes (p.segment + 1) (node_code (record { team = p.team; member = p.member; number = p.number + 1 })))
      rows
  holds-crossing b k next more h =
      let i = p.segment + 1 in
      let code = open_code p.team b in
      let node = node_code (record { team = p.team; member = p.member; number = p.number + 1 }) in
      let l = h.room.open_table in
      let f = h.room.node_table in
      record {
        segment_tables =
            ended b (set opens i code) (set nodes i node) h
            (λ j q. get_or-set_other opens i j code 0 (λ z. omega arith))
            (λ j q. get_or-set_other nodes i j node 0 (λ z. omega arith));
        access_table = h.access_table;
        open_code = λ e. get_or-set_same opens i code 0 (omega arith);
        node-code = λ e. get_or-set_same nodes i node 0 (omega arith);
        barriers = λ e. refl;
        room =
            record {
              end_table = length-set ends p.segment (end_code p.team p.state.barriers b) ∙ h.room.end_table;
              open_table = length-set opens i code ∙ l;
              node_table = length-set nodes i node ∙ f;
              row_table = h.room.row_table;
            };
        long = h.long;
      }

-- the segments stay
pub holds-still :
    {ss : List Segment} {n : ℕ} {o : Opening} {p : Cursor} {done : List Segment} {seen seen' : List NamedAccess} {ends opens nodes rows rows' : List ℕ}
    (k : ChunkState) (adds next : ℕ)
    → k.barriers ≡ p.state.barriers
    → AccessTable ss seen' rows'
    → length rows' ≡ length rows
    → Holding ss n true o p done seen ends opens nodes rows
    → Holding ss n true o (advanced p k 0 adds next) done seen' ends opens nodes rows'
holds-still {p = p} k adds next same t l h =
    record {
      segment_tables = h.segment_tables;
      access_table = t;
      open_code = λ e. rw (add-zero p.segment) (h.open_code e);
      node-code = λ e. rw (add-zero p.segment, add-zero p.number) (h.node-code e);
      barriers = λ e. same ∙ h.barriers e;
      room =
          record {
            end_table = h.room.end_table;
            open_table = h.room.open_table;
            node_table = h.room.node_table;
            row_table = rw l h.room.row_table;
          };
      long = l ∙ h.long;
    }

-- the access at the cursor, and its row
abbrev pub access_here : Cursor → Access → NamedAccess
access_here p a =
    record {
      name = record { team = p.team; member = p.member; number = p.access };
      node = node_here p;
      access = a;
      locks = p.state.locks;
    }

pub row_of :
    {ss done : List Segment} {p : Cursor} (a : Access)
    → Open ss done p
    → length done ≡ p.segment
    → range_ok a.range ≡ true
    → RowOf ss (access_here p a) (row_here p a)
unfolding row_here
row_of {ss} {done} {p} a f here good =
    record {
      team = refl;
      member = refl;
      number = refl;
      site = refl;
      kind = refl;
      base = refl;
      stride = refl;
      count = refl;
      size = refl;
      last = refl;
      locks = refl;
      good = good;
      stands = f.segment;
      stands_in = rw (f.parts, ← here) (at-seam done f.segment f.more);
      stands_node = f.node;
    }
