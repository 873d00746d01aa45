-- What each command changes in the judge's tables.
use Prim.Native.Nat.{ℕ, ◌+◌, ◌-◌, ◌*◌, ◌≤◌, ◌<◌}
use mathlib.Core.Path.{◌≡◌, refl, sym, ◌∙◌, ap}
use mathlib.Core.Bool.{Bool, true, false, cond, not, ◌&&◌}
use mathlib.Core.List.{List}
use native.Mathlib.Omega.{arith}
use lib.Dec.{ltb}
use lib.ListN.{set}
use borrow.Author.Tests.{lt-ltb}
use Rattle.bundle.specs.Commands.{range_ok, last_byte, operands_ok, in_range}
use Rattle.bundle.specs.Locks.{holds}
use Rattle.bundle.specs.Chunks.{after_barrier, after_join, after_acquire, after_release, after_command}
use Rattle.bundle.specs.Walk.{opens_segment, adds_access, Border, of_chunk, of_barrier, of_region}
use Rattle.bundle.proofs.Delimiters.{closes, on-closes, on-no-access, closes-accesses-none}
use Rattle.bundle.specs.Scan.{misuses_lock}
use Rattle.bundle.specs.Index.{Added}
use Rattle.bundle.specs.declared.chunk.ChunkState.{ChunkState}
use Rattle.bundle.specs.declared.command.Access.{Access}
use Rattle.bundle.specs.declared.command.Range.{Range}
use Rattle.bundle.specs.declared.command.AccessKind.{AccessKind}
use Rattle.bundle.specs.declared.command.AccessKind.TheVariants as Kind
use Rattle.bundle.specs.declared.command.Command.{Command}
use Rattle.bundle.specs.declared.command.Command.TheVariants as Com
use Rattle.bundle.proofs.Ranges.{in-range-ok}
use Rattle.bundle.proofs.Tests.{false-is-true}
use Rattle.bundle.proofs.Ranges.{range-parts, size-within}
use Rattle.verdict.specs.Working.{fork_code, barrier_code, join_code, end_code, open_code, node_code, kind_code, access_row_at, RowIn, Slim}
use Rattle.verdict.specs.Filling.{entered, left, advanced, cursor_after, on_crossing, ends_after, opens_after, nodes_after, row_here, SegmentOpened, Countable, Notable, Noted}
use Rattle.verdict.specs.declared.fill.Cursor.{Cursor}
use Rattle.verdict.specs.declared.rows.AccessRow.{AccessRow}

-- the last byte of a good range, at the numbers of the code
module _ (r : Range) (ok : range_ok r ≡ true) where
  pub counted-some : 1 ≤ r.count
  counted-some = (range-parts r ok).counted

  pub sized-some : 1 ≤ r.size
  sized-some = (size-within r.size (range-parts r ok).sized).0

  pub last-below : r.base + (r.count - 1) * r.stride + (r.size - 1) < 4294967296
  last-below =
      let l : r.base + (r.count - 1) * r.stride + (r.size - 1) ≤ 4294967295 = unfold last_byte in (range-parts r ok).last in
      omega arith

  pub start-below : r.base + (r.count - 1) * r.stride < 4294967296
  start-below = let l = last-below in omega arith

  pub steps-below : (r.count - 1) * r.stride < 4294967296
  steps-below = let l = last-below in omega arith

-- the state's own tests pass in an accepted bundle
pub joins-on : (k after : ChunkState) → k.regions < 4294967295 → after ≡ cond (ltb k.regions 4294967295) (after_join k) k → after ≡ after_join k
joins-on k after h e = e ∙ ap (λ (b : Bool). cond b (after_join k) k) (lt-ltb k.regions 4294967295 h)

pub passes_on : (k after : ChunkState) → k.barriers < 4294967295 → after ≡ cond (ltb k.barriers 4294967295) (after_barrier k) k → after ≡ after_barrier k
passes_on k after h e = e ∙ ap (λ (b : Bool). cond b (after_barrier k) k) (lt-ltb k.barriers 4294967295 h)

pub acquires :
    (k after : ChunkState) (l : ℕ)
    → in_range (Com.Acquire l) ≡ true
    → misuses_lock k.locks (Com.Acquire l) ≡ false
    → after ≡ cond (ltb l 64 && not (holds l k.locks)) (after_acquire l k) k
    → after ≡ after_acquire l k
unfolding operands_ok misuses_lock
acquires k after l r m e = e ∙ go (ltb l 64) (holds l k.locks) (in-range-ok (Com.Acquire l) r) m
  where
    go : (a b : Bool) → a ≡ true → b ≡ false → cond (a && not b) (after_acquire l k) k ≡ after_acquire l k
    go a b p q = rw (p, q)

pub releases :
    (k after : ChunkState) (l : ℕ)
    → misuses_lock k.locks (Com.Release l) ≡ false
    → after ≡ cond (holds l k.locks) (after_release l k) k
    → after ≡ after_release l k
unfolding misuses_lock
releases k after l m e = e ∙ go (holds l k.locks) m
  where
    go : (b : Bool) → not b ≡ false → cond b (after_release l k) k ≡ after_release l k
    go true q = refl
    go false q = false-is-true (sym q)

no_access : (c : Command) → adds_access c ≡ 0 → (a : Access) → c ≡ Com.Access a → ⊥
no_access c n a e = go (sym n ∙ ap adds_access e)
  where
    go : ◌≡◌ {A = ℕ} 0 (adds_access (Com.Access a)) → ⊥
    go q = let z : ◌≡◌ {A = ℕ} 0 1 = unfold adds_access in q in omega arith

-- a kind's number has four bits
kind-below : (k : AccessKind) → kind_code k < 16
unfolding kind_code
kind-below Kind.Read = omega arith
kind-below Kind.Write = omega arith
kind-below Kind.AtomicRead = omega arith
kind-below Kind.AtomicWrite = omega arith

-- what the arms ask
module _ {p : Cursor} {c : Command} {ends opens nodes rows : List ℕ} (n : Notable p c ends opens nodes rows) where
  pub member-room : {t m next : ℕ} {r : Cursor} → r ≡ entered p t m next → r.segment < 512
  member-room e = rw e (omega (arith, n.segment))

  crossing-room :
      {next : ℕ} {k : ChunkState} {r : Cursor}
      → on_crossing {A = ℕ} p.state 0 (λ b. 1) c ≡ 1
      → r ≡ advanced p k 1 0 next
      → r.segment < 512
  crossing-room o e = rw e (omega (arith, n.segment))

  pub region-room :
      {t z next : ℕ} {k : ChunkState} {r : Cursor}
      → c ≡ Com.Region t z
      → r ≡ advanced p k 1 0 next
      → r.segment < 512
  region-room q = crossing-room (ap (on_crossing {A = ℕ} p.state 0 (λ b. 1)) q ∙ unfold on_crossing in refl)

  pub barrier-room :
      {next : ℕ} {k : ChunkState} {r : Cursor}
      → c ≡ Com.Barrier
      → r ≡ advanced p k 1 0 next
      → r.segment < 512
  barrier-room q = crossing-room (ap (on_crossing {A = ℕ} p.state 0 (λ b. 1)) q ∙ unfold on_crossing in refl)

  access-below : {a : Access} → c ≡ Com.Access a → p.accesses < 1024
  access-below q = let one : adds_access c ≡ 1 = ap adds_access q ∙ unfold adds_access in refl in omega (arith, n.access)

  pub access-room : {a : Access} → c ≡ Com.Access a → (p.segment < 512) × (p.access < 1024) × (range_ok a.range ≡ true)
  access-room {a} q =
      let l = access-below q in (
        omega (arith, n.segment),
        omega (arith, n.access_in),
        unfold operands_ok in (in-range-ok (Com.Access a) (rw q at n.in-range)),
      )

  pub row_room : {a : Access} {row : AccessRow} → c ≡ Com.Access a → row ≡ row_here p a → RowIn rows p.accesses × Slim row
  unfolding row_here
  row_room {a} q e =
      let z = size-within a.range.size (range-parts a.range (access-room q).2).sized in (
        record { below = access-below q; whole = n.room.row_table },
        rw e (record { kind = kind-below a.kind; size = omega arith }),
      )

  pub access-counts : {a : Access} → c ≡ Com.Access a → Countable p 0 1
  access-counts q =
      let l = access-below q in
      record { segments = omega (arith, n.segment); numbers = n.number; accesses = omega arith; accesses-in = n.access_in }

-- what they change
module _ {p : Cursor} {c : Command} {next : ℕ} {r : Cursor} {ends opens nodes rows : List ℕ} (n : Notable p c ends opens nodes rows) where
  pub noted-member :
      {t m code : ℕ} {opens' nodes' : List ℕ}
      → c ≡ Com.Member t m
      → r ≡ entered p t m next
      → code ≡ fork_code t
      → SegmentOpened r code opens nodes opens' nodes'
      → Noted p c next r ends opens nodes rows ends opens' nodes' rows
  unfolding cursor_after ends_after opens_after nodes_after open_code
  noted-member {t} {m} w e q o =
      rw w
      (record {
        cursor = e;
        end_codes = refl;
        open_codes = o.opened ∙ rw (e, q);
        node_codes = o.node ∙ rw e;
        no_row = λ z. refl;
        row = λ a z. absurd (no_access (Com.Member t m) (unfold adds_access in refl) a z);
      })

  pub noted-closing :
      {ends' : List ℕ}
      → closes c ≡ true
      → r ≡ left p next
      → ends' ≡ set ends p.segment (end_code p.team p.state.barriers of_chunk)
      → Noted p c next r ends opens nodes rows ends' opens nodes rows
  unfolding cursor_after ends_after opens_after nodes_after
  noted-closing h e q =
      record {
        cursor = e ∙ sym (on-closes _ _ _ c h);
        end_codes = q ∙ sym (on-closes _ _ _ c h);
        open_codes = sym (on-closes _ _ _ c h);
        node_codes = sym (on-closes _ _ _ c h);
        no_row = λ z. refl;
        row = λ a z. absurd (no_access c (unfold adds_access in (on-no-access 0 (λ b. 1) c (closes-accesses-none c h))) a z);
      }

  -- REGION and BARRIER, which cross a border
  noted-crossing :
      (d : Command) (b : Border) {k : ChunkState} {code code' : ℕ} {opens' nodes' : List ℕ}
      → c ≡ d
      → cursor_after p d next ≡ advanced p (after_command p.state d) 1 0 next
      → ends_after p d ends ≡ set ends p.segment (end_code p.team p.state.barriers b)
      → opens_after p d opens ≡ set opens (p.segment + 1) (open_code p.team b)
      → nodes_after p d nodes ≡ set nodes (p.segment + 1) (node_code (record { team = p.team; member = p.member; number = p.number + 1 }))
      → adds_access d ≡ 0
      → k ≡ after_command p.state d
      → code ≡ end_code p.team p.state.barriers b
      → r ≡ advanced p k 1 0 next
      → code' ≡ open_code p.team b
      → SegmentOpened r code' opens nodes opens' nodes'
      → Noted p c next r ends opens nodes rows (set ends p.segment code) opens' nodes' rows
  noted-crossing d b w u x y z a s q e q' o =
      rw w
      (record {
        cursor = e ∙ ap (λ (j : ChunkState). advanced p j 1 0 next) s ∙ sym u;
        end_codes = ap (set ends p.segment) q ∙ sym x;
        open_codes = o.opened ∙ (rw (e, q')) ∙ sym y;
        node_codes = o.node ∙ (rw e) ∙ sym z;
        no_row = λ v. refl;
        row = λ f v. absurd (no_access d a f v);
      })

  pub noted-region :
      {t z : ℕ} {k : ChunkState} {code code' : ℕ} {opens' nodes' : List ℕ}
      → c ≡ Com.Region t z
      → k ≡ cond (ltb p.state.regions 4294967295) (after_join p.state) p.state
      → code ≡ 2 * fork_code t
      → r ≡ advanced p k 1 0 next
      → code' ≡ join_code t
      → SegmentOpened r code' opens nodes opens' nodes'
      → Noted p c next r ends opens nodes rows (set ends p.segment code) opens' nodes' rows
  unfolding cursor_after ends_after opens_after nodes_after on_crossing opens_segment adds_access after_command end_code open_code
  noted-region {t} {z} {k} w s =
      let few : p.state.regions < 4294967295 = omega (arith, n.opened, n.number, n.segment) in
      noted-crossing (Com.Region t z) (of_region t) w refl refl refl refl refl (joins-on p.state k few s)

  pub noted-barrier :
      {k : ChunkState} {code code' : ℕ} {opens' nodes' : List ℕ}
      → c ≡ Com.Barrier
      → k ≡ cond (ltb p.state.barriers 4294967295) (after_barrier p.state) p.state
      → code ≡ 2 * barrier_code p.state.barriers p.team
      → r ≡ advanced p k 1 0 next
      → code' ≡ barrier_code p.state.barriers p.team
      → SegmentOpened r code' opens nodes opens' nodes'
      → Noted p c next r ends opens nodes rows (set ends p.segment code) opens' nodes' rows
  unfolding cursor_after ends_after opens_after nodes_after on_crossing opens_segment adds_access after_command end_code open_code
  noted-barrier {k} w s =
      let few : p.state.barriers < 4294967295 = omega (arith, n.opened, n.number, n.segment) in
      noted-crossing Com.Barrier (of_barrier p.state.barriers) w refl refl refl refl refl (passes_on p.state k few s)

  -- ACQUIRE and RELEASE, which change the state alone
  noted-still :
      (d : Command) {k : ChunkState}
      → c ≡ d
      → cursor_after p d next ≡ advanced p (after_command p.state d) 0 0 next
      → ends_after p d ends ≡ ends
      → opens_after p d opens ≡ opens
      → nodes_after p d nodes ≡ nodes
      → adds_access d ≡ 0
      → k ≡ after_command p.state d
      → r ≡ advanced p k 0 0 next
      → Noted p c next r ends opens nodes rows ends opens nodes rows
  noted-still d w u x y z a s e =
      rw w
      (record {
        cursor = e ∙ ap (λ (j : ChunkState). advanced p j 0 0 next) s ∙ sym u;
        end_codes = sym x;
        open_codes = sym y;
        node_codes = sym z;
        no_row = λ v. refl;
        row = λ f v. absurd (no_access d a f v);
      })

  pub noted-acquire :
      {l : ℕ} {k : ChunkState}
      → c ≡ Com.Acquire l
      → k ≡ cond (ltb l 64 && not (holds l p.state.locks)) (after_acquire l p.state) p.state
      → r ≡ advanced p k 0 0 next
      → Noted p c next r ends opens nodes rows ends opens nodes rows
  unfolding cursor_after ends_after opens_after nodes_after on_crossing opens_segment adds_access after_command
  noted-acquire {l} {k} w s =
      noted-still (Com.Acquire l) w refl refl refl refl refl
      (acquires p.state k l (rw w at n.in-range) (rw w at n.locks_ok) s)

  pub noted-release :
      {l : ℕ} {k : ChunkState}
      → c ≡ Com.Release l
      → k ≡ cond (holds l p.state.locks) (after_release l p.state) p.state
      → r ≡ advanced p k 0 0 next
      → Noted p c next r ends opens nodes rows ends opens nodes rows
  unfolding cursor_after ends_after opens_after nodes_after on_crossing opens_segment adds_access after_command
  noted-release {l} {k} w s =
      noted-still (Com.Release l) w refl refl refl refl refl (releases p.state k l (rw w at n.locks_ok) s)

  pub noted-access :
      {a : Access} {row : AccessRow} {rows' : List ℕ}
      → c ≡ Com.Access a
      → row ≡ row_here p a
      → Added access_row_at rows rows' p.accesses row
      → r ≡ advanced p p.state 0 1 next
      → Noted p c next r ends opens nodes rows ends opens nodes rows'
  unfolding cursor_after ends_after opens_after nodes_after on_crossing opens_segment adds_access after_command
  noted-access {a} {row} w q d e =
      rw w
      (record {
        cursor = e;
        end_codes = refl;
        open_codes = refl;
        node_codes = refl;
        no_row = λ z. let v : ◌≡◌ {A = ℕ} 1 0 = z in absurd (omega arith);
        row = λ b z. let same : a ≡ b = cc in rw (← same, ← q) d;
      })
