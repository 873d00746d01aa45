-- The tests 8 to 12 and 19 by the tables of the code are those over the rows, and their answers are the shape's.
use Prim.Native.Nat.{ℕ, ◌+◌, ◌*◌, ◌%◌, ◌≤◌, ◌<◌}
use mathlib.Core.Path.{◌≡◌, refl, sym, ◌∙◌, ap}
use mathlib.Core.Logic.{◌⊎◌, inl, inr}
use mathlib.Core.Bool.{Bool, true, false, cond, not, ◌&&◌, ◌||◌, and-true}
use mathlib.Core.List.{List, [], Memᴰ}
use native.Mathlib.Omega.{arith}
use native.Mathlib.Numerals.{add-one}
use lib.Dec.{eqb, ltb, leb}
use lib.ListN.{length, get_or}
use native.Mathlib.Decide.{dec_lt}
use borrow.Author.Tests.{eqb-true, leb-true, leb-false, le-leb, ltb-true, lt-ltb, not-false}
use Rattle.sorting.specs.Searching.{first_with_key}
use Rattle.bundle.specs.Answer.{Answer, gives, refuses}
use Rattle.bundle.specs.Lists.{up_to, any}
use Rattle.bundle.specs.Check.{size_of, depth_of, failing, forked_before, refused_at}
use Rattle.bundle.specs.Index.{chunk_row_of, chunk_row_at, fork_row_of, fork_row_at, table, is_row}
use Rattle.bundle.specs.Shape.{stray_row, lacks_row, complete_row, lowest_row, unlike_row, beyond_row, barriers_by_rows, settled_by_rows, shape_by_rows, passed, fails_at, FirstFailing, slot_of, ByTeam, met_at, marked_at, Known, lead_word, Lead, noted_lead, Met, Settled, lacks_by, unlike_by, beyond_by, uneven_by, forked_by, lacks_at, deep_at, unlike_at, uneven_at}
use Rattle.bundle.specs.declared.index.ChunkRow.{ChunkRow}
use Rattle.bundle.specs.declared.index.Fork.{Fork}
use Rattle.bundle.proofs.Tests.{both, and_left, and_right, or-false, not-both, refuted, fails, decide, same_test}
use Rattle.bundle.proofs.ListLaws.{any-elim, any-intro, all-agree, up_to-elim}
use Rattle.bundle.proofs.Tables.{table-length, table_more, table-in, table-each}
use Rattle.bundle.proofs.FailingAt.{all_pass, one-fails, same_first, passed-table}
use Rattle.bundle.proofs.Slots.{slot-within, sized-known, forked-index, own-slot, deep-depth}
use Rattle.bundle.proofs.MetTables.{is-row, met-more}
use Rattle.bundle.proofs.Leads.{complete-row, row-complete, lower-greater, lead-barriers, lead-positive}

member-small : (chunks : List ℕ) (i : ℕ) → (chunk_row_at chunks i).member < 256
unfolding chunk_row_at chunk_row_of
member-small chunks i = omega arith

barriers-small : (chunks : List ℕ) (i : ℕ) → (chunk_row_at chunks i).barriers < 65536
unfolding chunk_row_at chunk_row_of
barriers-small chunks i = omega arith

unlike-none : (r : ChunkRow) (w : ℕ) → r.complete ≡ true → unlike_by r w ≡ false → r.barriers ≡ w % 65536
unfolding unlike_by
unlike-none r w c e =
    let same : not (eqb r.barriers (w % 65536)) ≡ false = rw c at e in
    eqb-true r.barriers (w % 65536) (not-false _ same)

-- a chunk that fails neither 12 nor 19, and one that fails one of them
module _ (r : ChunkRow) (w : ℕ) where
  even-alike : uneven_by r w ≡ false → unlike_by r w ≡ false
  unfolding uneven_by unlike_by
  even-alike e = go r.complete e
    where
      go : (b : Bool) → cond b (not (eqb r.barriers (w % 65536))) (leb 1 w && ltb (w % 65536) r.barriers) ≡ false → (b && not (eqb r.barriers (w % 65536))) ≡ false
      go true e = e
      go false e = refl

  even-within : uneven_by r w ≡ false → beyond_by r w ≡ false
  unfolding uneven_by beyond_by
  even-within e = go r.complete e
    where
      go : (b : Bool) → cond b (not (eqb r.barriers (w % 65536))) (leb 1 w && ltb (w % 65536) r.barriers) ≡ false → (not b && (leb 1 w && ltb (w % 65536) r.barriers)) ≡ false
      go true e = refl
      go false e = e

  uneven-unlike : r.complete ≡ true → uneven_by r w ≡ true → unlike_by r w ≡ true
  unfolding uneven_by unlike_by
  uneven-unlike c e = rw c (rw c at e)

  uneven-beyond : r.complete ≡ false → uneven_by r w ≡ true → beyond_by r w ≡ true
  unfolding uneven_by beyond_by
  uneven-beyond c e = rw c (rw c at e)

size_small : (forks : List ℕ) (i : ℕ) → (fork_row_at forks i).size < 256
unfolding fork_row_at fork_row_of
size_small forks i = omega arith

module _ (chunks forks order : List ℕ) (n : ℕ) (by : ByTeam order (table (fork_row_at forks) n)) where
  abbrev fs : List Fork
  fs = table (fork_row_at forks) n

  -- 9: a turn of the pass over the chunks
  module _ (i : ℕ) {masks leads : List ℕ} (met : Met (table (fork_row_at forks) n) (table (chunk_row_at chunks) i) masks leads)
      {row : ChunkRow} {slot : ℕ}
      (e : row ≡ chunk_row_at chunks i) (s : slot ≡ first_with_key order row.team) where
    pub slot_is : slot ≡ slot_of fs row.team
    slot_is = s ∙ by.slot row.team

    pub slot-room : (4 * slot + 3 < length masks) × (slot < length leads)
    slot-room =
        let w = slot-within (fork_row_at forks) n row.team in
        let l = table-length (fork_row_at forks) n in
        let m = met.masks_long in
        let f = met.leads_long in
        let q = slot_is in
        (omega arith, omega arith)

    new-member : Known fs row.team → met_at masks slot row.member ≡ any (is_row row.team row.member) (table (chunk_row_at chunks) i)
    new-member k = rw slot_is (met.members row.team row.member k (rw e (member-small chunks i)))

    member_below : leb (size_of fs row.team) row.member ≡ false → Known fs row.team
    member_below h = sized-known (fork_row_at forks) n row.team row.member (leb-false (size_of fs row.team) row.member h)

    module _ {stray : Bool} (t : stray ≡ (leb (size_of fs row.team) row.member || met_at masks slot row.member)) where
      pub stray-is : stray ≡ fails_at (stray_row fs) (chunk_row_at chunks) i
      unfolding stray_row
      stray-is = t ∙ go (decide (leb (size_of fs row.team) row.member))
        where
          go :
              (leb (size_of fs row.team) row.member ≡ true) ⊎ (leb (size_of fs row.team) row.member ≡ false)
              → (leb (size_of fs row.team) row.member || met_at masks slot row.member)
              ≡ (leb (size_of fs (chunk_row_at chunks i).team) (chunk_row_at chunks i).member
              || any (is_row (chunk_row_at chunks i).team (chunk_row_at chunks i).member) (passed (chunk_row_at chunks) i))
          go (inl h) = rw (← e, h)
          go (inr h) =
              rw (← e, h)
              (new-member (member_below h) ∙ sym (passed-table (is_row row.team row.member) (chunk_row_at chunks) i))

      pub stray-noted :
          {masks' leads' : List ℕ}
          → stray ≡ false
          → masks' ≡ marked_at masks slot row.member
          → leads' ≡ noted_lead row leads slot
          → Met fs (table (chunk_row_at chunks) (i + 1)) masks' leads'
      stray-noted h a b =
          let both_false = or-false (leb (size_of fs row.team) row.member) (met_at masks slot row.member) (sym t ∙ h) in
          let k = member_below both_false.0 in
          rw (a, b, add-one, table_more (chunk_row_at chunks) i, ← e, slot_is)
          (met-more (fork_row_at forks) n (table (chunk_row_at chunks) i) row masks leads met k
          (rw e (member-small chunks i))
          (rw (table-length (fork_row_at forks) n) (slot-within (fork_row_at forks) n row.team))
          (sym (new-member k) ∙ both_false.1))

-- the tests past 8 and 9
module _ (chunks forks order masks leads : List ℕ) (count n : ℕ) (settled : Settled chunks forks order masks leads count n) where
  abbrev rows : List ChunkRow
  rows = table (chunk_row_at chunks) count

  abbrev regions : List Fork
  regions = table (fork_row_at forks) n

  lacks-is : (i : ℕ) → i < n → lacks_at forks masks i ≡ lacks_row rows (fork_row_at forks i).team (fork_row_at forks i).size
  unfolding lacks_by lacks_row
  lacks-is i h =
      ap not
      (all-agree (λ m. met_at masks i m) (λ m. any (is_row team m) rows) (up_to (fork_row_at forks i).size)
      (λ m l. rw own at (settled.met.members team m known (below m (up_to-elim (fork_row_at forks i).size l)))))
    where
      team : ℕ
      team = (fork_row_at forks i).team

      own : slot_of regions (fork_row_at forks i).team ≡ i
      own = own-slot (fork_row_at forks) n i h (settled.once_forked i h)

      known : Known regions (fork_row_at forks i).team
      known past = let l = table-length (fork_row_at forks) n in absurd (omega (arith, own))

      below : (m : ℕ) → m < (fork_row_at forks i).size → m < 256
      below m l = let s = size_small forks i in omega arith

  deep_is : (i : ℕ) → i < n → deep_at forks order i ≡ ltb 4 (depth_of regions (fork_row_at forks i).team)
  deep_is i h = deep-depth forks order n settled.by_team (fork_row_at forks i).team

  -- 12 and 19 of a chunk, by the lowest-numbered complete member of its team
  known : (i : ℕ) → i < count → Known regions (chunk_row_at chunks i).team
  unfolding stray_row
  known i h =
      sized-known (fork_row_at forks) n (chunk_row_at chunks i).team (chunk_row_at chunks i).member
      (leb-false _ _ (or-false _ _ (settled.no_stray i h)).0)

  abbrev lead_of : ℕ → ℕ
  lead_of t = get_or leads (first_with_key order t) 0

  lead : (i : ℕ) → i < count → Lead rows (chunk_row_at chunks i).team (lead_of (chunk_row_at chunks i).team)
  lead i h = rw (settled.by_team.slot (chunk_row_at chunks i).team) (settled.met.lowest (chunk_row_at chunks i).team (known i h))

  -- the row of an index
  record At (r : ChunkRow) : Type 0 where
    index : ℕ
    below : index < count
    is : r ≡ chunk_row_at chunks index

  row_at : (r : ChunkRow) → Memᴰ r rows → At r
  row_at = table-each At (chunk_row_at chunks) count (λ k h. record { index = k; below = h; is = refl })

  small : (r : ChunkRow) → Memᴰ r rows → (r.member < 256) × (r.barriers < 65536)
  small r m = let a = row_at r m in rw a.is (member-small chunks a.index, barriers-small chunks a.index)

  -- a member has one chunk
  apart :
      (i j : ℕ)
      → i < j
      → j < count
      → (chunk_row_at chunks i).team ≡ (chunk_row_at chunks j).team
      → (chunk_row_at chunks i).member ≡ (chunk_row_at chunks j).member
      → ⊥
  unfolding stray_row
  apart i j h l t m =
      let q = is_row (chunk_row_at chunks j).team (chunk_row_at chunks j).member in
      not-both
      (passed-table q (chunk_row_at chunks) j
      ∙ any-intro q (table-in (chunk_row_at chunks) j i h) (is-row (chunk_row_at chunks i) (chunk_row_at chunks j).team (chunk_row_at chunks j).member t m))
      (or-false (leb (size_of regions (chunk_row_at chunks j).team) (chunk_row_at chunks j).member) (any q (passed (chunk_row_at chunks) j)) (settled.no_stray j l)).1

  one_chunk : (r q : ChunkRow) → Memᴰ r rows → Memᴰ q rows → r.team ≡ q.team → r.member ≡ q.member → r ≡ q
  one_chunk r q a b t m = go (row_at r a) (row_at q b)
    where
      go : At r → At q → r ≡ q
      go x y = order-of (dec_lt x.index y.index) (dec_lt y.index x.index)
        where
          order-of : Dec (x.index < y.index) → Dec (y.index < x.index) → r ≡ q
          order-of (yes h) l = absurd (apart x.index y.index h y.below (rw (x.is, y.is) at t) (rw (x.is, y.is) at m))
          order-of (no h) (yes l) = absurd (apart y.index x.index l x.below (sym (rw (x.is, y.is) at t)) (sym (rw (x.is, y.is) at m)))
          order-of (no h) (no l) = let e : x.index ≡ y.index = omega arith in x.is ∙ ap (chunk_row_at chunks) e ∙ sym y.is

  -- the barriers of the chunk whose number it is
  lead-read : {w : ℕ} (d : ChunkRow) → Memᴰ d rows → lead_word d ≡ w → w % 65536 ≡ d.barriers
  lead-read d m e = ap (λ (x : ℕ). x % 65536) (sym e) ∙ lead-barriers d (small d m).1

  -- a complete chunk among these
  module _ {t w : ℕ} (l : Lead rows t w) where
    lowest-is : (d : ChunkRow) → Memᴰ d rows → complete_row t d ≡ true → lead_word d ≡ w → lowest_row rows t d ≡ true
    unfolding lowest_row
    lowest-is d m h e =
        let p : ChunkRow → Bool = λ q. complete_row t q && ltb q.member d.member in
        both h
        (fails (any p rows)
        (λ z.
        let q = any-elim p rows z in
        let g = l.greatest q.element q.present (and_left (complete_row t q.element) _ q.passes) in
        let b = ltb-true _ _ (and_right (complete_row t q.element) _ q.passes) in
        let s = lower-greater q.element d b (small d m).0 in
        omega arith))

    lowest-lead : (q : ChunkRow) → Memᴰ q rows → lowest_row rows t q ≡ true → lead_word q ≡ w
    unfolding lowest_row
    lowest-lead q m h = go l.reached
      where
        whole : complete_row t q ≡ true
        whole = and_left (complete_row t q) _ h

        go : (w ≡ 0) ⊎ ((d : ChunkRow) × Memᴰ d rows × (complete_row t d ≡ true) × (lead_word d ≡ w)) → lead_word q ≡ w
        go (inl e) = absurd (let g = l.greatest q m whole in let p = lead-positive q (small q m).0 in omega arith)
        go (inr d) = by_members (dec_lt q.member d.0.member) (dec_lt d.0.member q.member)
          where
            by_members : Dec (q.member < d.0.member) → Dec (d.0.member < q.member) → lead_word q ≡ w
            by_members (yes b) c =
                absurd (let g = l.greatest q m whole in let s = lower-greater q d.0 b (small d.0 d.1).0 in let e = d.3 in omega arith)
            by_members (no b) (yes c) =
                let p : ChunkRow → Bool = λ z. complete_row t z && ltb z.member q.member in
                absurd (refuted (any-intro p d.1 (both d.2 (lt-ltb _ _ c))) (and_right (complete_row t q) _ h))
            by_members (no b) (no c) =
                let same = one_chunk q d.0 m d.1 ((row-complete q whole).0 ∙ sym (row-complete d.0 d.2).0) (omega arith) in
                ap lead_word same ∙ d.3

  unlike-is : (i : ℕ) → i < count → unlike_at chunks order leads i ≡ unlike_row rows (chunk_row_at chunks i)
  unfolding unlike_by unlike_row
  unlike-is i h = same_test _ _ there back
    where
      r : ChunkRow
      r = chunk_row_at chunks i

      w : ℕ
      w = lead_of (chunk_row_at chunks i).team

      l : Lead rows (chunk_row_at chunks i).team w
      l = lead i h

      there :
          (r.complete && not (eqb r.barriers (w % 65536))) ≡ true
          → (r.complete && any (λ (q : ChunkRow). lowest_row rows r.team q && not (eqb r.barriers q.barriers)) rows) ≡ true
      there e = both (and_left r.complete _ e) (go l.reached)
        where
          go :
              (w ≡ 0) ⊎ ((d : ChunkRow) × Memᴰ d rows × (complete_row r.team d ≡ true) × (lead_word d ≡ w))
              → any (λ (q : ChunkRow). lowest_row rows r.team q && not (eqb r.barriers q.barriers)) rows ≡ true
          go (inl z) =
              absurd
              (let g = l.greatest r (table-in (chunk_row_at chunks) count i h) (complete-row r refl (and_left r.complete _ e)) in
              let p = lead-positive r (member-small chunks i) in
              omega arith)
          go (inr d) =
              let same = lead-read d.0 d.1 d.3 in
              any-intro (λ (q : ChunkRow). lowest_row rows r.team q && not (eqb r.barriers q.barriers)) d.1
              (both (lowest-is l d.0 d.1 d.2 d.3) (rw same at (and_right r.complete _ e)))

      back :
          (r.complete && any (λ (q : ChunkRow). lowest_row rows r.team q && not (eqb r.barriers q.barriers)) rows) ≡ true
          → (r.complete && not (eqb r.barriers (w % 65536))) ≡ true
      back e =
          let q = any-elim (λ (q : ChunkRow). lowest_row rows r.team q && not (eqb r.barriers q.barriers)) rows (and_right r.complete _ e) in
          let d = q.element in
          let low = and_left (lowest_row rows r.team d) _ q.passes in
          let same = lead-read d q.present (lowest-lead l d q.present low) in
          both (and_left r.complete _ e) (rw same (and_right (lowest_row rows r.team d) _ q.passes))

  abbrev beyond_at : ℕ → Bool
  beyond_at i = beyond_by (chunk_row_at chunks i) (lead_of (chunk_row_at chunks i).team)

  -- past 12 the complete members of a team have the barriers of the lowest-numbered one
  beyond-is :
      ((j : ℕ) → j < count → unlike_at chunks order leads j ≡ false)
      → (i : ℕ)
      → i < count
      → beyond_at i ≡ beyond_row rows (chunk_row_at chunks i)
  unfolding unlike_by beyond_by beyond_row
  beyond-is alike i h = same_test _ _ there back
    where
      r : ChunkRow
      r = chunk_row_at chunks i

      w : ℕ
      w = lead_of (chunk_row_at chunks i).team

      l : Lead rows (chunk_row_at chunks i).team w
      l = lead i h

      there :
          (not r.complete && (leb 1 w && ltb (w % 65536) r.barriers)) ≡ true
          → (not r.complete && any (λ (q : ChunkRow). complete_row r.team q && ltb q.barriers r.barriers) rows) ≡ true
      there e = both (and_left (not r.complete) _ e) (go l.reached)
        where
          more : (leb 1 w && ltb (w % 65536) r.barriers) ≡ true
          more = and_right (not r.complete) _ e

          go :
              (w ≡ 0) ⊎ ((d : ChunkRow) × Memᴰ d rows × (complete_row r.team d ≡ true) × (lead_word d ≡ w))
              → any (λ (q : ChunkRow). complete_row r.team q && ltb q.barriers r.barriers) rows ≡ true
          go (inl z) = absurd (let p = leb-true 1 w (and_left (leb 1 w) _ more) in omega arith)
          go (inr d) =
              let same = lead-read d.0 d.1 d.3 in
              any-intro (λ (q : ChunkRow). complete_row r.team q && ltb q.barriers r.barriers) d.1
              (both d.2 (rw same at (and_right (leb 1 w) _ more)))

      back :
          (not r.complete && any (λ (q : ChunkRow). complete_row r.team q && ltb q.barriers r.barriers) rows) ≡ true
          → (not r.complete && (leb 1 w && ltb (w % 65536) r.barriers)) ≡ true
      back e =
          let q = any-elim (λ (q : ChunkRow). complete_row r.team q && ltb q.barriers r.barriers) rows (and_right (not r.complete) _ e) in
          let d = q.element in
          let whole = and_left (complete_row r.team d) _ q.passes in
          let some : 1 ≤ w = let g = l.greatest d q.present whole in let p = lead-positive d (small d q.present).0 in omega arith in
          both (and_left (not r.complete) _ e)
          (both (le-leb 1 w some) (rw (agrees d q.present whole) (and_right (complete_row r.team d) _ q.passes)))
        where
          agrees : (d : ChunkRow) → Memᴰ d rows → complete_row r.team d ≡ true → w % 65536 ≡ d.barriers
          agrees d m whole =
              let a = row_at d m in
              let c = row-complete d whole in
              let own : lead_of (chunk_row_at chunks a.index).team ≡ w = ap lead_of (ap (λ (x : ChunkRow). x.team) (sym a.is) ∙ c.0) in
              let same : unlike_by (chunk_row_at chunks a.index) (lead_of (chunk_row_at chunks a.index).team) ≡ false = unfold unlike_by in (alike a.index a.below) in
              sym (unlike-none d w c.1 (rw (own, ← a.is) at same))

  root_is : {b : Bool} {slot : ℕ} → slot ≡ first_with_key order 0 → b ≡ met_at masks slot 0 → lacks_row rows 0 1 ≡ not b
  unfolding lacks_row
  root_is s e =
      ap not
      (and-true (any (is_row 0 0) rows)
      ∙ sym (settled.met.members 0 0 (λ past. refl) (omega arith))
      ∙ ap (λ (k : ℕ). met_at masks k 0) (sym (s ∙ settled.by_team.slot 0))
      ∙ sym e)

  abbrev from19 : Answer (Unit {0})
  from19 = refused_at 19 (failing (λ (r : ChunkRow). r.place) (λ before r. beyond_row rows r) [] rows) (gives tt)

  module _ {r12 : ℕ} (f12 : FirstFailing (unlike_at chunks order leads) count r12) where
    pub one-unlike : r12 < count → refuses 12 (chunk_row_at chunks r12).place ≡ barriers_by_rows rows
    unfolding barriers_by_rows
    one-unlike h = sym (one-fails (λ (r : ChunkRow). r.place) (λ before r. unlike_row rows r) (chunk_row_at chunks) 12 from19 (same_first unlike-is f12) h)

    module _ (p12 : count ≤ r12) {r19 : ℕ} (f19 : FirstFailing beyond_at count r19) where
      past-12 : barriers_by_rows rows ≡ from19
      unfolding barriers_by_rows
      past-12 = all_pass (λ (r : ChunkRow). r.place) (λ before r. unlike_row rows r) (chunk_row_at chunks) 12 from19 (same_first unlike-is f12) p12

      beyond : (i : ℕ) → i < count → beyond_at i ≡ beyond_row rows (chunk_row_at chunks i)
      beyond = beyond-is (λ j h. f12.before j (omega arith))

      one-beyond : r19 < count → refuses 19 (chunk_row_at chunks r19).place ≡ barriers_by_rows rows
      one-beyond h = sym (past-12 ∙ one-fails (λ (r : ChunkRow). r.place) (λ before r. beyond_row rows r) (chunk_row_at chunks) 19 (gives tt) (same_first beyond f19) h)

      none_beyond : count ≤ r19 → gives tt ≡ barriers_by_rows rows
      none_beyond h = sym (past-12 ∙ all_pass (λ (r : ChunkRow). r.place) (λ before r. beyond_row rows r) (chunk_row_at chunks) 19 (gives tt) (same_first beyond f19) h)

  -- the first chunk that fails 12 or 19
  module _ {r : ℕ} (f : FirstFailing (uneven_at chunks order leads) count r) where
    first-unlike : (r < count → (chunk_row_at chunks r).complete ≡ true) → FirstFailing (unlike_at chunks order leads) count r
    first-unlike c =
        record {
          within = f.within;
          before = λ i h. even-alike (chunk_row_at chunks i) (lead_of (chunk_row_at chunks i).team) (f.before i h);
          here = λ h. uneven-unlike (chunk_row_at chunks r) (lead_of (chunk_row_at chunks r).team) (c h) (f.here h);
        }

    first-beyond : (r < count → (chunk_row_at chunks r).complete ≡ false) → FirstFailing beyond_at count r
    first-beyond c =
        record {
          within = f.within;
          before = λ i h. even-within (chunk_row_at chunks i) (lead_of (chunk_row_at chunks i).team) (f.before i h);
          here = λ h. uneven-beyond (chunk_row_at chunks r) (lead_of (chunk_row_at chunks r).team) (c h) (f.here h);
        }

    pub none-uneven : count ≤ r → gives tt ≡ barriers_by_rows rows
    none-uneven h = none_beyond (first-unlike (λ l. absurd (omega arith))) h (first-beyond (λ l. absurd (omega arith))) h

    pub complete-uneven : {row : ChunkRow} → r < count → row ≡ chunk_row_at chunks r → row.complete ≡ true → refuses 12 (chunk_row_at chunks r).place ≡ barriers_by_rows rows
    complete-uneven h e c = one-unlike (first-unlike (λ l. ap (λ (x : ChunkRow). x.complete) (sym e) ∙ c)) h

    pub cut-uneven :
        {row : ChunkRow} {r12 : ℕ}
        → r < count
        → row ≡ chunk_row_at chunks r
        → row.complete ≡ false
        → FirstFailing (unlike_at chunks order leads) count r12
        → count ≤ r12
        → refuses 19 (chunk_row_at chunks r).place ≡ barriers_by_rows rows
    cut-uneven h e c f12 p = one-beyond f12 p (first-beyond (λ l. ap (λ (x : ChunkRow). x.complete) (sym e) ∙ c)) h

  abbrev from11 : Answer (Unit {0})
  from11 = refused_at 11 (failing (λ (f : Fork). f.place) (λ before f. ltb 4 (depth_of regions f.team)) [] regions) (barriers_by_rows rows)

  abbrev from10 : Answer (Unit {0})
  from10 = refused_at 10 (failing (λ (f : Fork). f.place) (λ before f. lacks_row rows f.team f.size) [] regions) from11

  pub root-missing : {b : Bool} {slot : ℕ} → slot ≡ first_with_key order 0 → b ≡ met_at masks slot 0 → b ≡ false → refuses 10 0 ≡ settled_by_rows rows regions
  unfolding settled_by_rows refused_at
  root-missing s e h = sym (rw (root_is s e, h))

  module _ {b : Bool} {slot : ℕ} (s : slot ≡ first_with_key order 0) (e : b ≡ met_at masks slot 0) (there : b ≡ true)
      {r10 : ℕ} (f10 : FirstFailing (lacks_at forks masks) n r10) where
    past-root : settled_by_rows rows regions ≡ from10
    unfolding settled_by_rows refused_at
    past-root = rw (root_is s e, there)

    pub chunk-missing : r10 < n → refuses 10 (fork_row_at forks r10).place ≡ settled_by_rows rows regions
    chunk-missing h =
        sym (past-root ∙ one-fails (λ (f : Fork). f.place) (λ before f. lacks_row rows f.team f.size) (fork_row_at forks) 10 from11 (same_first lacks-is f10) h)

    module _ (p10 : n ≤ r10) {r11 : ℕ} (f11 : FirstFailing (deep_at forks order) n r11) where
      past-10 : settled_by_rows rows regions ≡ from11
      past-10 = past-root ∙ all_pass (λ (f : Fork). f.place) (λ before f. lacks_row rows f.team f.size) (fork_row_at forks) 10 from11 (same_first lacks-is f10) p10

      pub one-deep : r11 < n → refuses 11 (fork_row_at forks r11).place ≡ settled_by_rows rows regions
      one-deep h =
          sym (past-10 ∙ one-fails (λ (f : Fork). f.place) (λ before f. ltb 4 (depth_of regions f.team)) (fork_row_at forks) 11 (barriers_by_rows rows) (same_first deep_is f11) h)

      pub none_deep : n ≤ r11 → barriers_by_rows rows ≡ settled_by_rows rows regions
      none_deep h =
          sym (past-10 ∙ all_pass (λ (f : Fork). f.place) (λ before f. ltb 4 (depth_of regions f.team)) (fork_row_at forks) 11 (barriers_by_rows rows) (same_first deep_is f11) h)

-- 8 and 9
module _ (chunks forks order : List ℕ) (count n : ℕ) (by : ByTeam order (table (fork_row_at forks) n))
    {r8 : ℕ} (f8 : FirstFailing (forked_by forks order) n r8) where
  forked-is : (i : ℕ) → i < n → forked_by forks order i ≡ fails_at forked_before (fork_row_at forks) i
  forked-is i h = rw (by.slot (fork_row_at forks i).team) (forked-index (fork_row_at forks) n i h)

  first8 : FirstFailing (fails_at forked_before (fork_row_at forks)) n r8
  first8 = same_first forked-is f8

  abbrev from9 : Answer (Unit {0})
  from9 =
      refused_at 9 (failing (λ (r : ChunkRow). r.place) (stray_row (table (fork_row_at forks) n)) [] (table (chunk_row_at chunks) count))
      (settled_by_rows (table (chunk_row_at chunks) count) (table (fork_row_at forks) n))

  pub forked-twice : r8 < n → refuses 8 (fork_row_at forks r8).place ≡ shape_by_rows (table (chunk_row_at chunks) count) (table (fork_row_at forks) n)
  unfolding shape_by_rows
  forked-twice h = sym (one-fails (λ (f : Fork). f.place) forked_before (fork_row_at forks) 8 from9 first8 h)

  module _ (p8 : n ≤ r8) {r9 : ℕ} {masks leads : List ℕ}
      (f9 : FirstFailing (fails_at (stray_row (table (fork_row_at forks) n)) (chunk_row_at chunks)) count r9)
      (met : Met (table (fork_row_at forks) n) (table (chunk_row_at chunks) r9) masks leads) where
    past-8 : shape_by_rows (table (chunk_row_at chunks) count) (table (fork_row_at forks) n) ≡ from9
    unfolding shape_by_rows
    past-8 = all_pass (λ (f : Fork). f.place) forked_before (fork_row_at forks) 8 from9 first8 p8

    pub one-stray : r9 < count → refuses 9 (chunk_row_at chunks r9).place ≡ shape_by_rows (table (chunk_row_at chunks) count) (table (fork_row_at forks) n)
    one-stray h =
        sym (past-8 ∙ one-fails (λ (r : ChunkRow). r.place) (stray_row (table (fork_row_at forks) n)) (chunk_row_at chunks) 9 (settled_by_rows (table (chunk_row_at chunks) count) (table (fork_row_at forks) n)) f9 h)

    pub none-stray : count ≤ r9 → Settled chunks forks order masks leads count n
    none-stray h =
        let e : r9 ≡ count = omega (arith, f9.within) in
        record {
          by_team = by;
          once_forked = λ i l. first8.before i (omega arith);
          no_stray = λ i l. f9.before i (omega arith);
          met = rw e at met;
        }

    pub past-9 : count ≤ r9 → settled_by_rows (table (chunk_row_at chunks) count) (table (fork_row_at forks) n) ≡ shape_by_rows (table (chunk_row_at chunks) count) (table (fork_row_at forks) n)
    past-9 h =
        sym (past-8 ∙ all_pass (λ (r : ChunkRow). r.place) (stray_row (table (fork_row_at forks) n)) (chunk_row_at chunks) 9 (settled_by_rows (table (chunk_row_at chunks) count) (table (fork_row_at forks) n)) f9 h)
