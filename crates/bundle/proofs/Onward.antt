-- The commands of an accepted bundle, read one after another; and its REGIONs, whose team numbers fall towards the root.
use Prim.Native.Nat.{ℕ, zero, suc, ◌+◌, ◌≤◌, ◌<◌}
use mathlib.Core.Path.{◌≡◌, refl, sym, ◌∙◌, ap, subst}
use mathlib.Core.Logic.{◌⊎◌, inl, inr, ⊎_elim}
use mathlib.Core.Bool.{true, false}
use mathlib.Core.List.Memᴰ
use mathlib.Core.List.{List, [], ◌∷◌, map, Memᴰ}
use native.Mathlib.Omega.{arith}
use native.Mathlib.Nat.{add-zero}
use lib.ListN.{length}
use lib.Dec.{ltb, leb}
use borrow.Author.Tests.{leb-true, leb-false, ltb-true, ltb-false}
use Rattle.bundle.specs.Answer.{Answer, gives, refuses}
use Rattle.bundle.specs.Lists.{concat_map}
use Rattle.bundle.specs.Commands.{Taken, in_range, decode_at, read_at}
use Rattle.bundle.specs.Cases.{on_region}
use Rattle.bundle.specs.Chunks.{Placed, Front, Chunk, fresh, after_command, follow, front_from, front_of, chunks_of, commands_of}
use Rattle.bundle.specs.Walk.{opens_segment, adds_access, Entry, entries_from, entries_of, fork_at, forks_in, forks_of}
use Rattle.bundle.specs.Scan.{above_own_team, start, scanned}
use Rattle.bundle.specs.Check.{Accepted}
use Rattle.bundle.specs.declared.index.Fork.{Fork}
use Rattle.bundle.specs.declared.chunk.ChunkState.{ChunkState}
use Rattle.bundle.specs.declared.scan.Scan.{Scan}
use Rattle.bundle.specs.declared.command.Command.{Command}
use Rattle.bundle.specs.declared.command.Command.TheVariants as Com
use Rattle.bundle.proofs.Tests.{decide}
use Rattle.bundle.proofs.Delimiters.{on-plain, on-other, Forking, forks_team, forks_none, forkings}
use Rattle.bundle.proofs.ListLaws.{all-elim, concat_map-elim}
use Rattle.bundle.proofs.Decoding.{decode-reads, read_next}
use Rattle.bundle.proofs.Printing.{front-stops, front_goes}
use Rattle.bundle.proofs.Scanning.{uncounted, orderly, orderly-head, orderly-tail, Passed}
use Rattle.bundle.proofs.Gathering.{plain, Body, ends, goes, Formed, placed_of, log_of, all-in-chunks}
use Rattle.bundle.proofs.ScanChunks.{scan-chunks, commands-of-chunks}
use Rattle.bundle.proofs.Shaped.{Shaped, shaped-elim}
use Rattle.bundle.proofs.Reorder.{Checked, checked, orderly-range, scan-passed}

-- the commands that are read from a position on, up to the end
pub data Onward (s : List ℕ) : ℕ → List Placed → Type 0 where
  at_end : {at : ℕ} → length s ≤ at → Onward s at []
  goes_on : {at : ℕ} {t : Taken} {ps : List Placed} → read_at s at ≡ gives t → Onward s t.next ps → Onward s at (record { at = at; command = t.command } ∷ ps)

-- the commands from a position on, where the first was read
pub record Next (s : List ℕ) (at : ℕ) (t : Taken) (ps : List Placed) : Type 0 where
  pub rest : List Placed
  pub parts : ps ≡ record { at = at; command = t.command } ∷ rest
  pub onwards : Onward s t.next rest

pub onward-next : (s : List ℕ) (at : ℕ) (t : Taken) {ps : List Placed} → Onward s at ps → read_at s at ≡ gives t → Next s at t ps
onward-next s at t (at_end l) e = let n = read_next s at t e in absurd (omega arith)
onward-next s at t (goes_on {t = u} {ps = ps} q o) e =
    let same : u ≡ t = cc in
    record { rest = ps; parts = rw same; onwards = rw same at o }

pub onward-read : (s : List ℕ) (at n p : ℕ) {ps : List Placed} → Onward s at ps → at < length s → read_at s at ≡ refuses n p → ⊥
onward-read s at n p (at_end l) h e = omega arith
onward-read s at n p (goes_on q o) h e = let z : ◌≡◌ {A = ℕ} 0 1 = cc in omega arith

pub onward-end : (s : List ℕ) (at : ℕ) {ps : List Placed} → Onward s at ps → length s ≤ at → ps ≡ []
onward-end s at (at_end l) h = refl
onward-end s at (goes_on {t = t} q o) h = let n = read_next s at t q in absurd (omega arith)

-- a bundle that is decoded to its end, with its commands in range, is read so
abbrev Reads : ℕ → List ℕ → ℕ → Front → Type 0
Reads past s at front =
    front.stop ≡ gives past
    → ((c : Command) → Memᴰ c (map (λ (p : Placed). p.command) front.placed) → in_range c ≡ true)
    → Onward s at front.placed

reads-follow :
    (s : List ℕ) (at past : ℕ) (rest : ℕ → Front)
    → ((next : ℕ) → at < next → next ≤ length s → Reads past s next (rest next))
    → (d : Answer Taken)
    → decode_at s at ≡ d
    → Reads past s at (follow rest at d)
unfolding follow
reads-follow s at past rest ih (gives t) q e h =
    let reads = decode-reads s at t q (h t.command (Memᴰ.head refl)) in
    let n = read_next s at t reads in
    goes_on reads (ih t.next n.0 n.1 e (λ c m. h c (Memᴰ.tail m)))
reads-follow s at past rest ih (refuses n p) q e h = let z : ◌≡◌ {A = ℕ} 0 1 = cc in absurd (omega arith)

reads-from : (fuel : ℕ) (s : List ℕ) (at past : ℕ) → length s ≤ at + fuel → Reads past s at (front_from fuel s at)
reads-from zero s at past f =
    subst (Reads past s at) (sym (front-stops zero s at (omega arith))) (λ e h. at_end (rw add-zero at f))
reads-from (suc fuel) s at past f =
    go (decide (leb (length s) at)) (λ next h l. reads-from fuel s next past (omega arith))
  where
    go :
        (leb (length s) at ≡ true) ⊎ (leb (length s) at ≡ false)
        → ((next : ℕ) → at < next → next ≤ length s → Reads past s next (front_from fuel s next))
        → Reads past s at (front_from (suc fuel) s at)
    go (inl t) ih =
        subst (Reads past s at) (sym (front-stops (suc fuel) s at (leb-true (length s) at t)))
        (λ e h. at_end (leb-true (length s) at t))
    go (inr t) ih =
        subst (Reads past s at) (sym (front_goes fuel s at (leb-false (length s) at t)))
        (reads-follow s at past (front_from fuel s) ih (decode_at s at) refl)

-- what is known of an accepted bundle that is read front to back
pub record Legible (s : List ℕ) : Type 0 where
  pub short : length s ≤ 65536
  pub onwards : Onward s 0 (front_of s).placed
  pub parts : (front_of s).placed ≡ concat_map placed_of (chunks_of s)
  pub formed : (c : Chunk) → Memᴰ c (chunks_of s) → Formed c
  pub order : orderly start (concat_map log_of (chunks_of s)) ≡ true
  pub shaped : Shaped (chunks_of s)

pub legible : (s : List ℕ) → Accepted s → Legible s
legible s a = go (scan-passed s k.scan k.scan_ok)
  where
    k : Checked s
    k = checked s a

    ps : List Placed
    ps = (front_of s).placed

    go : Passed ps (front_of s).stop start → Legible s
    go p = made (unfold chunks_of in (all-in-chunks ps p.order).parts) (unfold chunks_of in (all-in-chunks ps p.order).formed)
      where
        made : ps ≡ concat_map placed_of (chunks_of s) → ((c : Chunk) → Memᴰ c (chunks_of s) → Formed c) → Legible s
        made parts formed =
            record {
              short = ltb-false 65536 (length s) k.short;
              onwards = unfold front_of in (reads-from (length s) s 0 p.past (omega arith) p.ended (orderly-range start (map (λ (q : Placed). q.command) ps) p.order));
              parts = parts;
              formed = formed;
              order = rw (ap (map (λ (q : Placed). q.command)) parts ∙ commands-of-chunks (chunks_of s)) at p.order;
              shaped = shaped-elim (chunks_of s) k.shape;
            }

-- "A REGION's team number is greater than that of the chunk it stands in"
scanned-plain : (k : Scan) (c : Command) → plain c ≡ true → (uncounted (scanned k c)).team ≡ k.team
unfolding uncounted scanned
scanned-plain k c e = on-plain k.team (λ t m. t) 0 c e

body-above :
    (z : Scan) {ps : List Placed}
    → Body ps
    → orderly z (map (λ (p : Placed). p.command) ps) ≡ true
    → (p : Placed)
    → Memᴰ p ps
    → above_own_team z.team p.command ≡ true
body-above z (ends {p = q} e) o p m =
    ⊎_elim
    (λ (h : p ≡ q). rw h (orderly-head z q.command [] o).above_own)
    (λ l. absurd (Memᴰ.not-nil l))
    (Memᴰ.cases_cons m)
body-above z (goes {p = q} {ps = ps} e b) o p m =
    let c = q.command in
    let cs = map (λ (r : Placed). r.command) ps in
    ⊎_elim
    (λ (h : p ≡ q). rw h (orderly-head z c cs o).above_own)
    (λ l. rw (scanned-plain z c e) at (body-above (uncounted (scanned z c)) b (orderly-tail z c cs o) p l))
    (Memᴰ.cases_cons m)

pub record Stands (ps : List Placed) (e : Entry) : Type 0 where
  pub placed : Placed
  pub present : Memᴰ placed ps
  pub command : placed.command ≡ e.command

pub entry-stands : (k : ChunkState) (g n : ℕ) (ps : List Placed) (e : Entry) → Memᴰ e (entries_from k g n ps) → Stands ps e
unfolding entries_from
entry-stands k g n [] e m = absurd (Memᴰ.not-nil m)
entry-stands k g n (p ∷ ps) e m =
    ⊎_elim
    (λ (q : e ≡ record { at = p.at; command = p.command; state = k; segment = g; accesses = n }).
    record { placed = p; present = Memᴰ.head refl; command = ap (λ (x : Entry). x.command) (sym q) })
    (λ l.
    let s = entry-stands (after_command k p.command) (g + opens_segment p.command) (n + adds_access p.command) ps e l in
    record { placed = s.placed; present = Memᴰ.tail s.present; command = s.command })
    (Memᴰ.cases_cons m)

fork-above : (t m : ℕ) (e : Entry) (f : Fork) → above_own_team t e.command ≡ true → Memᴰ f (fork_at t m e) → f.parent < f.team
unfolding fork_at above_own_team
fork-above t m e f h l = go e.command (forkings e.command) h l
  where
    made : ℕ → ℕ → List Fork
    made u z = record { place = e.at; team = u; size = z; parent = t; member = m; state = e.state } ∷ []

    go : (c : Command) → Forking c → on_region true (λ u z. ltb t u) c ≡ true → Memᴰ f (on_region [] made c) → f.parent < f.team
    go c (forks_team u z) q k =
        let above = ltb-true t u q in
        ⊎_elim
        (λ (r : f ≡ record { place = e.at; team = u; size = z; parent = t; member = m; state = e.state }). rw r above)
        (λ n. absurd (Memᴰ.not-nil n))
        (Memᴰ.cases_cons k)
    go c (forks_none x) q k = absurd (Memᴰ.not-nil (rw (on-other [] made c x) at k))

chunk-above : (c : Chunk) (f : Fork) → Formed c → orderly start (log_of c) ≡ true → Memᴰ f (forks_in c) → f.parent < f.team
unfolding log_of forks_in commands_of entries_of
chunk-above c f d o l =
    let m = Com.Member c.team c.member in
    let k = uncounted (scanned start m) in
    let own : k.team ≡ c.team = unfold uncounted scanned in refl in
    let from = concat_map-elim (fork_at c.team c.member) (entries_from fresh 0 0 c.body) l in
    let p = entry-stands fresh 0 0 c.body from.source from.present in
    let above = body-above k d.body_ok (orderly-tail start m (map (λ (q : Placed). q.command) c.body) o) p.placed p.present in
    fork-above c.team c.member from.source f (rw (own, p.command) at above) from.gives

pub team-falls : (s : List ℕ) → Accepted s → (f : Fork) → Memᴰ f (forks_of (chunks_of s)) → f.parent < f.team
unfolding forks_of
team-falls s a f l =
    let k = legible s a in
    let from = concat_map-elim forks_in (chunks_of s) l in
    let each = sym (scan-chunks (chunks_of s) k.formed) ∙ k.order in
    chunk-above from.source f (k.formed from.source from.present) (all-elim (λ (c : Chunk). orderly start (log_of c)) each from.present) from.gives
