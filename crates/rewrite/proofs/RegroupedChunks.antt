-- Chunks with their accesses in another group: they pass the scan, have the same shape, and so make a bundle that is accepted.
use Prim.Native.Nat.{ℕ, ◌+◌, ◌≤◌, ◌<◌}
use mathlib.Core.Path.{◌≡◌, refl, ◌∙◌, ap, subst}
use mathlib.Core.Bool.{Bool, true, not}
use mathlib.Core.List.Memᴰ
use mathlib.Core.List.{List, [], ◌∷◌, map, Memᴰ}
use native.Mathlib.Omega.{arith}
use lib.ListN.{length}
use borrow.Author.Tests.{le-ltb}
use Rattle.bundle.specs.Lists.{any, concat_map}
use Rattle.bundle.specs.Commands.{in_range}
use Rattle.bundle.specs.Chunks.{Placed, Chunk, fresh, after_command, after_commands, gather, commands_of, is_end, complete}
use Rattle.bundle.specs.Walk.{opens_segment, adds_access, Entry, entries_from, entries_of, barriers_of, fork_at, forks_in}
use Rattle.bundle.specs.Scan.{start, scanned}
use Rattle.bundle.specs.declared.scan.Scan.{Scan}
use Rattle.bundle.specs.declared.chunk.ChunkState.{ChunkState}
use Rattle.bundle.specs.declared.command.Command.{Command}
use Rattle.bundle.specs.declared.command.Command.TheVariants as Com
use Rattle.bundle.proofs.Tests.{both, and_left, and_right}
use Rattle.bundle.proofs.ListLaws.{concat_map-along, concat_map-map}
use Rattle.bundle.proofs.Keys.{any-map}
use Rattle.bundle.proofs.Scanning.{total, passes, uncounted, orderly, tested}
use Rattle.bundle.proofs.Gathering.{Body, ends, goes, Formed, log_of}
use Rattle.bundle.proofs.Printing.{printed}
use Rattle.bundle.proofs.ShapeAlike.{Alike, shaped-alike}
use Rattle.bundle.proofs.Reorder.{Sound}
use Rattle.rewrite.specs.Converting.{regrouped}
use Rattle.rewrite.proofs.Regrouping.{regrouped-keeps, regrouped-closes, regrouped-plain, regrouped-misplaced, regrouped-above, regrouped-misuses, regrouped-opens, regrouped-adds, regrouped-after, regrouped-end, regrouped-scanned, all-of-group}

-- the scan
module _ (w : Bool) where
  regrouped-passes : (k : Scan) (c : Command) → in_range (regrouped w c) ≡ true → passes k c ≡ true → passes k (regrouped w c) ≡ true
  unfolding passes
  regrouped-passes k c r e =
      let t = tested k c (unfold passes in e) in
      both
      (both (ap not (regrouped-misplaced w k c) ∙ t.in_place) (both r (regrouped-above w k.team c ∙ t.above_own)))
      (ap not (regrouped-misuses w k.state.locks c) ∙ t.locks_ok)

  pub regrouped-orderly :
      (k : Scan) (cs : List Command)
      → ((c : Command) → Memᴰ c cs → in_range (regrouped w c) ≡ true)
      → orderly k cs ≡ true
      → orderly k (map (regrouped w) cs) ≡ true
  unfolding orderly
  regrouped-orderly k [] h o = o
  regrouped-orderly k (c ∷ cs) h o =
      both
      (regrouped-passes k c (h c (Memᴰ.head refl)) (and_left (passes k c) (orderly (uncounted (scanned k c)) cs) o))
      (rw (regrouped-scanned w k c)
      (regrouped-orderly (uncounted (scanned k c)) cs (λ d m. h d (Memᴰ.tail m)) (and_right (passes k c) (orderly (uncounted (scanned k c)) cs) o)))

total-map : (f : Command → ℕ) (g : Command → Command) → ((c : Command) → f (g c) ≡ f c) → (cs : List Command) → total f (map g cs) ≡ total f cs
unfolding total
total-map f g h [] = refl
total-map f g h (c ∷ cs) = rw (h c, total-map f g h cs)

none_before : (w : Bool) → 0 < start.accesses → start.wide ≡ w
unfolding start
none_before w h = absurd (omega arith)

-- chunks
module _ (w : Bool) where
  unfoldable pub regrouped_placed : Placed → Placed
  regrouped_placed p = record { at = p.at; command = regrouped w p.command }

  unfoldable pub regrouped_chunk : Chunk → Chunk
  regrouped_chunk c =
      record {
        place = c.place;
        team = c.team;
        member = c.member;
        body = map regrouped_placed c.body;
        past = (gather (map regrouped_placed c.body)).past;
      }

  bare-regrouped : (ps : List Placed) → map (λ (p : Placed). p.command) (map regrouped_placed ps) ≡ map (regrouped w) (map (λ (p : Placed). p.command) ps)
  unfolding regrouped_placed
  bare-regrouped [] = refl
  bare-regrouped (p ∷ ps) = ap (λ (cs : List Command). regrouped w p.command ∷ cs) (bare-regrouped ps)

  commands-regrouped : (c : Chunk) → commands_of (regrouped_chunk c) ≡ map (regrouped w) (commands_of c)
  unfolding commands_of regrouped_chunk
  commands-regrouped c = bare-regrouped c.body

  log-regrouped : (c : Chunk) → log_of (regrouped_chunk c) ≡ map (regrouped w) (log_of c)
  unfolding log_of regrouped_chunk
  log-regrouped c = unfold regrouped in (ap (λ (cs : List Command). Com.Member c.team c.member ∷ cs) (unfold regrouped_chunk in (commands-regrouped c)))

  pub logs-regrouped : (cs : List Chunk) → concat_map log_of (map regrouped_chunk cs) ≡ map (regrouped w) (concat_map log_of cs)
  logs-regrouped cs = concat_map-along log_of regrouped_chunk (regrouped w) log-regrouped cs

  body-regrouped : {ps : List Placed} → Body ps → Body (map regrouped_placed ps)
  unfolding regrouped_placed
  body-regrouped (ends {p = p} e) = ends (regrouped-closes w p.command ∙ e)
  body-regrouped (goes {p = p} e b) = goes (regrouped-plain w p.command ∙ e) (body-regrouped b)

  formed-regrouped : (c : Chunk) → Formed c → Formed (regrouped_chunk c)
  unfolding regrouped_chunk
  formed-regrouped c f = record { body_ok = body-regrouped f.body_ok; past_ok = refl }

  -- the walk over a chunk
  unfoldable pub regrouped_entry : Entry → Entry
  regrouped_entry e =
      record { at = e.at; command = regrouped w e.command; state = e.state; segment = e.segment; accesses = e.accesses }

  entries-from-regrouped : (k : ChunkState) (g n : ℕ) (ps : List Placed) → entries_from k g n (map regrouped_placed ps) ≡ map regrouped_entry (entries_from k g n ps)
  unfolding entries_from regrouped_placed regrouped_entry
  entries-from-regrouped k g n [] = refl
  entries-from-regrouped k g n (p ∷ ps) =
      let c = p.command in
      rw (regrouped-after w k c, regrouped-opens w c, regrouped-adds w c)
      (ap (λ (es : List Entry). record { at = p.at; command = regrouped w c; state = k; segment = g; accesses = n } ∷ es)
      (entries-from-regrouped (after_command k c) (g + opens_segment c) (n + adds_access c) ps))

  pub entries-regrouped : (c : Chunk) → entries_of (regrouped_chunk c) ≡ map regrouped_entry (entries_of c)
  unfolding entries_of regrouped_chunk
  entries-regrouped c = entries-from-regrouped fresh 0 0 c.body

  fork-regrouped : (t m : ℕ) (e : Entry) → fork_at t m (regrouped_entry e) ≡ fork_at t m e
  unfolding fork_at regrouped_entry
  fork-regrouped t m e =
      regrouped-keeps (λ (c : Command). fork_at t m (record { at = e.at; command = c; state = e.state; segment = e.segment; accesses = e.accesses })) w (λ a. refl) e.command

  forks-regrouped : (c : Chunk) → forks_in (regrouped_chunk c) ≡ forks_in c
  unfolding forks_in
  forks-regrouped c =
      rw (entries-regrouped c)
      (unfold regrouped_chunk in (concat_map-map (fork_at c.team c.member) regrouped_entry (fork-regrouped c.team c.member) (entries_of c)))

  after-regrouped : (k : ChunkState) (cs : List Command) → after_commands k (map (regrouped w) cs) ≡ after_commands k cs
  unfolding after_commands
  after-regrouped k [] = refl
  after-regrouped k (c ∷ cs) =
      ap (λ (l : ChunkState). after_commands l (map (regrouped w) cs)) (regrouped-after w k c) ∙ after-regrouped (after_command k c) cs

  barriers-regrouped : (c : Chunk) → barriers_of (regrouped_chunk c) ≡ barriers_of c
  unfolding barriers_of
  barriers-regrouped c =
      ap (λ (cs : List Command). (after_commands fresh cs).barriers) (commands-regrouped c)
      ∙ ap (λ (k : ChunkState). k.barriers) (after-regrouped fresh (commands_of c))

  complete-regrouped : (c : Chunk) → complete (regrouped_chunk c) ≡ complete c
  unfolding complete
  complete-regrouped c = ap (any is_end) (commands-regrouped c) ∙ any-map (regrouped w) is_end is_end (regrouped-end w) (commands_of c)

  pub alike-regrouped : Alike regrouped_chunk
  alike-regrouped =
      record {
        team = λ c. unfold regrouped_chunk in refl;
        member = λ c. unfold regrouped_chunk in refl;
        forks = forks-regrouped;
        barriers = barriers-regrouped;
        whole = complete-regrouped;
      }

  -- sound chunks are sound in another group that holds their sites, and in which they are not too long
  pub sound-regrouped :
      (cs : List Chunk)
      → Sound cs
      → ((c : Command) → Memᴰ c (concat_map log_of cs) → in_range (regrouped w c) ≡ true)
      → length (printed (map (regrouped w) (concat_map log_of cs))) ≤ 65536
      → Sound (map regrouped_chunk cs)
  sound-regrouped cs s h l =
      record {
        formed = λ d m. let x = Memᴰ.of_map regrouped_chunk cs m in subst Formed x.2 (formed-regrouped x.0 (s.formed x.0 x.1));
        order = rw (logs-regrouped cs) (regrouped-orderly w start (concat_map log_of cs) h s.order);
        room =
            rw (logs-regrouped cs)
            (record {
              segments = rw (total-map opens_segment (regrouped w) (regrouped-opens w) (concat_map log_of cs)) s.room.segments;
              accesses = rw (total-map adds_access (regrouped w) (regrouped-adds w) (concat_map log_of cs)) s.room.accesses;
              one_group = record { group = w; before = none_before w; each = all-of-group w (concat_map log_of cs) };
            });
        short = rw (logs-regrouped cs) (le-ltb 65536 (length (printed (map (regrouped w) (concat_map log_of cs)))) l);
        shaped = shaped-alike regrouped_chunk alike-regrouped cs s.shaped;
      }
