-- The pass over a bundle: what it adds, command by command, are the records of the chunks' intervals.
use Prim.Native.Nat.{ℕ, ◌+◌}
use mathlib.Core.Path.{◌≡◌, refl, sym, ◌∙◌, ap}
use mathlib.Core.Bool.{true}
use mathlib.Core.List.{List, [], ◌∷◌, ◌++◌, Memᴰ}
use lib.ListN.{length}
use Rattle.bundle.specs.Lists.{concat_map}
use Rattle.bundle.specs.Commands.{bytes_of}
use Rattle.bundle.specs.Chunks.{Placed, Chunk, fresh, after_barrier, after_join, after_acquire, after_release, after_command}
use Rattle.bundle.specs.Walk.{entries_from, entries_of}
use Rattle.bundle.specs.Check.{depth_from, depth_of}
use Rattle.bundle.specs.declared.chunk.ChunkState.{ChunkState}
use Rattle.bundle.specs.declared.command.Command.{Command}
use Rattle.bundle.specs.declared.command.Command.TheVariants as Com
use Rattle.bundle.specs.declared.index.Fork.{Fork}
use Rattle.bundle.proofs.Tests.{false-is-true}
use Rattle.bundle.proofs.Delimiters.{plain, closes}
use Rattle.bundle.proofs.Gathering.{Body, ends, goes, Formed, placed_of}
use Rattle.order.specs.Labels.{last_triple}
use Rattle.rows.specs.Rows.{Interval, past_of, ends_interval, intervals_from, intervals_in, row_of}
use Rattle.rows.specs.Slots.{Slot, row_made, slot_made}
use Rattle.rows.specs.Passing.{parent_of, team_row_of, entered, joined_on, moved_on, closed_at, course_after, span_here, slots_here, slot_of_interval, slots_from}
use Rattle.rows.specs.declared.pass.Course.{Course}

-- the offset after a command
abbrev pub placed_past : Placed → ℕ
placed_past p = p.at + length (bytes_of p.command)

-- what the pass adds over these commands
unfoldable pub slots_along : List Fork → Course → List Placed → List Slot
slots_along fs c [] = []
slots_along fs c (p ∷ ps) =
    slots_here c p.command (placed_past p) ++ slots_along fs (course_after fs c p.command (placed_past p)) ps

-- the pass stands in a member's chunk, in an interval that began at an offset in a state
record Stands (fs : List Fork) (t m : ℕ) (c : Course) (b : ℕ) (k₀ k : ChunkState) : Type 0 where
  team : c.team ≡ team_row_of fs t
  member : c.member ≡ m
  begin : c.begin ≡ b
  interval : c.interval ≡ k₀.barriers
  joined : c.joined ≡ k₀.regions
  regions : c.regions ≡ k.regions
  same : k.barriers ≡ k₀.barriers

module _ (fs : List Fork) (deep : (t : ℕ) → depth_from 5 fs t ≡ depth_of fs t) where
  module _ (t m : ℕ) where
    slot_is :
        (c : Course) (b : ℕ) (k₀ k : ChunkState) (next : ℕ)
        → Stands fs t m c b k₀ k
        → slot_made c.team (span_here c next) c.count
        ≡ slot_of_interval fs (record { team = t; member = m; state = k₀; begin = b; past = next }) c.count
    unfolding slot_made span_here slot_of_interval row_made row_of last_triple team_row_of parent_of
    slot_is c b k₀ k next s = rw (s.team, s.member, s.begin, s.interval, s.joined, deep t)

    module _ (rest : List Placed) (xs : List Interval) (tail : (c : Course) → slots_along fs c rest ≡ slots_from fs c.count xs) where
      abbrev Along : List Placed → Type 0
      Along ps =
          (c : Course) (b : ℕ) (k₀ k : ChunkState) (g n : ℕ)
          → Stands fs t m c b k₀ k
          → slots_along fs c (ps ++ rest) ≡ slots_from fs c.count (intervals_from t m b k₀ (entries_from k g n ps) ++ xs)

      -- an interval ends
      ending :
          (c c' : Course) (b : ℕ) (k₀ k : ChunkState) (next : ℕ) (ps : List Placed) (is : List Interval)
          → Stands fs t m c b k₀ k
          → c'.count ≡ c.count + 1
          → slots_along fs c' ps ≡ slots_from fs c'.count is
          → slot_made c.team (span_here c next) c.count ∷ slots_along fs c' ps
          ≡ slots_from fs c.count (record { team = t; member = m; state = k₀; begin = b; past = next } ∷ is)
      unfolding slots_from
      ending c c' b k₀ k next ps is s e h = rw (slot_is c b k₀ k next s, h, e)

      along-plain : (p : Placed) (ps : List Placed) → plain p.command ≡ true → Along ps → Along (p ∷ ps)
      unfolding slots_along entries_from intervals_from slots_here ends_interval course_after past_of plain after_command joined_on moved_on closed_at after_barrier after_join after_acquire after_release
      along-plain p ps e ih c b k₀ k g n s = go p.command e
        where
          next : Command → ℕ
          next d = p.at + length (bytes_of d)

          Goal : Command → Type 0
          Goal d =
              slots_along fs c (record { at = p.at; command = d } ∷ (ps ++ rest))
              ≡ slots_from fs c.count (intervals_from t m b k₀ (entries_from k g n (record { at = p.at; command = d } ∷ ps)) ++ xs)

          -- a command that changes no count of the chunk's state
          still : (d : Command) (k' : ChunkState) → k'.barriers ≡ k.barriers → k'.regions ≡ k.regions → Stands fs t m (moved_on c (next d)) b k₀ k'
          still d k' q r =
              record {
                team = s.team;
                member = s.member;
                begin = s.begin;
                interval = s.interval;
                joined = s.joined;
                regions = s.regions ∙ sym r;
                same = q ∙ s.same;
              }

          go : (d : Command) → plain d ≡ true → Goal d
          go (Com.Member u v) q = false-is-true q
          go Com.End q = false-is-true q
          go (Com.Region u z) q =
              ih (joined_on c (next (Com.Region u z))) b k₀ (after_join k) _ _
              (record {
                team = s.team;
                member = s.member;
                begin = s.begin;
                interval = s.interval;
                joined = s.joined;
                regions = ap (λ (r : ℕ). r + 1) s.regions;
                same = s.same;
              })
          go Com.Barrier q =
              ending c (closed_at c (next Com.Barrier)) b k₀ k (next Com.Barrier) (ps ++ rest) _ s refl
              (ih (closed_at c (next Com.Barrier)) (next Com.Barrier) (after_barrier k) (after_barrier k) _ _
              (record {
                team = s.team;
                member = s.member;
                begin = refl;
                interval = ap (λ (r : ℕ). r + 1) (s.interval ∙ sym s.same);
                joined = s.regions;
                regions = s.regions;
                same = refl;
              }))
          go (Com.Acquire l) q = ih (moved_on c (next (Com.Acquire l))) b k₀ (after_acquire l k) _ _ (still (Com.Acquire l) (after_acquire l k) refl refl)
          go (Com.Release l) q = ih (moved_on c (next (Com.Release l))) b k₀ (after_release l k) _ _ (still (Com.Release l) (after_release l k) refl refl)
          go (Com.Access a) q = ih (moved_on c (next (Com.Access a))) b k₀ k _ _ (still (Com.Access a) k refl refl)
          go Com.Cut q = false-is-true q

      along-closes : (p : Placed) → closes p.command ≡ true → Along (p ∷ [])
      unfolding slots_along entries_from intervals_from slots_here ends_interval course_after past_of closes closed_at
      along-closes p e c b k₀ k g n s = go p.command e
        where
          next : Command → ℕ
          next d = p.at + length (bytes_of d)

          Goal : Command → Type 0
          Goal d =
              slots_along fs c (record { at = p.at; command = d } ∷ rest)
              ≡ slots_from fs c.count (intervals_from t m b k₀ (entries_from k g n (record { at = p.at; command = d } ∷ [])) ++ xs)

          ended : (d : Command) → slot_made c.team (span_here c (next d)) c.count ∷ slots_along fs (closed_at c (next d)) rest
              ≡ slots_from fs c.count (record { team = t; member = m; state = k₀; begin = b; past = next d } ∷ xs)
          ended d = ending c (closed_at c (next d)) b k₀ k (next d) rest xs s refl (tail (closed_at c (next d)))

          go : (d : Command) → closes d ≡ true → Goal d
          go (Com.Member u v) q = false-is-true q
          go Com.End q = ended Com.End
          go (Com.Region u z) q = false-is-true q
          go Com.Barrier q = false-is-true q
          go (Com.Acquire l) q = false-is-true q
          go (Com.Release l) q = false-is-true q
          go (Com.Access a) q = false-is-true q
          go Com.Cut q = ended Com.Cut

      along : {ps : List Placed} → Body ps → Along ps
      along (ends {p = p} e) = along-closes p e
      along (goes {p = p} {ps = ps} e b) = along-plain p ps e (along b)

  -- the records of all chunks
  pub all_slots : (cs : List Chunk) → ((d : Chunk) → Memᴰ d cs → Formed d) → (c : Course) → slots_along fs c (concat_map placed_of cs) ≡ slots_from fs c.count (concat_map intervals_in cs)
  unfolding slots_along slots_from placed_of slots_here ends_interval course_after entered intervals_in entries_of fresh
  all_slots [] h c = refl
  all_slots (d ∷ ds) h c =
      let next = d.place + length (bytes_of (Com.Member d.team d.member)) in
      along d.team d.member (concat_map placed_of ds) (concat_map intervals_in ds)
      (all_slots ds (λ e m. h e (Memᴰ.tail m)))
      (h d (Memᴰ.head refl)).body_ok (entered c (team_row_of fs d.team) d.member next) next fresh fresh 0 0
      (record { team = refl; member = refl; begin = refl; interval = refl; joined = refl; regions = refl; same = refl })
