-- The pass over a bundle at a position: with what the rest of the commands adds, the words hold the records of all intervals.
use Prim.Native.Nat.{ℕ, suc, ◌+◌, ◌-◌, ◌≤◌, ◌<◌}
use mathlib.Core.Path.{◌≡◌, refl, sym, ◌∙◌, ap, subst}
use mathlib.Core.Bool.{true}
use mathlib.Core.List.{List, [], ◌∷◌, ◌++◌, append_assoc, append-nil}
use native.Mathlib.Omega.{arith}
use lib.ListN.{length, drop, length-append, length-drop}
use lib.Seq.{length-take-le}
use Rattle.bundle.specs.Answer.{gives, refuses}
use Rattle.bundle.specs.Commands.{Bytes, bytes_of, read_at}
use Rattle.bundle.specs.Chunks.{Placed, front_of, chunks_of}
use Rattle.bundle.specs.Walk.{forks_of}
use Rattle.bundle.specs.Index.{table}
use Rattle.bundle.specs.declared.command.Command.{Command}
use Rattle.bundle.specs.declared.command.Command.TheVariants as Com
use Rattle.bundle.specs.declared.index.Fork.{Fork}
use Rattle.bundle.proofs.Tables.{table_none, table-length}
use Rattle.bundle.proofs.Decoding.{read_next}
use Rattle.bundle.proofs.RoundTrip.{read-puts-back}
use Rattle.bundle.proofs.Onward.{Onward, Next, onward-next, legible}
use Rattle.rewrite.proofs.ReadOn.{fewer-bytes, onward-stops}
use Rattle.rows.specs.Rows.{Interval, ends_interval}
use Rattle.rows.specs.Slots.{Slot, slot_at}
use Rattle.rows.specs.Passing.{beginning, entered, joined_on, moved_on, closed_at, course_after, slots_here, Notable, Noted, Listable, slots_from, listed, Listed}
use Rattle.rows.specs.declared.pass.Course.{Course}
use Rattle.rows.proofs.Levels.{level-depth}
use Rattle.rows.proofs.IntervalPass.{slots_along, all_slots}
use Rattle.rows.proofs.IntervalCounts.{few-intervals}

slots_length : (fs : List Fork) (n : ℕ) (is : List Interval) → length (slots_from fs n is) ≡ length is
unfolding slots_from
slots_length fs n [] = refl
slots_length fs n (i ∷ is) = ap suc (slots_length fs (n + 1) is)

-- a command that was read ends where the next is read
next_past : (s : List ℕ) (at next : ℕ) (d : Command) → Bytes s → read_at s at ≡ gives (record { command = d; next = next }) → next ≡ at + length (bytes_of d)
next_past s at next d bytes e =
    let back = (read-puts-back s at (record { command = d; next = next }) bytes e).bytes in
    let more = read_next s at (record { command = d; next = next }) e in
    let behind = length-drop at s in
    let long = ap (λ (l : List ℕ). length l) back ∙ length-take-le (next - at) (drop at s) (omega (arith, more.1, behind)) in
    omega (arith, long, more.0)

-- the pass after a command
count-after : (fs : List Fork) (c : Course) (d : Command) (next : ℕ) → (course_after fs c d next).count ≡ c.count + length (slots_here c d next)
unfolding course_after slots_here ends_interval entered joined_on moved_on closed_at
count-after fs c (Com.Member t m) next = omega arith
count-after fs c Com.End next = omega arith
count-after fs c (Com.Region t z) next = omega arith
count-after fs c Com.Barrier next = omega arith
count-after fs c (Com.Acquire l) next = omega arith
count-after fs c (Com.Release l) next = omega arith
count-after fs c (Com.Access a) next = omega arith
count-after fs c Com.Cut next = omega arith

-- what is counted so far is at most the position
pub record Near (c : Course) (at : ℕ) : Type 0 where
  pub here : c.at ≡ at
  pub begin : c.begin ≤ at
  pub interval : c.interval ≤ at
  pub regions : c.regions ≤ at
  pub joined : c.joined ≤ at

near-after : (fs : List Fork) (c : Course) (d : Command) (at next : ℕ) → Near c at → at < next → Near (course_after fs c d next) next
unfolding course_after entered joined_on moved_on closed_at
near-after fs c d at next x h = go d
  where
    moved : Near (moved_on c next) next
    moved =
        record {
          here = refl;
          begin = omega (arith, x.begin);
          interval = omega (arith, x.interval);
          regions = omega (arith, x.regions);
          joined = omega (arith, x.joined);
        }

    closed : Near (closed_at c next) next
    closed =
        record {
          here = refl;
          begin = omega arith;
          interval = omega (arith, x.interval);
          regions = omega (arith, x.regions);
          joined = omega (arith, x.regions);
        }

    go : (d : Command) → Near (course_after fs c d next) next
    go (Com.Member t m) = record { here = refl; begin = omega arith; interval = omega arith; regions = omega arith; joined = omega arith }
    go Com.End = closed
    go (Com.Region t z) =
        record {
          here = refl;
          begin = omega (arith, x.begin);
          interval = omega (arith, x.interval);
          regions = omega (arith, x.regions);
          joined = omega (arith, x.joined);
        }
    go Com.Barrier = closed
    go (Com.Acquire l) = moved
    go (Com.Release l) = moved
    go (Com.Access a) = moved
    go Com.Cut = closed

pub record Running (s : List ℕ) (fs : List Fork) (c : Course) (words : List ℕ) : Type 0 where
  pub rest : List Placed
  pub onwards : Onward s c.at rest
  pub whole : table (slot_at words) c.count ++ slots_along fs c rest ≡ slots_from fs 0 (listed s)
  pub forks : fs ≡ forks_of (chunks_of s)
  pub few : length (listed s) ≤ 512
  pub long : length words ≡ 1536
  pub short : length s ≤ 65536
  pub within : c.at ≤ length s
  pub near : Near c c.at

pub running-start : (s : List ℕ) (fs : List Fork) (words : List ℕ) → Listable s fs words → Running s fs beginning words
unfolding beginning
running-start s fs words x =
    let l = legible s x.accepted in
    let deep = rw (← x.forks) at (level-depth s x.accepted) in
    record {
      rest = (front_of s).placed;
      onwards = l.onwards;
      whole =
          rw (table_none (slot_at words), l.parts) (all_slots fs deep (chunks_of s) l.formed beginning ∙ unfold listed in refl);
      forks = x.forks;
      few = few-intervals s x.accepted;
      long = x.long;
      short = l.short;
      within = omega arith;
      near = record { here = refl; begin = omega arith; interval = omega arith; regions = omega arith; joined = omega arith };
    }

module _ {s : List ℕ} {fs : List Fork} {c : Course} {words : List ℕ} (x : Running s fs c words) where
  -- in an accepted bundle nothing is refused but to read on at its end
  pub running-end : {n p : ℕ} → read_at s c.at ≡ refuses n p → Listed s c.count words
  unfolding slots_along
  running-end h =
      let none = onward-stops s c.at x.onwards h in
      let rows = sym (append-nil (table (slot_at words) c.count)) ∙ subst (λ (ps : List Placed). table (slot_at words) c.count ++ slots_along fs c ps ≡ slots_from fs 0 (listed s)) none x.whole in
      let count : c.count ≡ length (listed s) = sym (table-length (slot_at words) c.count) ∙ ap (λ (l : List Slot). length l) rows ∙ slots_length fs 0 (listed s) in
      record {
        long = x.long;
        few = omega (arith, x.few, count);
        count = count;
        rows = rw (← x.forks) rows;
      }

  module _ (bytes : Bytes s) {next : ℕ} {d : Command} (e : read_at s c.at ≡ gives (record { command = d; next = next })) where
    pub running-on : c.at < next
    running-on = (read_next s c.at (record { command = d; next = next }) e).0

    past : next ≡ c.at + length (bytes_of d)
    past = next_past s c.at next d bytes e

    -- the rest of the commands, with what this one adds taken off
    split : (ps : List Placed) → x.rest ≡ record { at = c.at; command = d } ∷ ps
        → table (slot_at words) c.count ++ (slots_here c d next ++ slots_along fs (course_after fs c d next) ps) ≡ slots_from fs 0 (listed s)
    unfolding slots_along
    split ps q =
        subst (λ (to : ℕ). table (slot_at words) c.count ++ (slots_here c d to ++ slots_along fs (course_after fs c d to) ps) ≡ slots_from fs 0 (listed s))
        (sym past)
        (subst (λ (qs : List Placed). table (slot_at words) c.count ++ slots_along fs c qs ≡ slots_from fs 0 (listed s)) q x.whole)

    taken : Next s c.at (record { command = d; next = next }) x.rest
    taken = onward-next s c.at (record { command = d; next = next }) x.onwards e

    -- one record more at least where an interval ends
    room : ends_interval d ≡ true → c.count < 512
    room q =
        let slots = slots_here c d next in
        let others = slots_along fs (course_after fs c d next) taken.rest in
        let one : length slots ≡ 1 = unfold slots_here in (rw q) in
        let all = ap (λ (l : List Slot). length l) (split taken.rest taken.parts) ∙ slots_length fs 0 (listed s) in
        let left = length-append (table (slot_at words) c.count) (slots ++ others) in
        let right = length-append slots others in
        let held = table-length (slot_at words) c.count in
        omega (arith, x.few, one, all, left, right, held)

    pub running-notable : Notable c d next words
    running-notable =
        let more = read_next s c.at (record { command = d; next = next }) e in
        record {
          long = x.long;
          regions = omega (arith, x.near.regions, x.short, more.0, more.1);
          closable =
              λ q.
              record {
                few = room q;
                interval = omega (arith, x.near.interval, x.short, more.0, more.1);
                regions = omega (arith, x.near.regions, x.short, more.0, more.1);
                joined = omega (arith, x.near.joined, x.short, more.0, more.1);
                begin = omega (arith, x.near.begin, x.short, more.0, more.1);
                ordered = omega (arith, x.near.begin, more.0);
                size = omega (arith, x.short, more.1);
              };
        }

    pub running-less : {after : Course} {words' : List ℕ} → Noted fs c d next after words words' → length s - after.at < length s - c.at
    running-less {after} n =
        let here : after.at ≡ next = ap (λ (a : Course). a.at) n.course ∙ (near-after fs c d c.at next x.near running-on).here in
        rw here (fewer-bytes s c.at e)

    pub running-turn : {after : Course} {words' : List ℕ} → Noted fs c d next after words words' → Running s fs after words'
    running-turn {after} {words'} n =
        let more = read_next s c.at (record { command = d; next = next }) e in
        subst (λ (a : Course). Running s fs a words') (sym n.course)
        (record {
          rest = taken.rest;
          onwards = subst (λ (at : ℕ). Onward s at taken.rest) (sym near.here) taken.onwards;
          whole =
              ap (λ (m : ℕ). table (slot_at words') m ++ behind) (count-after fs c d next)
              ∙ ap (λ (l : List Slot). l ++ behind) n.grown.rows
              ∙ append_assoc (table (slot_at words) c.count) (slots_here c d next) behind
              ∙ split taken.rest taken.parts;
          forks = x.forks;
          few = x.few;
          long = n.grown.long ∙ x.long;
          short = x.short;
          within = subst (λ (at : ℕ). at ≤ length s) (sym near.here) more.1;
          near = subst (Near (course_after fs c d next)) (sym near.here) near;
        })
      where
        near : Near (course_after fs c d next) next
        near = near-after fs c d c.at next x.near running-on

        behind : List Slot
        behind = slots_along fs (course_after fs c d next) taken.rest
