-- The test for an edge on the numbers in the tables is that of the graph.
use Prim.Native.Nat.{ℕ, ◌+◌, ◌*◌, ◌/◌, ◌%◌, ◌≤◌, ◌<◌}
use mathlib.Core.Path.{◌≡◌, refl, sym, ◌∙◌, ap, subst}
use mathlib.Core.Logic.{◌⊎◌, inl, inr, ⊎_elim}
use mathlib.Core.Bool.{Bool, true, ◌&&◌}
use mathlib.Core.List.{List, Memᴰ}
use native.Mathlib.Omega.{arith}
use lib.Arith.{digits_div, digits_mod}
use lib.Dec.{eqb, leb}
use lib.ListN.{length}
use borrow.Author.Tests.{eqb-true, eq-eqb, leb-true, le-leb}
use Rattle.bundle.proofs.Tests.{both, and_left, and_right, or_cases, or-one, or-other, same_test}
use Rattle.bundle.specs.Walk.{Border, of_chunk, of_barrier, of_region, Segment}
use Rattle.verdict.specs.Graph.{Joined, next, fork, join, barrier, missing}
use Rattle.verdict.specs.GraphTests.{joins}
use Rattle.verdict.specs.Matrix.{EdgeBits, Closed}
use Rattle.verdict.specs.Working.{fork_code, barrier_code, join_code, end_code, open_code, node_code, SegmentTables}
use Rattle.verdict.specs.Edges.{first_event, last_event, edge_test, table_edge, Filled, Regular, Reached}
use Rattle.verdict.proofs.ListPlaces.{at_mem, at_below}
use Rattle.verdict.proofs.MatrixPaths.{closed-reaches}
use Rattle.verdict.proofs.Reachability.{joins_true, joined-joins}

-- two numbers that are equal have equal digits
digits_same : (m t n u i : ℕ) → n < m → i < m → t * m + n ≡ u * m + i → (t ≡ u) × (n ≡ i)
digits_same m t n u i h l e = (
  sym (digits_div t h) ∙ ap (λ (x : ℕ). x / m) e ∙ digits_div u l,
  sym (digits_mod t h) ∙ ap (λ (x : ℕ). x % m) e ∙ digits_mod u l,
)

-- the events to which a segment leads: the one that ends it, or those of its team from one on
exactly : (e : ℕ) → (first_event (2 * e) ≡ e) × (last_event (2 * e) ≡ e)
unfolding last_event
exactly e =
    let half : 2 * e / 2 ≡ e = omega arith in
    let even : 2 * e % 2 ≡ 0 = omega arith in
    (half, rw (even, half))

from-barrier : (n t : ℕ) → (first_event (1 + 2 * barrier_code n t) ≡ barrier_code n t) × (last_event (1 + 2 * barrier_code n t) ≡ join_code t)
unfolding last_event
from-barrier n t =
    let odd : (1 + 2 * barrier_code n t) % 2 ≡ 1 = omega arith in
    let team : (1 + 2 * barrier_code n t) / 2048 * 1024 + 1023 ≡ join_code t = omega arith in
    (omega arith, rw odd team)

-- the numbers of a segment, and the test on those of two
abbrev end_of : Segment → ℕ
end_of s = end_code s.node.team s.state.barriers s.ended

abbrev open_of : Segment → ℕ
open_of s = open_code s.node.team s.opened

abbrev place_of : Segment → ℕ
place_of s = node_code s.node

-- an event is one to which the number of an end leads
record Led (end opened : ℕ) : Type 0 where
  low : first_event end ≤ opened
  high : opened ≤ last_event end

abbrev led_test : ℕ → ℕ → Bool
led_test end opened = leb (first_event end) opened && leb opened (last_event end)

abbrev codes_join : Segment → Segment → Bool
codes_join a b = edge_test (first_event (end_of a)) (last_event (end_of a)) (place_of a + 1) (open_of b) (place_of b)

test-led : (end opened : ℕ) → led_test end opened ≡ true → Led end opened
test-led end opened e =
    let low = leb (first_event end) opened in
    let high = leb opened (last_event end) in
    record { low = leb-true _ _ (and_left low high e); high = leb-true _ _ (and_right low high e) }

led-exactly : {e opened : ℕ} → Led (2 * e) opened → e ≡ opened
led-exactly {e} l = omega (arith, (exactly e).0, (exactly e).1, l.low, l.high)

led-from : (n t : ℕ) {opened : ℕ} → Led (1 + 2 * barrier_code n t) opened → (barrier_code n t ≤ opened) × (opened ≤ join_code t)
led-from n t l = (omega (arith, (from-barrier n t).0, l.low), omega (arith, (from-barrier n t).1, l.high))

exactly-led : (e : ℕ) → Led (2 * e) e
exactly-led e = record { low = omega (arith, (exactly e).0); high = omega (arith, (exactly e).1) }

from-led : (n t : ℕ) {opened : ℕ} → barrier_code n t ≤ opened → opened ≤ join_code t → Led (1 + 2 * barrier_code n t) opened
from-led n t l h = record { low = omega (arith, (from-barrier n t).0); high = omega (arith, (from-barrier n t).1) }

-- two segments of a list
module _ {ss : List Segment} (g : Regular ss) (a b : Segment) (a_in : Memᴰ a ss) (b-in : Memᴰ b ss) where
  -- the one leads to the event that opens the other
  event-joined : Led (end_of a) (open_of b) → Joined a b
  unfolding end_code open_code
  event-joined led = go a.ended b.opened refl refl led
    where
      go :
          (o p : Border)
          → a.ended ≡ o
          → b.opened ≡ p
          → Led (end_code a.node.team a.state.barriers o) (open_code b.node.team p)
          → Joined a b
      go of_chunk of_chunk q r e =
          let z = led-from a.state.barriers a.node.team e in
          absurd (omega (arith, z.0, z.1))
      go of_chunk (of_barrier i) q r e =
          let z = led-from a.state.barriers a.node.team e in
          let h = g.opened_barrier b i b-in r in
          let k = g.barriers a a_in in
          missing i (omega (arith, z.0, z.1)) q (omega (arith, z.0, z.1)) r
      go of_chunk (of_region t) q r e =
          let z = led-from a.state.barriers a.node.team e in
          let team : t ≡ a.node.team = omega (arith, z.0, z.1) in
          join q (r ∙ ap of_region team)
      go (of_barrier n) of_chunk q r e = absurd (omega (arith, led-exactly e))
      go (of_barrier n) (of_barrier i) q r e =
          let l = g.ended_barrier a n a_in q in
          let h = g.opened_barrier b i b-in r in
          let team : a.node.team ≡ b.node.team = omega (arith, led-exactly e) in
          let same : i ≡ n = omega (arith, led-exactly e) in
          barrier n team q (r ∙ ap of_barrier same)
      go (of_barrier n) (of_region t) q r e = absurd (omega (arith, led-exactly e))
      go (of_region u) of_chunk q r e =
          let team : u ≡ b.node.team = omega (arith, led-exactly e) in
          fork (q ∙ ap of_region team) (g.first_opened b b-in r)
      go (of_region u) (of_barrier n) q r e = absurd (omega (arith, led-exactly e))
      go (of_region u) (of_region t) q r e = absurd (omega (arith, led-exactly e))

  -- the other's number is that after the one's
  node-joined : place_of a + 1 ≡ place_of b → Joined a b
  unfolding node_code
  node-joined e =
      let l = g.number a a_in in
      let h = g.number b b-in in
      let k = g.member a a_in in
      let m = g.member b b-in in
      let low =
      digits_same 1024
      (a.node.team * 64 + a.node.member)
      (a.node.number + 1)
      (b.node.team * 64 + b.node.member)
      b.node.number
      (omega arith)
      (omega arith)
      (omega arith)
      in
      let up =
      digits_same 64 a.node.team a.node.member b.node.team b.node.member k m low.0
      in
      next up.0 up.1 (omega arith)

  joined-led : Joined a b → (place_of a + 1 ≡ place_of b) ⊎ Led (end_of a) (open_of b)
  unfolding end_code open_code node_code
  joined-led (next t m n) = inl (omega (arith, g.number a a_in, g.number b b-in))
  joined-led (fork e n) = inr (rw (e, g.opened_first b b-in n) (exactly-led (fork_code b.node.team)))
  joined-led (join e o) = inr (rw (e, o) (from-led a.state.barriers a.node.team (omega arith) (omega arith)))
  joined-led (barrier n t e o) = inr (rw (e, o, t) (exactly-led (barrier_code n b.node.team)))
  joined-led (missing n t e l o) =
      let h = g.opened_barrier b n b-in o in
      inr (rw (e, o, t) (from-led a.state.barriers a.node.team (omega arith) (omega arith)))

  -- the test on the numbers is the graph's
  pub codes-join : codes_join a b ≡ joins a b
  codes-join =
      let led = led_test (end_of a) (open_of b) in
      let follows = eqb (place_of a + 1) (place_of b) in
      same_test (codes_join a b) (joins a b)
      (λ e.
      joined-joins a b
      (⊎_elim
      (λ t. event-joined (test-led (end_of a) (open_of b) t))
      (λ t. node-joined (eqb-true _ _ t))
      (or_cases led follows e)))
      (λ e.
      ⊎_elim
      (λ q. or-other led (eq-eqb (place_of a + 1) (place_of b) q))
      (λ l. or-one follows (both (le-leb _ _ l.low) (le-leb _ _ l.high)))
      (joined-led (joins_true a b e)))

module _ {ss : List Segment} {ends opens nodes : List ℕ} (t : SegmentTables ss ends opens nodes) (g : Regular ss) where
  -- the tests between the places of the tables are the edges between their segments
  pub filled-edges : {before m : List ℕ} → Filled (table_edge ends opens nodes) (length ss) before m → EdgeBits ss m
  filled-edges f =
      record {
        bits = λ i j {a} {b} p q.
            f.bits i j (at_below ss i p) (at_below ss j q)
            ∙ rw (t.end_codes i p, t.node_codes i p, t.open_codes j q, t.node_codes j q)
            (codes-join g a b (at_mem ss i p) (at_mem ss j q));
      }

-- edges filled in and closed
pub tables-reach :
    {ends opens nodes : List ℕ} {n : ℕ} {before m after : List ℕ}
    → Filled (table_edge ends opens nodes) n before m
    → Closed n m after
    → Reached ends opens nodes n before after
tables-reach {ends} {opens} {nodes} {n} {before} {m} {after} f c =
    record {
      len = c.len ∙ f.len;
      paths = λ ss count t g.
          closed-reaches ss g.distinct
          (filled-edges t g (subst (λ (k : ℕ). Filled (table_edge ends opens nodes) k before m) (sym count) f))
          (subst (λ (k : ℕ). Closed k m after) (sym count) c);
    }
