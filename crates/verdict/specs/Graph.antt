-- The graph: its nodes are the segments (of `Walk` in bundle); its edges are drawn without labels. The tests that compute the same stand
-- in `GraphTests`.
use Rattle.std.specs.Prelude.{ℕ, suc, ◌≤◌, ◌≡◌}
use mathlib.Core.List.{List, Memᴰ}
unfoldable pub use Rattle.bundle.specs.Walk.{segments_in, segments_of}
pub use Rattle.bundle.specs.Walk.{Node, Border, of_chunk, of_barrier, of_region, Segment}
-- for the layers above
unfoldable pub use Rattle.verdict.specs.GraphTests.{closure_of}

-- the edges, one case for each of the five in docs/FORMAT.md
pub data Joined (a b : Segment) : Type 0 where
  -- "each segment to the next of its chunk"
  next :
      a.node.team ≡ b.node.team
      → a.node.member ≡ b.node.member
      → b.node.number ≡ suc a.node.number
      → Joined a b
  -- "the segment that a REGION ends to segment 0 of every member of that team"
  fork : a.ended ≡ of_region b.node.team → b.node.number ≡ 0 → Joined a b
  -- "the last segment of every such member to the segment the REGION opens"
  join : a.ended ≡ of_chunk → b.opened ≡ of_region a.node.team → Joined a b
  -- "for the barrier of each number in a team, every member's segment ending there to every member's segment opening there"
  barrier :
      (number : ℕ)
      → a.node.team ≡ b.node.team
      → a.ended ≡ of_barrier number
      → b.opened ≡ of_barrier number
      → Joined a b
  -- "A barrier missing from a cut chunk is taken to come after its last command" (A.4): the last segment of a chunk to every segment of its
  -- team that is opened at a barrier whose number the chunk lacks. Complete members lack none that another has (12, 19)
  missing :
      (number : ℕ)
      → b.node.team ≡ a.node.team
      → a.ended ≡ of_chunk
      → a.state.barriers ≤ number
      → b.opened ≡ of_barrier number
      → Joined a b

-- an edge between two nodes of a bundle
pub record Edge (segments : List Segment) (a b : Node) : Type 0 where
  pub from : Segment
  pub to : Segment
  pub from_in : Memᴰ from segments
  pub to_in : Memᴰ to segments
  pub from_node : from.node ≡ a
  pub to_node : to.node ≡ b
  pub joined : Joined from to

-- "A path may be empty, so a segment reaches itself"
pub data GraphPath (segments : List Segment) (a : Node) : Node → Type 0 where
  here : GraphPath segments a a
  step : {b c : Node} → GraphPath segments a b → Edge segments b c → GraphPath segments a c
