-- The judge's tables grow: a segment or an access more, and what is kept.
use Prim.Native.Nat.{ℕ, ◌+◌, ◌<◌}
use mathlib.Core.Path.{◌≡◌, sym, ◌∙◌, subst}
use mathlib.Core.List.{List, [], ◌∷◌, ◌++◌}
use native.Mathlib.Omega.{arith}
use lib.ListN.{length, get_or, length-append}
use Rattle.bundle.specs.Index.{Added}
use Rattle.verdict.specs.Graph.{Segment}
use Rattle.verdict.specs.Accesses.{NamedAccess}
use Rattle.verdict.specs.Working.{end_code, open_code, node_code, access_row_at, SegmentTables, RowOf, AccessTable}
use Rattle.verdict.specs.declared.rows.AccessRow.{AccessRow}
use Rattle.verdict.proofs.ListPlaces.{at_below, more-behind}

-- the same words at the places below a count
abbrev pub Same : ℕ → List ℕ → List ℕ → Type 0
Same n words' words = (i : ℕ) → i < n → get_or words' i 0 ≡ get_or words i 0

pub tables-kept :
    {ss : List Segment} {ends opens nodes ends' opens' nodes' : List ℕ}
    → SegmentTables ss ends opens nodes
    → Same (length ss) ends' ends
    → Same (length ss) opens' opens
    → Same (length ss) nodes' nodes
    → SegmentTables ss ends' opens' nodes'
tables-kept {ss} t e o n =
    record {
      few = t.few;
      end_codes = λ i q. e i (at_below ss i q) ∙ t.end_codes i q;
      open_codes = λ i q. o i (at_below ss i q) ∙ t.open_codes i q;
      node_codes = λ i q. n i (at_below ss i q) ∙ t.node_codes i q;
    }

pub tables_more :
    {ss : List Segment} {ends opens nodes : List ℕ} (s : Segment)
    → SegmentTables ss ends opens nodes
    → length ss < 512
    → get_or ends (length ss) 0 ≡ end_code s.node.team s.state.barriers s.ended
    → get_or opens (length ss) 0 ≡ open_code s.node.team s.opened
    → get_or nodes (length ss) 0 ≡ node_code s.node
    → SegmentTables (ss ++ s ∷ []) ends opens nodes
tables_more {ss} {ends} {opens} {nodes} s t h e o n =
    let long : length (ss ++ s ∷ []) ≡ length ss + 1 = length-append ss (s ∷ []) in
    record {
      few = omega arith;
      end_codes = λ i q. more-behind (λ (i : ℕ) (x : Segment). get_or ends i 0 ≡ end_code x.node.team x.state.barriers x.ended) ss s (λ j y e'. t.end_codes j e') e i _ q;
      open_codes = λ i q. more-behind (λ (i : ℕ) (x : Segment). get_or opens i 0 ≡ open_code x.node.team x.opened) ss s (λ j y e'. t.open_codes j e') o i _ q;
      node_codes = λ i q. more-behind (λ (i : ℕ) (x : Segment). get_or nodes i 0 ≡ node_code x.node) ss s (λ j y e'. t.node_codes j e') n i _ q;
    }

pub rows_more :
    {ss : List Segment} {xs : List NamedAccess} {rows rows' : List ℕ} {row : AccessRow} (x : NamedAccess)
    → AccessTable ss xs rows
    → Added access_row_at rows rows' (length xs) row
    → length xs < 1024
    → RowOf ss x row
    → AccessTable ss (xs ++ x ∷ []) rows'
rows_more {ss} {xs} {rows} {rows'} x t a h r =
    let long : length (xs ++ x ∷ []) ≡ length xs + 1 = length-append xs (x ∷ []) in
    record {
      few = omega arith;
      rows =
          λ i q.
          more-behind (λ (i : ℕ) (y : NamedAccess). RowOf ss y (access_row_at rows' i)) xs x
          (λ j z e. subst (RowOf ss z) (sym (a.before j (at_below xs j e))) (t.rows j e))
          (subst (RowOf ss x) (sym a.new) r)
          i
          _
          q;
    }
