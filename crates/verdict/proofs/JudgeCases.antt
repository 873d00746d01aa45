-- Judge and next race, case by case: the tables in the work area, the counts, the answers, and demand 3.
use Prim.Native.Nat.{ℕ, suc, ◌+◌, ◌≤◌, ◌<◌}
use mathlib.Core.Path.{◌≡◌, refl, sym, ◌∙◌, ap, ap₂, subst}
use mathlib.Core.List.{List, [], ◌∷◌, ◌++◌, Memᴰ}
use mathlib.Core.Option.{none, some}
use native.Mathlib.Omega.{arith}
use native.Mathlib.Decide.{dec_lt}
use lib.ListN.{length, take, drop, replicate, get_or, get_elem?, length-drop}
use lib.Seq.{length-take-le, length_front, take_at, drop_at}
use borrow.Rule.Slice.PartMut.{same_len_mid}
use borrow.Author.Tests.{lt-ltb, le-ltb}
use Rattle.bundle.specs.Answer.{Answer, gives, refuses, number_of, answer_of}
use Rattle.bundle.specs.Lists.{first, option_of}
use Rattle.bundle.specs.Commands.{Bytes, Lent, range_ok}
use Rattle.bundle.specs.Walk.{opens_segment, adds_access, Segment, forks_of}
use Rattle.bundle.specs.Chunks.{Chunk, chunks_of}
use Rattle.bundle.specs.Check.{fork_of, check_of, Accepted}
use Rattle.bundle.specs.Index.{total, log_of, chunk_row_at, fork_row_at, rows_from, chunk_rows, Indexed}
use Rattle.bundle.specs.declared.index.Fork.{Fork}
use Rattle.bundle.proofs.Tables.{table-length, table-in}
use Rattle.bundle.proofs.Reorder.{distinct-members}
use Rattle.bundle.proofs.Onward.{team-falls}
use Rattle.order.proofs.Climbs.{fork-none}
use Rattle.verdict.specs.Graph.{Node, segments_of}
use Rattle.verdict.specs.Accesses.{NamedAccess, key_of, race_key, accesses_of}
use Rattle.verdict.specs.RaceLists.{races_of}
use Rattle.verdict.specs.Working.{node_code, access_row_at, AccessTable}
use Rattle.verdict.specs.Linking.{forks_in, fork_for, Rooted, LineagesFit}
use Rattle.verdict.specs.Tallying.{above_key, tally_all, RowFits, TablesFit}
use Rattle.verdict.specs.Judge.{verdict_of, judgement_of, race_above, over_work, judged_of, judge_of, next_above, next_of, next_race_of}
use Rattle.verdict.specs.Promise.{Promise}
use Rattle.verdict.specs.Census.{matrix_part, rows_part, RegionsOf, MatrixFilled, AreaFilled, least_of, Tallies, Counted, CensusOver, verdict_in}
use Rattle.verdict.specs.declared.race.Name.{Name}
use Rattle.verdict.specs.declared.race.Race.{Race}
use Rattle.std.specs.declared.option.Option as Rust
use Rattle.std.specs.declared.option.Option.TheVariants.{Some, None}
use Rattle.std.specs.declared.result.Result.{Result}
use Rattle.std.specs.declared.result.Result.TheVariants.{Ok, Err}
use Rattle.bundle.specs.declared.refusal.Refusal.{Refusal}
use Rattle.verdict.specs.declared.race.Judgement.{Judgement}
use Rattle.verdict.specs.declared.pairs.Key.{Key}
use Rattle.verdict.specs.declared.pairs.Tally.{Tally}
use Rattle.verdict.specs.declared.judge.Census.{Census}
use Rattle.verdict.specs.Filling.{Filled}
use Rattle.verdict.specs.Edges.{Tables, Reached}
use Rattle.verdict.specs.declared.fill.Counts.{Counts}
use Rattle.verdict.proofs.Regularity.{regular}
use Rattle.verdict.proofs.ListPlaces.{below_at, at_below, at_mem}
use Rattle.verdict.proofs.AccessSegments.{stands}
use Rattle.verdict.proofs.BundleForkJoin.{forker, team-forked}
use Rattle.verdict.proofs.RowRaces.{row-range}
use Rattle.verdict.proofs.Tallies.{bundle-tallied}
use Rattle.verdict.proofs.Demand3.{demand3}

-- the number of rows is the number of chunks
rows-length : (g n : ℕ) (cs : List Chunk) → length (rows_from g n cs) ≡ length cs
unfolding rows_from
rows-length g n [] = refl
rows-length g n (c ∷ cs) = ap suc (rows-length (g + total opens_segment (log_of c)) (n + total adds_access (log_of c)) cs)

pub chunk_count : (s : List ℕ) (n m : ℕ) (chunks forks : List ℕ) → Indexed s n m chunks forks → n ≡ length (chunks_of s)
chunk_count s n m chunks forks x =
    sym (table-length (chunk_row_at chunks) n) ∙ ap length x.chunk-rows ∙ (unfold chunk_rows in (rows-length 0 0 (chunks_of s)))

pub regions-of : {s : List ℕ} {n m : ℕ} {chunks forks : List ℕ} → Indexed s n m chunks forks → RegionsOf s forks m
regions-of x = record { few = omega (arith, x.few); rows = x.fork_rows }

-- the halves of the area, each filled by itself
abbrev pub with_rows : List ℕ → List ℕ → List ℕ
with_rows area rows = take 8192 area ++ (rows ++ drop 8192 (drop 8192 area))

module _ (area : List ℕ) (large : 16384 ≤ length area) where
  pub rows_long : length (rows_part area) ≡ 8192
  rows_long = length-take-le 8192 (drop 8192 area) (simp length-drop (omega arith))

  pub rows-room : 8192 ≤ length (rows_part area)
  rows-room = rw rows_long (omega arith)

  pub matrix-long : length (matrix_part area) ≡ 8192
  matrix-long = length-take-le 8192 area (omega arith)

  pub rows-filled :
      {s : List ℕ} {r : Counts} {ends opens nodes : List ℕ} (rows : List ℕ)
      → Filled s r (length (rows_part area)) ends opens nodes rows
      → Filled s r 8192 ends opens nodes (rows_part (with_rows area rows)) × (length (with_rows area rows) ≡ length area)
  rows-filled {s} {r} {ends} {opens} {nodes} rows f =
      let long : length rows ≡ 8192 = f.row_table ∙ rows_long in
      let at : rows_part (with_rows area rows) ≡ rows =
      ap (take 8192) (drop_at (take 8192 area) (rows ++ drop 8192 (drop 8192 area)) 8192 matrix-long)
      ∙ take_at rows (drop 8192 (drop 8192 area)) 8192 long
      in (
        rw (at, ← rows_long) f,
        same_len_mid 8192 8192 area rows f.row_table,
      )

  pub matrix-filled :
      {ends opens nodes : List ℕ} {n : ℕ} (matrix : List ℕ)
      → Reached ends opens nodes n (matrix_part area) matrix
      → MatrixFilled ends opens nodes n area (matrix ++ drop 8192 area)
  matrix-filled {ends} {opens} {nodes} {n} matrix r =
      let long : length matrix ≡ 8192 = r.len ∙ matrix-long in
      record {
        len = length_front area matrix 8192 r.len;
        reached = rw (take_at matrix (drop 8192 area) 8192 long) r;
        kept = ap (take 8192) (drop_at matrix (drop 8192 area) 8192 long);
      }

module _ (s : List ℕ) {r : Counts} {ends opens nodes rows : List ℕ} (f : Filled s r 8192 ends opens nodes rows) (ok : Accepted s) where
  pub tables-for : Tables ends opens nodes r.segments
  tables-for =
      record {
        ends_whole = f.end_table;
        opens_whole = f.open_table;
        nodes_whole = f.node_table;
        small = omega (arith, f.segments, f.segment_tables.few);
        codes = λ i h. codes i (below_at ss i (omega (arith, f.segments)));
      }
    where
      ss : List Segment
      ss = segments_of (chunks_of s)

      codes : (i : ℕ) → (x : Segment) × (get_elem? ss i ≡ some x) → get_or nodes i 0 < 4294967295
      codes i (x, e) =
          let g = regular s ok f.segment_tables.few in
          let m = at_mem ss i e in
          unfold node_code in
          (omega (arith, f.segment_tables.node_codes i e, g.team x m, g.member x m, g.number x m))

  pub area-filled :
      (before after : List ℕ)
      → rows ≡ rows_part before
      → MatrixFilled ends opens nodes r.segments before after
      → AreaFilled s after r.segments r.accesses
  area-filled before after e m =
      record {
        paths = m.reached.paths (segments_of (chunks_of s)) (sym f.segments) f.segment_tables (regular s ok f.segment_tables.few);
        few_segments = omega (arith, f.segments, f.segment_tables.few);
        segment_count = f.segments;
        rows = rw (m.kept, ← e) f.access_table;
        access_count = f.accesses;
      }

-- the lineages of an accepted bundle lead to the root
module _ (s : List ℕ) (ok : Accepted s) {forks : List ℕ} {regions : ℕ} (r : RegionsOf s forks regions) where
  -- a team that is forked has its REGION among the first
  index_below : (t : ℕ) {f : Fork} → fork_of (forks_of (chunks_of s)) t ≡ some f → fork_for forks regions t < regions
  index_below t {f} e = go (dec_lt (fork_for forks regions t) regions)
    where
      go : Dec (fork_for forks regions t < regions) → fork_for forks regions t < regions
      go (yes h) = h
      go (no h) =
          let q : none ≡ some f =
          sym (fork-none (fork_row_at forks) regions t (fork_for forks regions t) refl (omega arith)) ∙ ap (λ (fs : List Fork). fork_of fs t) r.rows ∙ e
          in
          absurd (let z : ◌≡◌ {A = ℕ} 0 1 = cc in omega arith)

  segment-rooted : {g : Segment} → Memᴰ g (segments_of (chunks_of s)) → (g.node.team ≡ 0 → ⊥) → fork_for forks regions g.node.team < regions
  segment-rooted {g} m n = index_below g.node.team (team-forked s ok m n).1

  rooted : Rooted forks regions
  rooted =
      record {
        falls = λ f m. team-falls s ok f (subst (Memᴰ f) r.rows m);
        forked = λ k h n.
            let x = forker s ok (subst (Memᴰ (fork_row_at forks k)) r.rows (table-in (fork_row_at forks) regions k h)) in
            subst (λ (t : ℕ). fork_for forks regions t < regions) (sym x.2.parent) (segment-rooted x.1 (λ q. n (x.2.parent ∙ q)));
      }

  pub lineages-fit :
      {rows : List ℕ} {n : ℕ}
      → AccessTable (segments_of (chunks_of s)) (accesses_of (chunks_of s)) rows
      → n ≡ length (accesses_of (chunks_of s))
      → LineagesFit rows forks regions n
  lineages-fit {rows} {n} a count =
      record {
        few = r.few;
        rooted = rooted;
        rows_rooted = record { teams = λ j h. teams j (below_at xs j (omega (arith, count))) };
      }
    where
      xs : List NamedAccess
      xs = accesses_of (chunks_of s)

      teams : (j : ℕ) → (x : NamedAccess) × (get_elem? xs j ≡ some x) → ((access_row_at rows j).team ≡ 0 → ⊥) → fork_for forks regions (access_row_at rows j).team < regions
      teams j (x, e) n =
          let w = stands (chunks_of s) (at_mem xs j e) in
          let t : (access_row_at rows j).team ≡ w.segment.node.team = (a.rows j e).team ∙ w.team ∙ ap (λ (k : Node). k.team) (sym w.node) in
          subst (λ (u : ℕ). fork_for forks regions u < regions) (sym t) (segment-rooted w.present (λ q. n (t ∙ q)))

-- a filled area is one for the loops
module _ (s area : List ℕ) {g n : ℕ} (a : AreaFilled s area g n) where
  pub tables-fit : 16384 ≤ length area → TablesFit (matrix_part area) (rows_part area) n
  tables-fit large =
      record {
        whole = matrix-long area large;
        rows_whole = rows-room area large;
        few = omega (arith, a.access_count, a.rows.few);
        fit = λ i h. fits i (below_at xs i (omega (arith, a.access_count)));
      }
    where
      ss : List Segment
      ss = segments_of (chunks_of s)

      xs : List NamedAccess
      xs = accesses_of (chunks_of s)

      fits : (i : ℕ) → (x : NamedAccess) × (get_elem? xs i ≡ some x) → RowFits (access_row_at (rows_part area) i)
      fits i (x, e) =
          let r = a.rows.rows i e in
          record {
            segment = omega (arith, at_below ss (access_row_at (rows_part area) i).segment r.stands_in, a.segment_count, a.few_segments);
            range = ap range_ok (row-range r) ∙ r.good;
          }

  pub area-fits :
      Accepted s
      → {forks : List ℕ} {regions : ℕ}
      → RegionsOf s forks regions
      → 16384 ≤ length area
      → TablesFit (matrix_part area) (rows_part area) n × LineagesFit (rows_part area) forks regions n × (16384 ≤ length area)
  area-fits ok r large = (tables-fit large, lineages-fit s ok r a.rows a.access_count, large)

  pub census-counted :
      {c m : ℕ} {chunks forks : List ℕ}
      → Indexed s c m chunks forks
      → (key : Rust.Option Key) {t : Tally}
      → t ≡ tally_all (matrix_part area) (forks_in forks m) (rows_part area) key n
      → Counted s key (record { chunks = c; segments = g; accesses = n; tally = t })
  census-counted {c} {m} {chunks} {forks} x key e =
      record {
        chunk_count = chunk_count s c m chunks forks x;
        segment_count = a.segment_count;
        access_count = a.access_count;
        tally =
            subst (Tallies (races_of (chunks_of s)) key)
            (sym
            (e
            ∙ ap₂ (λ (fs : List Fork) (k : ℕ). tally_all (matrix_part area) fs (rows_part area) key k) x.fork_rows a.access_count))
            (bundle-tallied (chunks_of s) (distinct-members s x.accepted) a.paths a.rows key);
      }

-- what a tally says where no key is given
verdict-free : (rs : List Race) (t : Tally) → least_of t ≡ first (above_key None) rs → verdict_in t ≡ verdict_of rs
unfolding verdict_of
verdict-free rs t e = go rs t.least e
  where
    go : (rs : List Race) (least : Rust.Option Race) → option_of least ≡ first (above_key None) rs → least ≡ verdict_of rs
    go [] None h = refl
    go [] (Some r) h = absurd (let z : ◌≡◌ {A = ℕ} 0 1 = cc in omega arith)
    go (r ∷ rs) None h = absurd (let z : ◌≡◌ {A = ℕ} 0 1 = cc in omega arith)
    go (r ∷ rs) (Some q) h = let same : q ≡ r = cc in ap Some same

-- the answers to an accepted bundle, and to one that is refused
module _ (s : List ℕ) (ok : Accepted s) where
  pub judged-as :
      (n : Census) {j : Judgement}
      → Counted s None n
      → j ≡ record { chunks = n.chunks; segments = n.segments; accesses = n.accesses; races = n.tally.count; least = verdict_in n.tally }
      → gives j ≡ judged_of s
  unfolding judged_of judgement_of
  judged-as n k e =
      let verdict = verdict-free (races_of (chunks_of s)) n.tally k.tally.least in
      let parts : j-of ≡ judgement_of (chunks_of s) =
      λ i.
      record {
        chunks = k.chunk_count i;
        segments = k.segment_count i;
        accesses = k.access_count i;
        races = k.tally.race_count i;
        least = verdict i;
      }
      in
      rw ok (ap gives (e ∙ parts))
    where
      j-of : Judgement
      j-of = record { chunks = n.chunks; segments = n.segments; accesses = n.accesses; races = n.tally.count; least = verdict_in n.tally }

  pub next-as :
      (key : Key) (n : Census)
      → Counted s (Some key) n
      → next_race_of (Ok n.tally.least) ≡ next_above s (key_of key.witness key.first key.second)
  unfolding next_above race_above race_key
  next-as key n k = rw ok (ap gives k.tally.least)

module _ (s : List ℕ) {number place : ℕ} (e : check_of s ≡ refuses number place) where
  judge-refused : refuses number place ≡ judged_of s
  unfolding judged_of
  judge-refused = rw e

  next-refused : (key : List ℕ) → refuses number place ≡ next_above s key
  unfolding next_above
  next-refused key = rw e

-- the answer with the work area afterwards
module _ {A : Type 0} (s work : List ℕ) (key : Rust.Option Key) (answer : Answer A) {after : List ℕ} where
  small-area : after ≡ work → length work < 16384 → over_work work answer ≡ record { answer = refuses 13 0; buffer = after }
  unfolding over_work
  small-area e h = rw (lt-ltb (length work) 16384 h, e)

  large-area :
      {a : Answer A}
      → 16384 ≤ length work
      → a ≡ answer
      → after ≡ replicate (length work) 0
      → over_work work answer ≡ record { answer = a; buffer = after }
  unfolding over_work
  large-area h e c = rw (le-ltb (length work) 16384 h) (λ i. record { answer = sym e i; buffer = sym c i })

  over-given :
      {n : Census} {a : A}
      → CensusOver s key work (Ok n) after
      → (Accepted s → Counted s key n → gives a ≡ answer)
      → over_work work answer ≡ record { answer = gives a; buffer = after }
  over-given {n} {a} t given = go (dec_lt (length work) 16384)
    where
      go : Dec (length work < 16384) → over_work work answer ≡ record { answer = gives a; buffer = after }
      go (yes h) = absurd (let e = (t.small h).0 in let z : ◌≡◌ {A = ℕ} 0 1 = cc in omega arith)
      go (no h) = let l : 16384 ≤ length work = omega arith in let c = t.large l in large-area l (given c.0.0 c.0.1) c.1

  over-refused :
      {r : Refusal}
      → CensusOver s key work (Err r) after
      → (check_of s ≡ refuses (number_of r.cause) r.place → refuses (number_of r.cause) r.place ≡ answer)
      → over_work work answer ≡ record { answer = refuses (number_of r.cause) r.place; buffer = after }
  over-refused {r} t turned = go (dec_lt (length work) 16384)
    where
      go : Dec (length work < 16384) → over_work work answer ≡ record { answer = refuses (number_of r.cause) r.place; buffer = after }
      go (yes h) =
          let c = t.small h in
          let e : ◌≡◌ {A = Answer Census} (refuses (number_of r.cause) r.place) (refuses 13 0) = c.0 in
          let number : number_of r.cause ≡ 13 = cc in
          let place : r.place ≡ 0 = cc in
          rw (number, place) (small-area c.1 h)
      go (no h) = let l : 16384 ≤ length work = omega arith in let c = t.large l in large-area l (turned c.0) c.1

-- a work area that is too small stays as it is
pub judge-small : (b v : List ℕ) → length v < 16384 → judge_of b v ≡ record { answer = refuses 13 0; buffer = v }
unfolding judge_of
judge-small b v h = small-area b v None (judged_of b) refl h

pub next_small :
    (b : List ℕ) (w : ℕ) (f s : Name) (v : List ℕ) → length v < 16384 → next_of b w f s v ≡ record { answer = refuses 13 0; buffer = v }
unfolding next_of
next_small b w f s v h = small-area b v None (next_above b (key_of w f s)) refl h

module _ (s work : List ℕ) {after : List ℕ} where
  pub judge-given :
      {n : Census} {j : Judgement}
      → CensusOver s None work (Ok n) after
      → j ≡ record { chunks = n.chunks; segments = n.segments; accesses = n.accesses; races = n.tally.count; least = verdict_in n.tally }
      → judge_of s work ≡ record { answer = gives j; buffer = after }
  unfolding judge_of
  judge-given {n} t e = over-given s work None (judged_of s) t (λ ok k. judged-as s ok n k e)

  pub judge-refusal :
      {r : Refusal} → CensusOver s None work (Err r) after → judge_of s work ≡ record { answer = refuses (number_of r.cause) r.place; buffer = after }
  unfolding judge_of
  judge-refusal t = over-refused s work None (judged_of s) t (λ e. judge-refused s e)

  pub next-given :
      (w : ℕ) (f g : Name) {n : Census}
      → CensusOver s (Some (record { witness = w; first = f; second = g })) work (Ok n) after
      → next_of s w f g work ≡ record { answer = next_race_of (Ok n.tally.least); buffer = after }
  unfolding next_of
  next-given w f g {n} t =
      over-given s work (Some (record { witness = w; first = f; second = g })) (next_above s (key_of w f g)) t
      (λ ok k. next-as s ok (record { witness = w; first = f; second = g }) n k)

  pub next-refusal :
      (w : ℕ) (f g : Name) {r : Refusal}
      → CensusOver s (Some (record { witness = w; first = f; second = g })) work (Err r) after
      → next_of s w f g work ≡ record { answer = refuses (number_of r.cause) r.place; buffer = after }
  unfolding next_of
  next-refusal w f g t =
      over-refused s work (Some (record { witness = w; first = f; second = g })) (next_above s (key_of w f g)) t
      (λ e. next-refused s e (key_of w f g))

-- demand 3 at the judge's answer
pub promised :
    (b v : List ℕ) (r : Result Judgement Refusal) {after : List ℕ}
    → Bytes b
    → judge_of b v ≡ record { answer = answer_of r; buffer = after }
    → Promise b v r
promised b v r {after} bytes e c w ok re large large' =
    let d = demand3 b c v w bytes ok re large large' in
    record { judged = d; answer = told r (sym (ap (λ (x : Lent Judgement). x.answer) e) ∙ d.answer) }
  where
    told : (r : Result Judgement Refusal) {j : Judgement} → answer_of r ≡ gives j → r ≡ Ok j
    told (Ok i) {j} h = let q : i ≡ j = cc in ap Ok q
    told (Err refusal) h = absurd (let z : ◌≡◌ {A = ℕ} 0 1 = cc in omega arith)
