-- SWORD's interval rows (A.7): one record for each barrier interval, put into a lent list; and given records checked.
use Rattle.std.specs.Prelude.{ℕ, suc, ◌+◌, ◌-◌, Bool, false, true, cond, ◌&&◌, ◌||◌, List, [], ◌∷◌, ◌++◌, map, length, drop, eqb, ltb}
use Rattle.bundle.specs.Answer.{Answer, gives, refuses, when_given}
use Rattle.bundle.specs.Lists.{concat_map, from_option}
use Rattle.bundle.specs.Commands.{bytes_of}
use Rattle.bundle.specs.Cases.{on_delimiter, on_opening}
use Rattle.bundle.specs.Chunks.{Chunk, fresh, after_command, chunks_of}
use Rattle.bundle.specs.Walk.{Entry, entries_of, forks_of}
use Rattle.bundle.specs.Check.{fork_of, depth_of, check_of}
use Rattle.bundle.specs.declared.chunk.ChunkState.{ChunkState}
use Rattle.bundle.specs.declared.command.Command.{Command}
use Rattle.bundle.specs.declared.command.Command.TheVariants as Com
use Rattle.bundle.specs.declared.index.Fork.{Fork}
use Rattle.order.specs.Labels.{last_triple}
use Rattle.rewrite.specs.Rewriting.{sorted_by}
use Rattle.rows.specs.declared.row.Row.{Row}

-- a barrier interval of a member's chunk: the chunk's state at its start, where its data begins and the offset after its data
pub record Interval : Type 0 where
  pub team : ℕ
  pub member : ℕ
  pub state : ChunkState
  pub begin : ℕ
  pub past : ℕ

-- the offset after a command
unfoldable pub past_of : Entry → ℕ
past_of e = e.at + length (bytes_of e.command)

-- "runs through the next BARRIER, END or CUT"
unfoldable pub ends_interval : Command → Bool
ends_interval c = on_opening false false (λ t. false) true c || on_delimiter false (λ t m. false) true c

-- the intervals from one on that begins at an offset in a state; the next one's data begins after the BARRIER, in the state there
unfoldable pub intervals_from : ℕ → ℕ → ℕ → ChunkState → List Entry → List Interval
intervals_from t m begin k [] = []
intervals_from t m begin k (e ∷ es) =
    let ends = ends_interval e.command in
    let rest =
    intervals_from t m (cond ends (past_of e) begin) (cond ends (after_command e.state e.command) k) es in
    cond ends (record { team = t; member = m; state = k; begin = begin; past = past_of e } ∷ rest) rest

-- "Data begins after MEMBER or BARRIER"
unfoldable pub intervals_in : Chunk → List Interval
intervals_in c =
    let t = c.team in
    let m = c.member in
    intervals_from t m (c.place + length (bytes_of (Com.Member t m))) fresh (entries_of c)

-- its record: "pid (team), ppid (forking team, 0 for the root), bid (interval), offset and span of the last triple of the label at the
-- interval's start, level (0 for the root), data begin (offset in the bundle) and size"
unfoldable pub row_of : List Fork → Interval → Row
row_of fs i =
    let triple = last_triple fs i.team i.member i.state in
    record {
      pid = i.team;
      ppid = from_option 0 (λ (f : Fork). f.parent) (fork_of fs i.team);
      bid = triple.interval;
      offset = triple.offset;
      span = triple.span;
      level = depth_of fs i.team;
      begin = i.begin;
      size = i.past - i.begin;
    }

-- "Records go by team, member, interval"
unfoldable pub interval_name : Interval → List ℕ
interval_name i = i.team ∷ i.member ∷ i.state.barriers ∷ []

unfoldable pub intervals_of : List ℕ → List Interval
intervals_of s = sorted_by interval_name (concat_map intervals_in (chunks_of s))

unfoldable pub rows_of : List ℕ → List Row
rows_of s = map (row_of (forks_of (chunks_of s))) (intervals_of s)

-- the answer, and the lent list afterwards
pub record LentRows : Type 0 where
  pub answer : Answer ℕ
  pub rows : List Row

-- "22, too few records lent, at 0, .. with nothing written"; "Records past the last are untouched"; the answer is how many were written
unfoldable pub filling_with : List Row → List Row → LentRows
filling_with lent rows =
    cond (ltb (length lent) (length rows))
    (record { answer = refuses 22 0; rows = lent })
    (record { answer = gives (length rows); rows = rows ++ drop (length rows) lent })

-- "after check's refusals"
unfoldable pub export_as : List ℕ → List Row → Answer (Unit {0}) → LentRows
export_as s lent (gives u) = filling_with lent (rows_of s)
export_as s lent (refuses n p) = record { answer = refuses n p; rows = lent }

unfoldable pub export_of : List ℕ → List Row → LentRows
export_of s lent = export_as s lent (check_of s)

-- the same in every column
unfoldable pub same_row : Row → Row → Bool
same_row a b =
    (eqb a.pid b.pid && (eqb a.ppid b.ppid && eqb a.bid b.bid))
    && ((eqb a.offset b.offset && (eqb a.span b.span && eqb a.level b.level))
    && (eqb a.begin b.begin && eqb a.size b.size))

-- how many records of two lists are the same, from the front: the lowest index at which one is missing, extra or differing
unfoldable pub agreeing : List Row → List Row → ℕ
agreeing [] given = 0
agreeing (r ∷ rs) [] = 0
agreeing (r ∷ rs) (g ∷ gs) = cond (same_row r g) (suc (agreeing rs gs)) 0

-- "23, in the checker, a missing, extra or differing record, with the lowest such index"
unfoldable pub compared_with : List Row → List Row → Answer (Unit {0})
compared_with given rows =
    let n = agreeing rows given in
    cond (eqb n (length rows) && eqb n (length given)) (gives tt) (refuses 23 n)

-- "takes given records and tells whether they are those of the bundle", "after check's refusals"
unfoldable pub check_rows_of : List ℕ → List Row → Answer (Unit {0})
check_rows_of s given = when_given (check_of s) (λ u. compared_with given (rows_of s))
