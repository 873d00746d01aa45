-- Rows by computation: document 01's example E, regions before and after barriers, chunks that are cut, nested teams out of order, and lists that are short.
use Prim.Native.Nat.{ℕ, ◌-◌}
use mathlib.Core.Path.{◌≡◌, refl}
use mathlib.Core.List.{List, [], ◌∷◌, ◌++◌, map}
use lib.ListN.{take, replicate}
use Rattle.bundle.specs.Answer.{Answer, gives, refuses}
use Rattle.order.proofs.Computing.{order-computes}
use Rattle.verdict.specs.Accesses.{lex_less}
use Rattle.rewrite.specs.Rewriting.{insert_by, sorted_by}
use Rattle.rows.specs.Rows.{LentRows, past_of, ends_interval, intervals_from, intervals_in, row_of, interval_name, intervals_of, rows_of, filling_with, export_as, export_of, same_row, agreeing, compared_with, check_rows_of}
use Rattle.rows.specs.declared.row.Row.{Row}

row : ℕ → ℕ → ℕ → ℕ → ℕ → ℕ → ℕ → ℕ → Row
row pid ppid bid offset span level begin size =
    record { pid = pid; ppid = ppid; bid = bid; offset = offset; span = span; level = level; begin = begin; size = size }

other : Row
unfolding row
other = row 7 7 7 7 7 7 7 7

-- document 01's example E
E : List ℕ
E =
    0x01 ∷ 0x00 ∷ 0x00 ∷ 0x00 ∷ 0x10 ∷ 0x01 ∷ 0x00 ∷ 0x02 ∷ 0x02
    ∷ 0x01 ∷ 0x01 ∷ 0x00 ∷ 0x00 ∷ 0x31 ∷ 0x0a ∷ 0x00 ∷ 0x00 ∷ 0x10 ∷ 0x00 ∷ 0x00 ∷ 0x08 ∷ 0x00 ∷ 0x02 ∷ 0x00 ∷ 0x04 ∷ 0x11 ∷ 0x02
    ∷ 0x01 ∷ 0x01 ∷ 0x00 ∷ 0x01 ∷ 0x30 ∷ 0x14 ∷ 0x00 ∷ 0x0a ∷ 0x10 ∷ 0x00 ∷ 0x00 ∷ 0x00 ∷ 0x00 ∷ 0x01 ∷ 0x00 ∷ 0x04 ∷ 0x11 ∷ 0x02 ∷ []

rows_of_e : List Row
unfolding row
rows_of_e = row 0 0 0 0 1 0 4 5 ∷ row 1 0 0 0 2 1 13 13 ∷ row 1 0 1 0 2 1 26 1 ∷ row 1 0 0 1 2 1 31 13 ∷ row 1 0 1 1 2 1 44 1 ∷ []

-- the members of teams 5 and 3 first, then the root: REGION 3 of size 1, BARRIER, REGION 5 of size 1, CUT
nested : List ℕ
nested =
    0x01 ∷ 0x05 ∷ 0x00 ∷ 0x00 ∷ 0x11 ∷ 0x03
    ∷ 0x01 ∷ 0x03 ∷ 0x00 ∷ 0x00 ∷ 0x02
    ∷ 0x01 ∷ 0x00 ∷ 0x00 ∷ 0x00 ∷ 0x10 ∷ 0x03 ∷ 0x00 ∷ 0x01 ∷ 0x11 ∷ 0x10 ∷ 0x05 ∷ 0x00 ∷ 0x01 ∷ 0x03 ∷ []

-- the root's second interval has joined one region before it; that of team 5 is joined inside
rows_of_nested : List Row
unfolding row
rows_of_nested = row 0 0 0 0 1 0 15 5 ∷ row 0 0 1 1 1 0 20 5 ∷ row 3 0 0 0 1 1 10 1 ∷ row 5 0 0 0 1 1 4 1 ∷ row 5 0 1 0 1 1 5 1 ∷ []

-- the root forks team 1 of size 2; its member 1 forks team 4, joins it, meets a barrier, and forks team 9
deep : List ℕ
deep =
    0x01 ∷ 0x00 ∷ 0x00 ∷ 0x00 ∷ 0x10 ∷ 0x01 ∷ 0x00 ∷ 0x02 ∷ 0x02
    ∷ 0x01 ∷ 0x01 ∷ 0x00 ∷ 0x01 ∷ 0x10 ∷ 0x04 ∷ 0x00 ∷ 0x01 ∷ 0x11 ∷ 0x10 ∷ 0x09 ∷ 0x00 ∷ 0x01 ∷ 0x02
    ∷ 0x01 ∷ 0x09 ∷ 0x00 ∷ 0x00 ∷ 0x02
    ∷ 0x01 ∷ 0x01 ∷ 0x00 ∷ 0x00 ∷ 0x11 ∷ 0x02
    ∷ 0x01 ∷ 0x04 ∷ 0x00 ∷ 0x00 ∷ 0x02 ∷ []

rows_of_deep : List Row
unfolding row
rows_of_deep =
    row 0 0 0 0 1 0 4 5
    ∷ row 1 0 0 0 2 1 32 1 ∷ row 1 0 1 0 2 1 33 1
    ∷ row 1 0 0 1 2 1 13 5 ∷ row 1 0 1 3 2 1 18 5
    ∷ row 4 1 0 0 1 2 38 1
    ∷ row 9 1 0 0 1 2 27 1
    ∷ []

pub record Exported : Type 0 where
  pub bundle : List ℕ
  pub lent : List Row
  pub wanted : LentRows

lends : ℕ → List Row
unfolding other
lends n = replicate n other

-- so many records lent, of which as many as there are rows are written
written : List ℕ → List Row → ℕ → ℕ → Exported
written s rows n count = record { bundle = s; lent = lends n; wanted = record { answer = gives count; rows = rows ++ lends (n - count) } }

refused : List ℕ → ℕ → ℕ → ℕ → Exported
refused s n number place = record { bundle = s; lent = lends n; wanted = record { answer = refuses number place; rows = lends n } }

pub exports : List Exported
unfolding E rows_of_e nested rows_of_nested deep rows_of_deep other row lends written refused
exports =
    written E rows_of_e 5 5
    ∷ written E rows_of_e 7 5
    ∷ written nested rows_of_nested 5 5
    ∷ written deep rows_of_deep 8 7
    ∷ refused E 4 22 0
    ∷ refused E 0 22 0
    ∷ refused [] 0 10 0
    ∷ refused (0x02 ∷ []) 9 4 0
    ∷ []

pub exported-as : map (λ (x : Exported). export_of x.bundle x.lent) exports ≡ map (λ (x : Exported). x.wanted) exports
unfolding exports E rows_of_e nested rows_of_nested deep rows_of_deep other row lends written refused past_of ends_interval intervals_from intervals_in row_of interval_name intervals_of rows_of filling_with export_as export_of lex_less insert_by sorted_by order-computes
exported-as = refl

-- the checker
pub record Given : Type 0 where
  pub bundle : List ℕ
  pub given : List Row
  pub wanted : Answer (Unit {0})

told : List ℕ → List Row → ℕ → ℕ → Given
told s rows number place = record { bundle = s; given = rows; wanted = refuses number place }

pub checks : List Given
unfolding E rows_of_e nested rows_of_nested other row told
checks =
    record { bundle = E; given = rows_of_e; wanted = gives tt }
    ∷ record { bundle = nested; given = rows_of_nested; wanted = gives tt }
    ∷ told E [] 23 0
    ∷ told E (take 4 rows_of_e) 23 4
    ∷ told E (rows_of_e ++ (other ∷ [])) 23 5
    ∷ told E (take 4 rows_of_e ++ (row 1 0 1 1 2 1 44 2 ∷ [])) 23 4
    ∷ told E (other ∷ take 4 rows_of_e) 23 0
    ∷ told E rows_of_nested 23 0
    ∷ told [] [] 10 0
    ∷ []

pub checked-as : map (λ (x : Given). check_rows_of x.bundle x.given) checks ≡ map (λ (x : Given). x.wanted) checks
unfolding checks E rows_of_e nested rows_of_nested other row told past_of ends_interval intervals_from intervals_in row_of interval_name intervals_of rows_of same_row agreeing compared_with check_rows_of lex_less insert_by sorted_by order-computes
checked-as = refl
