-- What the rows of an accepted bundle are.
use Prim.Native.Nat.{ℕ, ◌≤◌, ◌<◌}
use mathlib.Core.Path.{◌≡◌, sym, ◌∙◌, ap}
use mathlib.Core.List.{List, ◌++◌, map}
use lib.ListN.{length, drop}
use borrow.Author.Tests.{lt-ltb, le-ltb}
use Rattle.bundle.specs.Answer.{gives, refuses}
use Rattle.bundle.specs.Check.{Accepted}
use Rattle.bundle.proofs.Onward.{legible}
use Rattle.rewrite.specs.FixedOrder.{Ascending}
use Rattle.rewrite.proofs.KeySort.{sort-ascends}
use Rattle.rows.specs.Rows.{interval_name, intervals_of, rows_of, filling_with, export_as, export_of, compared_with, check_rows_of}
use Rattle.rows.specs.RowLaws.{RowLaws}
use Rattle.rows.specs.Passing.{listed}
use Rattle.rows.specs.declared.row.Row.{Row}
use Rattle.rows.proofs.IntervalNames.{names-distinct}
use Rattle.rows.proofs.IntervalSizes.{sizes-add-up, chunks-tiled}
use Rattle.rows.proofs.IntervalNumbers.{name-of-chunk, name-in-bundle}
use Rattle.rows.proofs.IntervalStarts.{starts-segment}
use Rattle.rows.proofs.Comparing.{first-other, compared-other, compared-gives, compared-itself}

module _ (b : List ℕ) (a : Accepted b) where
  in_order : Ascending (map interval_name (intervals_of b))
  unfolding intervals_of listed
  in_order = sort-ascends interval_name (listed b) (names-distinct b a)

  export-fills :
      (lent : List Row)
      → length (rows_of b) ≤ length lent
      → export_of b lent ≡ record { answer = gives (length (rows_of b)); rows = rows_of b ++ drop (length (rows_of b)) lent }
  unfolding export_of export_as filling_with
  export-fills lent h = rw (a, le-ltb (length lent) (length (rows_of b)) h)

  export-short : (lent : List Row) → length lent < length (rows_of b) → export_of b lent ≡ record { answer = refuses 22 0; rows = lent }
  unfolding export_of export_as filling_with
  export-short lent h = rw (a, lt-ltb (length lent) (length (rows_of b)) h)

  checker-compares : (given : List Row) → check_rows_of b given ≡ compared_with given (rows_of b)
  unfolding check_rows_of
  checker-compares given = rw a

pub row_laws : RowLaws
row_laws b bytes a =
    record {
      sizes = sizes-add-up b bytes a;
      tiles = chunks-tiled b bytes a;
      by_name = in_order b a;
      each_interval = λ name. (name-of-chunk b a name, name-in-bundle b a name);
      starts = λ c m. starts-segment c ((legible b a).formed c m);
      fills = export-fills b a;
      short = export-short b a;
      exactly =
          λ given. (
            λ e. compared-gives given (rows_of b) (sym (checker-compares b a given) ∙ e),
            λ e. ap (check_rows_of b) e ∙ checker-compares b a (rows_of b) ∙ compared-itself (rows_of b),
          );
      else = λ given h. checker-compares b a given ∙ compared-other given (rows_of b) h;
      lowest = λ given. first-other (rows_of b) given;
    }
