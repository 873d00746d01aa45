-- The lines of interval_rows: a first line that names the columns of Table 4.1, then a line for each record, its columns in decimal without
-- leading zeros, with commas between them. Every line ends in 0x0a.
use Rattle.std.specs.Prelude.{ℕ, List, ◌++◌}
use Rattle.bundle.specs.Lists.{concat_map}
use Rattle.text.specs.Digits.{ascii, decimal}
use Rattle.text.specs.Lines.{line_end}
use Rattle.rows.specs.declared.row.Row.{Row}

unfoldable pub heading_line : List ℕ
heading_line = ascii "pid,ppid,bid,offset,span,level,data begin,size" ++ line_end

-- a column behind another
abbrev pub column : ℕ → List ℕ
column n = ascii "," ++ decimal n

unfoldable pub row_line : Row → List ℕ
row_line r =
    decimal r.pid
    ++ column r.ppid
    ++ column r.bid
    ++ column r.offset
    ++ column r.span
    ++ column r.level
    ++ column r.begin
    ++ column r.size
    ++ line_end

unfoldable pub csv_text : List Row → List ℕ
csv_text rows = heading_line ++ concat_map row_line rows
