-- The text of rows: lines added one after another.
use Prim.Native.Nat.{ℕ, ◌+◌}
use mathlib.Core.Path.{◌≡◌, sym, ◌∙◌, ap}
use mathlib.Core.List.{List, [], ◌∷◌, ◌++◌, append_assoc, append-nil}
use native.Mathlib.Numerals.{add-one}
use Rattle.bundle.specs.Lists.{concat_map}
use Rattle.bundle.specs.Index.{table}
use Rattle.bundle.proofs.ListLaws.{concat_map-append}
use Rattle.bundle.proofs.Tables.{table_none, table_more}
use Rattle.rows.specs.declared.row.Row.{Row}
use Rattle.interval_rows.specs.Lines.{heading_line, row_line, csv_text}

pub csv-none : (f : ℕ → Row) → heading_line ≡ csv_text (table f 0)
unfolding csv_text
csv-none f = sym (ap (λ (rs : List Row). heading_line ++ concat_map row_line rs) (table_none f) ∙ append-nil heading_line)

pub csv-more : (f : ℕ → Row) (i : ℕ) → csv_text (table f i) ++ row_line (f i) ≡ csv_text (table f (i + 1))
unfolding csv_text
csv-more f i =
    append_assoc heading_line (concat_map row_line (table f i)) (row_line (f i))
    ∙ sym
    (ap (λ (rs : List Row). heading_line ++ concat_map row_line rs) (ap (table f) (add-one i) ∙ table_more f i)
    ∙ ap (λ (bs : List ℕ). heading_line ++ bs) (concat_map-append row_line (table f i) (f i ∷ []) ∙ ap (λ (bs : List ℕ). concat_map row_line (table f i) ++ bs) (append-nil (row_line (f i)))))
