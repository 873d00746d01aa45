-- The words of records: a record written behind the others.
use Prim.Native.Nat.{ℕ, ◌+◌, ◌*◌, ◌/◌, ◌%◌, ◌<◌}
use mathlib.Core.Path.{◌≡◌, refl, sym, ◌∙◌, ap}
use mathlib.Core.List.{List, [], ◌∷◌, append-nil}
use native.Mathlib.Omega.{arith}
use native.Mathlib.Nat.{add-zero}
use lib.ListN.{length, get_or, set, length-set}
use lib.Seq.{lt-length-set, get_or-set_same, get_or-set_other}
use Rattle.bundle.specs.Index.{parts_of, table, Added}
use Rattle.bundle.proofs.Tables.{table-added}
use Rattle.rows.specs.Slots.{Slot, row_made, name_word, slot_made, first_parts, second_parts, held_in, slot_at, Grown}
use Rattle.rows.specs.declared.row.Row.{Row}
use Rattle.rows.specs.declared.row.TeamRow.{TeamRow}
use Rattle.rows.specs.declared.row.Span.{Span}

divided : (n : ℕ) → n % 65536 + 65536 * (n / 65536) ≡ n
divided n = omega arith

held-made : (team : TeamRow) (i : Span) → held_in (first_parts team i) (second_parts i) ≡ row_made team i
unfolding held_in first_parts second_parts
held-made team i =
    ap (λ (size : ℕ). row_made team (record { member = i.member; interval = i.interval; joined = i.joined; begin = i.begin; size = size }))
    (divided i.size)

module _ (words : List ℕ) (count name one other : ℕ) (long : length words ≡ 1536) (few : count < 512) where
  abbrev first : List ℕ
  first = set words count name

  abbrev second : List ℕ
  second = set first (count + 512) one

  abbrev third : List ℕ
  third = set second (count + 1024) other

  kept : (i : ℕ) → (i ≡ count → ⊥) → (i ≡ count + 512 → ⊥) → (i ≡ count + 1024 → ⊥) → get_or third i 0 ≡ get_or words i 0
  kept i p q r =
      get_or-set_other second (count + 1024) i other 0 r
      ∙ get_or-set_other first (count + 512) i one 0 q
      ∙ get_or-set_other words count i name 0 p

  at_name : get_or third count 0 ≡ name
  at_name =
      get_or-set_other second (count + 1024) count other 0 (λ q. omega arith)
      ∙ get_or-set_other first (count + 512) count one 0 (λ q. omega arith)
      ∙ get_or-set_same words count name 0 (omega arith)

  at_one : get_or third (count + 512) 0 ≡ one
  at_one =
      get_or-set_other second (count + 1024) (count + 512) other 0 (λ q. omega arith)
      ∙ get_or-set_same first (count + 512) one 0 (lt-length-set words count name (omega arith))

  at_other : get_or third (count + 1024) 0 ≡ other
  at_other = get_or-set_same second (count + 1024) other 0 (lt-length-set first (count + 512) one (lt-length-set words count name (omega arith)))

  pub row-added :
      (team : TeamRow) (i : Span)
      → name ≡ name_word team.team i.member i.interval count
      → parts_of one ≡ first_parts team i
      → parts_of other ≡ second_parts i
      → Added slot_at words third count (slot_made team i count)
  row-added team i n p q =
      record {
        long = length-set second (count + 1024) other ∙ length-set first (count + 512) one ∙ length-set words count name;
        new = unfold slot_at slot_made in (rw (at_name, at_one, at_other, n, p, q) (ap (λ (r : Row). record { name = name_word team.team i.member i.interval count; row = r }) (held-made team i)));
        before =
            λ k h.
            unfold slot_at in
            (rw (
              kept k (λ e. omega arith) (λ e. omega arith) (λ e. omega arith),
              kept (k + 512) (λ e. omega arith) (λ e. omega arith) (λ e. omega arith),
              kept (k + 1024) (λ e. omega arith) (λ e. omega arith) (λ e. omega arith),
            ));
      }

-- one more, or none
pub grown-one : {words words' : List ℕ} {n : ℕ} {x : Slot} → Added slot_at words words' n x → Grown words words' n (x ∷ [])
grown-one a = record { long = a.long; rows = table-added slot_at a }

pub grown-none : (words : List ℕ) (n : ℕ) → Grown words words n []
grown-none words n = record { long = refl; rows = rw (add-zero n) (sym (append-nil (table (slot_at words) n))) }
