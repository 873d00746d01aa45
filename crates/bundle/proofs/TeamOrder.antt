-- The REGIONs in the order of their teams: in the sorted words a team's slot is found by its number.
use Prim.Native.Nat.{ℕ, zero, suc, ◌+◌, ◌*◌, ◌/◌, ◌≤◌, ◌<◌}
use mathlib.Core.Path.{◌≡◌, refl, sym, ◌∙◌, ap, subst}
use mathlib.Core.Bool.{Bool, true}
use mathlib.Core.List.{List, [], ◌∷◌, map}
use native.Mathlib.Omega.{arith}
use native.Mathlib.Numerals.{add-one}
use lib.Dec.{eqb}
use lib.ListN.{length, get_or, take, set, replicate, length-map, length-replicate}
use lib.Seq.{take-suc-set, take_all, length-take-le}
use borrow.Author.Tests.{le-leb, eqb-true, eq-eqb}
use Rattle.sorting.specs.Order.{sorted, sorting}
use Rattle.sorting.specs.Searching.{keyed_from, Keyed}
use Rattle.sorting.proofs.Insertion.{sorted-length}
use Rattle.sorting.proofs.KeyOrder.{first-with-key}
use Rattle.bundle.specs.Index.{fork_row_of, fork_row_at, table_from, table, index_of}
use Rattle.bundle.specs.Shape.{slot_of, ByTeam, Blank}
use Rattle.bundle.specs.declared.index.Fork.{Fork}
use Rattle.bundle.proofs.Tests.{same_test}
use Rattle.bundle.proofs.Tables.{table_more, table-length}

-- a table written word by word
module _ (g : ℕ → ℕ) (words : List ℕ) (i : ℕ) (so_far : take i words ≡ table g i) where
  pub written-more : (word : ℕ) → i < length words → word ≡ g i → take (i + 1) (set words i word) ≡ table g (i + 1)
  written-more word h e = rw (add-one, take-suc-set words i word h, table_more g i, so_far, e)

  pub written_all : (n : ℕ) → length words ≡ n → i ≤ n → length words ≤ i → words ≡ table g n
  written_all n long l h =
      let e : i ≡ n = omega arith in
      sym (take_all i words h) ∙ so_far ∙ ap (table g) e

-- where there is room, sorting sorts
pub sorting-sorts : (r : Bool) (words after : List ℕ) (room : ℕ) → (r, after) ≡ sorting words room → length words / 2 ≤ room → after ≡ sorted words
unfolding sorting
sorting-sorts r words after room e h =
    let q : sorting words room ≡ (true, sorted words) = rw (le-leb (length words / 2) room h) in
    ap (λ (p : Bool × List ℕ). p.1) (e ∙ q)

keyed-table : {A : Type 0} (key : A → ℕ) (f : ℕ → A) (i k : ℕ) → keyed_from i (map key (table_from f i k)) ≡ table_from (λ j. key (f j) * 65536 + j) i k
unfolding keyed_from table_from
keyed-table key f i zero = refl
keyed-table key f i (suc k) = ap (λ (ws : List ℕ). (key (f i) * 65536 + i) ∷ ws) (keyed-table key f (suc i) k)

same-eqb : (a b : ℕ) → eqb a b ≡ eqb b a
same-eqb a b = same_test (eqb a b) (eqb b a) (λ e. eq-eqb b a (sym (eqb-true a b e))) (λ e. eq-eqb a b (sym (eqb-true b a e)))

index-team : (t : ℕ) (fs : List Fork) → index_of (eqb t) (map (λ (f : Fork). f.team) fs) ≡ slot_of fs t
unfolding index_of slot_of
index-team t [] = refl
index-team t (f ∷ fs) = rw (same-eqb t f.team, index-team t fs)

team-fits : (forks : List ℕ) → ((k : ℕ) → get_or forks k 0 < 18446744073709551616) → (i : ℕ) → (fork_row_at forks i).team < 65536
unfolding fork_row_at fork_row_of
team-fits forks h i = let l = h (3 * i) in omega arith

key-small : {A : Type 0} (key : A → ℕ) (f : ℕ → A) (i k j : ℕ) → ((l : ℕ) → key (f l) < 65536) → get_or (map key (table_from f i k)) j 0 < 281474976710656
unfolding table_from
key-small key f i zero j h = omega arith
key-small key f i (suc k) zero h = let l = h i in omega arith
key-small key f i (suc k) (suc j) h = key-small key f (suc i) k j h

teams-ordered :
    (forks order : List ℕ) (n : ℕ)
    → n ≤ 512
    → ((k : ℕ) → get_or forks k 0 < 18446744073709551616)
    → order ≡ sorted (table (λ i. (fork_row_at forks i).team * 65536 + i) n)
    → ByTeam order (table (fork_row_at forks) n)
teams-ordered forks order n few fits e =
    record {
      few = rw long few;
      long = long ∙ sym (table-length (fork_row_at forks) n);
      slot = λ t. first-with-key keys order keyed t ∙ index-team t (table (fork_row_at forks) n);
    }
  where
    keys : List ℕ
    keys = map (λ (f : Fork). f.team) (table (fork_row_at forks) n)

    long : length order ≡ n
    long = rw (e, sorted-length) (table-length (λ i. (fork_row_at forks i).team * 65536 + i) n)

    keys-long : length keys ≡ n
    keys-long = length-map (table (fork_row_at forks) n) (λ (f : Fork). f.team) ∙ table-length (fork_row_at forks) n

    small : (i : ℕ) → i < length keys → get_or keys i 0 < 281474976710656
    small i h = unfold table in (key-small (λ (f : Fork). f.team) (fork_row_at forks) 0 n i (team-fits forks fits))

    keyed : Keyed keys order
    keyed =
        record {
          few = rw keys-long (omega arith);
          small = small;
          order = e ∙ unfold table in (ap sorted (sym (keyed-table (λ (f : Fork). f.team) (fork_row_at forks) 0 n)));
        }

pub teams-sorted :
    (forks : List ℕ) {words order : List ℕ} (n room : ℕ) {r : Bool}
    → n ≤ 512
    → ((k : ℕ) → get_or forks k 0 < 18446744073709551616)
    → words ≡ table (λ i. (fork_row_at forks i).team * 65536 + i) n
    → (r, order) ≡ sorting words room
    → 256 ≤ room
    → ByTeam order (table (fork_row_at forks) n)
teams-sorted forks {words} {order} n room {r} few fits e q enough =
    let long : length words ≡ n = rw e (table-length (λ i. (fork_row_at forks i).team * 65536 + i) n) in
    teams-ordered forks order n few fits (sorting-sorts r words order room q (omega arith) ∙ ap sorted e)

pub ordered-for :
    (forks words : List ℕ) {order : List ℕ} {n : ℕ}
    → length words ≡ n
    → ByTeam order (table (fork_row_at forks) (length words))
    → ByTeam order (table (fork_row_at forks) n)
ordered-for forks words {order = order} e by = subst (λ (k : ℕ). ByTeam order (table (fork_row_at forks) k)) e by

-- the tables, all 0, the order's with the first k of n words
module _ (n k : ℕ) (h : k ≤ n) where
  front_length : length (take k (replicate {A = ℕ} n 0)) ≡ k
  front_length = length-take-le k (replicate {A = ℕ} n 0) (rw (length-replicate {A = ℕ} n 0) h)

  pub front-is : k ≡ length (take k (replicate {A = ℕ} n 0))
  front-is = sym front_length

  pub blank : (a b : ℕ) → n ≤ 512 → 4 * n + 3 < a → n < b → Blank (take k (replicate {A = ℕ} n 0)) (replicate a 0) (replicate b 0) k
  blank a b few l m =
      record {
        few = omega arith;
        order_long = front_length;
        masks_long = rw (length-replicate {A = ℕ} a 0) (omega arith);
        masks_clear = ap (λ (x : ℕ). replicate {A = ℕ} x 0) (sym (length-replicate {A = ℕ} a 0));
        leads_long = rw (length-replicate {A = ℕ} b 0) (omega arith);
        leads_clear = ap (λ (x : ℕ). replicate {A = ℕ} x 0) (sym (length-replicate {A = ℕ} b 0));
      }
