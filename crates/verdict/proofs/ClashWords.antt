-- The word of the accesses that race with one if they are not ordered and share a byte, with all locks that count.
use Prim.Native.Nat.{ℕ, ◌+◌, ◌*◌, ◌/◌, ◌%◌, ◌^◌, ◌≤◌, ◌<◌}
use mathlib.Core.Path.{◌≡◌, sym, ◌∙◌, ap, subst}
use mathlib.Core.Bool.{Bool, true, false, ◌&&◌}
use mathlib.Core.List.{List}
use native.Mathlib.Nat.{div-one}
use native.Mathlib.Omega.{arith}
use lib.Bits.{bit_or}
use lib.Dec.{eqb}
use lib.Pow.{shr-shr}
use mir.Val.{bool_byte}
use Rattle.bundle.specs.declared.index.Fork.{Fork}
use Rattle.verdict.specs.Matrix.{TestWord}
use Rattle.verdict.specs.Working.{access_row_at}
use Rattle.verdict.specs.Linking.{forks_in, Around}
use Rattle.verdict.specs.Tallying.{rows_pass, unordered, counted_apart, RowsFit, PairFits, WordFits, ClashWord}
use Rattle.verdict.specs.declared.rows.AccessRow.{AccessRow}
use Rattle.verdict.proofs.WordBits.{BitsTo, bits_none, bits-more}
use Rattle.verdict.proofs.LinkLaws.{around-before, unheld-apart}
use Rattle.verdict.proofs.PairBlocks.{pass-counted, pass-own, block-row-in, block_within}

-- no lock is held at a REGION, or one is
module _ (m rows forks links : List ℕ) (regions : ℕ) (one : AccessRow) (i word first end : ℕ) {held : Bool}
    (f : RowsFit m rows one i first end) (a : Around rows forks links regions held i end) where
  pub own-word :
      held ≡ false
      → TestWord (λ (j : ℕ). rows_pass one (access_row_at rows j)) first word
      → ClashWord m (forks_in forks regions) rows one first end word
  own-word e tests =
      record {
        told = λ k h.
            ap (λ (x : Bool). x && unordered m one.segment (access_row_at rows (first + k)).segment) (tests.bits k (omega (arith, f.short)))
            ∙ pass-own m (forks_in forks regions) one (access_row_at rows (first + k))
            (unheld-apart (subst (λ (h : Bool). Around rows forks links regions h i end) e a) one (access_row_at rows (first + k)));
      }

  pub word_fits :
      held ≡ true
      → TestWord (λ (j : ℕ). rows_pass one (access_row_at rows j)) first word
      → WordFits m rows forks links regions one i word first end
  word_fits e tests =
      record { rows_fit = f; tests = tests; around = subst (λ (h : Bool). Around rows forks links regions h i end) e a }

-- the loop that looks at all locks that count
module _ (m rows forks : List ℕ) (regions : ℕ) (one : AccessRow) (word first : ℕ) where
  abbrev fs : List Fork
  fs = forks_in forks regions

  abbrev no_path_to : ℕ → Bool
  no_path_to j = unordered m one.segment (access_row_at rows j).segment

  abbrev pub counted : ℕ → Bool
  counted j = (rows_pass one (access_row_at rows j) && no_path_to j) && counted_apart fs one (access_row_at rows j)

  pub record KeptTo (kept left k : ℕ) : Type 0 where
    pub left_is : left ≡ word / 2 ^ k
    pub bits : BitsTo counted first kept k

  pub kept-none : KeptTo 0 word 0
  kept-none = record { left_is = sym (div-one word); bits = bits_none counted first }

  module _ (links : List ℕ) (i end : ℕ) (w : WordFits m rows forks links regions one i word first end) where
    pub kept_more :
        {kept left k : ℕ} (t : Bool)
        → KeptTo kept left k
        → first + k < end
        → t ≡ ((eqb (left % 2) 1 && no_path_to (first + k)) && counted_apart fs one (access_row_at rows (first + k)))
        → KeptTo (bit_or kept (bool_byte t * 2 ^ k % 4294967296)) (left / 2) (k + 1)
    kept_more {kept} {left} {k} t b h e =
        record {
          left_is = ap (λ (n : ℕ). n / 2) b.left_is ∙ shr-shr word k 1;
          bits =
              bits-more t b.bits (omega (arith, w.rows_fit.short))
              (e
              ∙ ap (λ (x : Bool). (x && no_path_to (first + k)) && counted_apart fs one (access_row_at rows (first + k)))
              (ap (λ (n : ℕ). eqb (n % 2) 1) b.left_is ∙ w.tests.bits k (omega (arith, w.rows_fit.short))));
        }

    pub kept-all : {kept left k : ℕ} → KeptTo kept left k → end ≤ first + k → ClashWord m fs rows one first end kept
    kept-all b h =
        record {
          told = λ l a.
              ap (λ (x : Bool). x && no_path_to (first + l)) (b.bits.done l (omega arith))
              ∙ pass-counted m fs one (access_row_at rows (first + l));
        }

    pub pair_fits : {j : ℕ} → j < end → PairFits m rows forks links regions one i j
    pair_fits h =
        record {
          row-in = block-row-in w.rows_fit h;
          within = block_within w.rows_fit h;
          row_is = w.rows_fit.row_is;
          around = around-before w.around (omega arith);
        }

-- the tests one after the other
module _ {b c : Bool} (e : c ≡ b) where
  pub counted-fails : c ≡ false → (a : Bool) → false ≡ (b && a)
  counted-fails h a = ap (λ (x : Bool). x && a) (sym h ∙ e)

  pub counted-told : c ≡ true → {a d : Bool} → a ≡ d → a ≡ (b && d)
  counted-told h {d = d} q = q ∙ ap (λ (x : Bool). x && d) (sym h ∙ e)
