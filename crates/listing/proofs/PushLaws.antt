-- Numbers put one after another into lent memory.
use Prim.Native.Nat.{ℕ, zero, suc, ◌+◌, ◌*◌, ◌%◌, ◌≤◌}
use mathlib.Core.Path.{◌≡◌, refl, sym, ◌∙◌, ap, ap₂}
use mathlib.Core.Bool.{Bool, true, false, cond, ◌&&◌}
use mathlib.Core.List.{List, [], ◌∷◌, ◌++◌}
use mathlib.Core.Option.{Option, none, some}
use native.Mathlib.Omega.{arith}
use native.Mathlib.Nat.{add-zero}
use lib.Dec.{eqb, ltb}
use lib.ListN.{length, set, drop, length-append}
use lib.Seq.{sets, length-sets, sets-eq, set_out}
use Rattle.bundle.specs.declared.index.Fork.{Fork}
use Rattle.order.specs.Ranges.{shared_byte}
use Rattle.std.specs.declared.option.Option as Rust
use Rattle.std.specs.declared.option.Option.TheVariants.{Some, None}
use Rattle.bundle.specs.Lists.{option_of}
use Rattle.verdict.specs.Working.{access_row_at}
use Rattle.verdict.specs.Tallying.{row_range, unordered}
use Rattle.verdict.specs.declared.rows.AccessRow.{AccessRow}
use Rattle.listing.specs.Listing.{number_for}
use Rattle.listing.specs.Pushing.{Pushes, byte_numbers, next_numbers, race_byte, pair_numbers, row_numbers, all_numbers}

sets-append : (xs ys words : List ℕ) (i : ℕ) → sets words i (xs ++ ys) ≡ sets (sets words i xs) (i + length xs) ys
sets-append [] ys words i = ap (λ (k : ℕ). sets words k ys) (sym (add-zero i))
sets-append (x ∷ xs) ys words i =
    let q : suc i + length xs ≡ i + length (x ∷ xs) = omega arith in
    sets-append xs ys (set words i x) (suc i) ∙ ap (λ (k : ℕ). sets (sets (set words i x) (suc i) xs) k ys) q

pub pushes-none : (words : List ℕ) (count : ℕ) → Pushes [] words count words count
pushes-none words count = record { counted = sym (add-zero count); words = refl }

pub pushes-then :
    {xs ys before : List ℕ} {count : ℕ} {between : List ℕ} {some : ℕ} {after : List ℕ} {total : ℕ}
    → Pushes xs before count between some
    → Pushes ys between some after total
    → Pushes (xs ++ ys) before count after total
pushes-then {xs} {ys} {before} {count} p q =
    record {
      counted = omega (arith, p.counted, q.counted, length-append xs ys);
      words = q.words ∙ ap₂ (λ (l : List ℕ) (k : ℕ). sets l k ys) p.words p.counted ∙ sym (sets-append xs ys before count);
    }

pub pushes-length : {xs before : List ℕ} {count : ℕ} {after : List ℕ} {total : ℕ} → Pushes xs before count after total → length after ≡ length before
pushes-length {xs} {before} {count} p = ap length p.words ∙ length-sets before count xs

-- no room, or room for one
pub push-out : (words : List ℕ) (count x : ℕ) → length words ≤ count → Pushes (x ∷ []) words count words (count + 1)
push-out words count x h = record { counted = refl; words = sym (set_out words count x h) }

pub push-in : (words : List ℕ) (count x : ℕ) → Pushes (x ∷ []) words count (set words count x) (count + 1)
push-in words count x = record { counted = refl; words = refl }

-- where all have room, they stand in front
pub pushed_front : {xs before after : List ℕ} {total : ℕ} → Pushes xs before 0 after total → length xs ≤ length before → after ≡ xs ++ drop (length xs) before
pushed_front {xs} {before} p h =
    let q : 0 + length xs ≡ length xs = omega arith in
    p.words ∙ sets-eq xs before 0 (omega arith) ∙ ap (λ (k : ℕ). xs ++ drop k before) q

-- the race of two accesses by the answer of the lowest byte
module _ (i j : ℕ) {l : Rust.Option ℕ} {o : Option ℕ} (e : option_of l ≡ o) where
  pub byte-pushed :
      {w number : ℕ} {before : List ℕ} {count : ℕ} {after : List ℕ} {total : ℕ}
      → l ≡ Some w
      → number ≡ number_for w i j
      → Pushes (number ∷ []) before count after total
      → Pushes (byte_numbers i j o) before count after total
  byte-pushed {w} h q p = rw (sym e ∙ ap option_of h, ← q) p

  pub byte-none : {before : List ℕ} {count : ℕ} → l ≡ None → Pushes (byte_numbers i j o) before count before count
  byte-none {before} {count} h = rw (sym e ∙ ap option_of h) (pushes-none before count)

-- the same behind the tests
module _ (m : List ℕ) (one other : AccessRow) (left i j : ℕ) {t : Bool}
    (e : t ≡ (ltb i j && (eqb (left % 2) 1 && unordered m one.segment other.segment))) where
  pub next-none : {before : List ℕ} {count : ℕ} → t ≡ false → Pushes (next_numbers m one other left i j) before count before count
  next-none {before} {count} h = rw (sym e ∙ h) (pushes-none before count)

  pub next-pushed :
      {before : List ℕ} {count : ℕ} {after : List ℕ} {total : ℕ} {row : AccessRow}
      → t ≡ true
      → row ≡ other
      → Pushes (byte_numbers i j (shared_byte (row_range one) (row_range row))) before count after total
      → Pushes (next_numbers m one other left i j) before count after total
  next-pushed h q p = rw (sym e ∙ h, ← q) p

-- how many there can be
byte-few : (i j : ℕ) (o : Option ℕ) → length (byte_numbers i j o) ≤ 1
byte-few i j none = omega arith
byte-few i j (some w) = omega arith

module _ (m : List ℕ) (fs : List Fork) (rows : List ℕ) where
  pub pair-few : (i j : ℕ) → length (pair_numbers m fs rows i j) ≤ 1
  unfolding pair_numbers
  pair-few i j = go (ltb i j) (race_byte m fs (access_row_at rows i) (access_row_at rows j))
    where
      go : (t : Bool) (o : Option ℕ) → length (cond t (byte_numbers i j o) []) ≤ 1
      go true o = byte-few i j o
      go false o = omega arith

  pub row-few : (i j : ℕ) → length (row_numbers m fs rows i j) ≤ j
  unfolding row_numbers
  row-few i zero = omega arith
  row-few i (suc j) = omega (arith, row-few i j, pair-few i j, length-append (row_numbers m fs rows i j) (pair_numbers m fs rows i j))

  pub all-few : (n i : ℕ) → n ≤ 1024 → length (all_numbers m fs rows n i) ≤ 1024 * i
  unfolding all_numbers
  all-few n zero h = omega arith
  all-few n (suc i) h = omega (arith, all-few n i h, row-few i n, length-append (all_numbers m fs rows n i) (row_numbers m fs rows i n))
