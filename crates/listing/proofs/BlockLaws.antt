-- An access with 32 others at a time, and with all that stand behind it.
use Prim.Native.Nat.{ℕ, zero, suc, ◌+◌, ◌*◌, ◌-◌, ◌/◌, ◌%◌, ◌^◌, ◌≤◌, ◌<◌, min}
use mathlib.Core.Path.{◌≡◌, refl, sym, ◌∙◌, ap, ap₂, subst}
use mathlib.Core.Bool.{Bool, true, false, cond, ◌&&◌}
use mathlib.Core.List.{List, [], ◌++◌, append-nil}
use mathlib.Core.Option.{Option, none}
use native.Mathlib.Nat.{zero-div, div-one}
use native.Mathlib.Numerals.{add-one}
use native.Mathlib.Omega.{arith}
use lib.Dec.{eqb, ltb}
use lib.ListN.{length}
use lib.Pow.{shr-shr}
use borrow.Author.Tests.{le-ltb}
use Rattle.bundle.specs.declared.index.Fork.{Fork}
use Rattle.order.specs.Ranges.{shared_byte}
use Rattle.verdict.specs.Working.{access_row_at}
use Rattle.verdict.specs.Tallying.{row_range, rows_meet, rows_clash, unordered, NoneMeet, TablesFit, BlockIn, ClashWord}
use Rattle.verdict.specs.declared.rows.AccessRow.{AccessRow}
use Rattle.verdict.proofs.PairCases.{fewer-rows}
use Rattle.listing.specs.Pushing.{Pushes, byte_numbers, next_numbers, race_byte, pair_numbers, row_numbers, all_numbers, NextFits, BlockFits, BlockPushed}
use Rattle.listing.proofs.PushLaws.{pushes-none, pushes-then, pushes-length, row-few, all-few, pair-few}

module _ (m : List ℕ) (fs : List Fork) (rows : List ℕ) (i : ℕ) where
  abbrev here : AccessRow
  here = access_row_at rows i

  -- the tests in the code's order, and in that of the definition
  folded :
      (behind pass : Bool) (o : Option ℕ) (j : ℕ)
      → cond (behind && pass) (byte_numbers i j o) [] ≡ cond behind (byte_numbers i j (cond pass o none)) []
  folded true true o j = refl
  folded true false o j = refl
  folded false pass o j = refl

  abbrev races : ℕ → Bool
  races j = rows_meet here (access_row_at rows j) && rows_clash m fs here (access_row_at rows j)

  next-pair :
      (left j : ℕ)
      → (eqb (left % 2) 1 && unordered m here.segment (access_row_at rows j).segment) ≡ races j
      → next_numbers m here (access_row_at rows j) left i j ≡ pair_numbers m fs rows i j
  unfolding pair_numbers race_byte
  next-pair left j e =
      let o : Option ℕ = shared_byte (row_range here) (row_range (access_row_at rows j)) in
      ap (λ (t : Bool). cond (ltb i j && t) (byte_numbers i j o) []) e ∙ folded (ltb i j) (races j) o j

  none_of : (behind : Bool) (o : Option ℕ) (j : ℕ) → o ≡ none → cond behind (byte_numbers i j o) [] ≡ []
  none_of true o j e = ap (byte_numbers i j) e
  none_of false o j e = refl

  and_none : (a b : Bool) (o : Option ℕ) → (a && b) ≡ false → cond (a && b) o none ≡ none
  and_none a b o e = ap (λ (t : Bool). cond t o none) e

  -- no race with one that does not clash, or whose bounds do not meet, or that does not stand behind
  pub failed-pair : (j : ℕ) → races j ≡ false → pair_numbers m fs rows i j ≡ []
  unfolding pair_numbers race_byte
  failed-pair j e =
      let other : AccessRow = access_row_at rows j in
      none_of (ltb i j) _ j (and_none (rows_meet here other) (rows_clash m fs here other) (shared_byte (row_range here) (row_range other)) e)

  pub apart-pair : (j : ℕ) → rows_meet here (access_row_at rows j) ≡ false → pair_numbers m fs rows i j ≡ []
  apart-pair j e = failed-pair j (ap (λ (t : Bool). t && rows_clash m fs here (access_row_at rows j)) e)

  pub before-pair : (j : ℕ) → j ≤ i → pair_numbers m fs rows i j ≡ []
  unfolding pair_numbers
  before-pair j h = rw (le-ltb i j h)

  -- pairs without a race add nothing
  pub row-skipped : (j k : ℕ) → ((l : ℕ) → l < k → pair_numbers m fs rows i (j + l) ≡ []) → row_numbers m fs rows i j ≡ row_numbers m fs rows i (j + k)
  unfolding row_numbers
  row-skipped j zero h = let same : j ≡ j + 0 = omega arith in ap (row_numbers m fs rows i) same
  row-skipped j (suc k) h =
      let next : suc (j + k) ≡ j + suc k = omega arith in
      row-skipped j k (λ l a. h l (omega arith))
      ∙ sym (ap (λ (l : List ℕ). row_numbers m fs rows i (j + k) ++ l) (h k (omega arith)) ∙ append-nil (row_numbers m fs rows i (j + k)))
      ∙ ap (row_numbers m fs rows i) next

  row_more : (j : ℕ) → row_numbers m fs rows i (j + 1) ≡ row_numbers m fs rows i j ++ pair_numbers m fs rows i j
  row_more j = rw (add-one j) (unfold row_numbers in refl)

  -- how far the loop over a block is
  pub record PassTo (first word : ℕ) (before : List ℕ) (n : ℕ) (numbers : List ℕ) (count left j : ℕ) : Type 0 where
    pub passed : first ≤ j
    pub left_is : left ≡ word / 2 ^ (j - first)
    pub few : count + first ≤ n + j
    pub long : length numbers ≡ length before
    pub pushed : BlockPushed m fs rows i first j before n numbers count

  pub pass-none : (first word : ℕ) (before : List ℕ) (n : ℕ) → PassTo first word before n before n word first
  pass-none first word before n =
      let none_yet : first - first ≡ 0 = omega arith in
      record {
        passed = omega arith;
        left_is = sym (ap (λ (k : ℕ). word / 2 ^ k) none_yet ∙ div-one word);
        few = omega arith;
        long = refl;
        pushed = record { more = λ words k p. p };
      }

  -- rows without a race may be passed
  skipped :
      {first j : ℕ} {before numbers : List ℕ} {n count : ℕ} (end : ℕ)
      → BlockPushed m fs rows i first j before n numbers count
      → j ≤ end
      → ((l : ℕ) → j + l < end → pair_numbers m fs rows i (j + l) ≡ [])
      → BlockPushed m fs rows i first end before n numbers count
  skipped {first} {j} {before} {numbers} {n} {count} end b h none-there =
      let all : j + (end - j) ≡ end = omega arith in
      let same : row_numbers m fs rows i j ≡ row_numbers m fs rows i end = row-skipped j (end - j) (λ l a. none-there l (omega arith)) ∙ ap (row_numbers m fs rows i) all in
      record { more = λ words k p. subst (λ (l : List ℕ). Pushes l words k numbers count) same (b.more words k p) }

  pub none-met :
      (first end : ℕ) (one : AccessRow) (before : List ℕ) (n : ℕ)
      → one ≡ access_row_at rows i
      → first ≤ end
      → end ≤ first + 32
      → NoneMeet one rows first 32
      → BlockPushed m fs rows i first end before n before n
  none-met first end one before n e h short met =
      skipped end (record { more = λ words k p. p }) h
      (λ l a. apart-pair (first + l) (ap (λ (x : AccessRow). rows_meet x (access_row_at rows (first + l))) (sym e) ∙ met.apart l (omega arith)))

  module _
      {first word : ℕ} {before : List ℕ} {n : ℕ} {numbers : List ℕ} {count left j : ℕ} {one : AccessRow} {end : ℕ}
      (b : PassTo first word before n numbers count left j) (f : BlockFits m rows one i first end n)
      (clashes : ClashWord m fs rows one first end word) where
    abbrev no_path_to : AccessRow → ℕ → Bool
    no_path_to x c = unordered m x.segment (access_row_at rows c).segment

    bit-races : (k : ℕ) → j + k < end → (eqb (left / 2 ^ k % 2) 1 && no_path_to here (j + k)) ≡ races (j + k)
    bit-races k h =
        let place : first + (j - first + k) ≡ j + k = omega (arith, b.passed) in
        ap₂ (λ (x : ℕ) (c : ℕ). eqb (x % 2) 1 && no_path_to here c) (ap (λ (x : ℕ). x / 2 ^ k) b.left_is ∙ shr-shr word (j - first) k) (sym place)
        ∙ ap (λ (x : AccessRow). eqb (word / 2 ^ (j - first + k) % 2) 1 && no_path_to x (first + (j - first + k))) (sym f.rows_fit.row_is)
        ∙ clashes.told (j - first + k) (omega (arith, b.passed))
        ∙ ap₂ (λ (x : AccessRow) (c : ℕ). rows_meet x (access_row_at rows c) && rows_clash m fs x (access_row_at rows c)) f.rows_fit.row_is place

    pub pass_fits : j < end → NextFits m rows one i j count
    pass_fits h =
        let r = f.rows_fit in
        record {
          whole = r.tables.whole;
          rows_whole = r.tables.rows_whole;
          row = r.row;
          other_row = r.tables.fit j h;
          below = r.below;
          other_below = omega (arith, r.tables.few);
          few = omega (arith, f.few, b.few, r.tables.few);
        }

    pub pass-more :
        (numbers' : List ℕ) (count' : ℕ)
        → j < end
        → Pushes (next_numbers m one (access_row_at rows j) left i j) numbers count numbers' count'
        → PassTo first word before n numbers' count' (left / 2) (j + 1)
    pass-more numbers' count' h p =
        let at : j + 0 ≡ j = omega arith in
        let told : (eqb (left % 2) 1 && no_path_to here j) ≡ races j =
        ap₂ (λ (x c : ℕ). eqb (x % 2) 1 && no_path_to here c) (sym (div-one left)) (sym at)
        ∙ bit-races 0 (omega arith)
        ∙ ap races at
        in
        let is : next_numbers m one (access_row_at rows j) left i j ≡ pair_numbers m fs rows i j =
        ap (λ (x : AccessRow). next_numbers m x (access_row_at rows j) left i j) f.rows_fit.row_is ∙ next-pair left j told
        in
        let q : Pushes (pair_numbers m fs rows i j) numbers count numbers' count' = subst (λ (l : List ℕ). Pushes l numbers count numbers' count') is p in
        let bits : j - first + 1 ≡ j + 1 - first = omega (arith, b.passed) in
        record {
          passed = omega (arith, b.passed);
          left_is = ap (λ (x : ℕ). x / 2) b.left_is ∙ shr-shr word (j - first) 1 ∙ ap (λ (k : ℕ). word / 2 ^ k) bits;
          few = omega (arith, b.few, q.counted, pair-few m fs rows i j);
          long = pushes-length q ∙ b.long;
          pushed =
              record {
                more = λ words k r. subst (λ (l : List ℕ). Pushes l words k numbers' count') (sym (row_more j)) (pushes-then (b.pushed.more words k r) q);
              };
        }

    -- no bit is left
    pub pass-stops : j ≤ end → left ≡ 0 → BlockPushed m fs rows i first end before n numbers count
    pass-stops h z =
        skipped end b.pushed h
        (λ l a. failed-pair (j + l) (sym (bit-races l a) ∙ ap (λ (x : ℕ). eqb (x / 2 ^ l % 2) 1 && no_path_to here (j + l)) z ∙ rw (zero-div)))

    pub pass-ends : j ≤ end → end ≤ j → BlockPushed m fs rows i first end before n numbers count
    pass-ends h l = let q : j ≡ end = omega arith in rw (sym q) b.pushed

  -- the blocks of a row
  pub blocks-none : (n : ℕ) (before : List ℕ) (count : ℕ) → i < n → Pushes (row_numbers m fs rows i (min (32 * (i / 32)) n)) before count before count
  blocks-none n before count h =
      let from : 0 + 32 * (i / 32) ≡ min (32 * (i / 32)) n = omega arith in
      let none_yet : [] ≡ row_numbers m fs rows i 0 = unfold row_numbers in refl in
      let empty : [] ≡ row_numbers m fs rows i (min (32 * (i / 32)) n) =
      none_yet
      ∙ row-skipped 0 (32 * (i / 32)) (λ l a. before-pair (0 + l) (omega arith))
      ∙ ap (row_numbers m fs rows i) from
      in
      subst (λ (l : List ℕ). Pushes l before count before count) empty (pushes-none before count)

  module _ (n : ℕ) (before : List ℕ) (c₀ : ℕ) (numbers : List ℕ) (count block : ℕ)
      (p : Pushes (row_numbers m fs rows i (min (32 * block) n)) before c₀ numbers count) where
    pub block-fits :
        TablesFit m rows n
        → i < n
        → c₀ ≤ 1048576
        → 32 * block < n
        → {one : AccessRow} {end : ℕ}
        → one ≡ access_row_at rows i
        → end ≡ min (32 * block + 32) n
        → BlockFits m rows one i (32 * block) end count
    block-fits t h few l {one} {end} e q =
        record {
          rows_fit =
              record {
                tables = fewer-rows t (omega arith);
                row = rw e (t.fit i h);
                row_is = e;
                below = omega (arith, t.few);
                ordered = omega arith;
                short = omega arith;
              };
          few = omega (arith, p.counted, row-few m fs rows i (min (32 * block) n));
        }

    pub block_in : TablesFit m rows n → 32 * block < n → BlockIn rows (32 * block)
    block_in t l = record { below = omega (arith, t.few); whole = t.rows_whole }

    pub blocks_more :
        32 * block < n
        → {end : ℕ} {numbers' : List ℕ} {count' : ℕ}
        → end ≡ min (32 * block + 32) n
        → BlockPushed m fs rows i (32 * block) end numbers count numbers' count'
        → Pushes (row_numbers m fs rows i (min (32 * (block + 1)) n)) before c₀ numbers' count'
    blocks_more h {end} {numbers'} {count'} q b =
        let at : min (32 * block) n ≡ 32 * block = omega arith in
        let there : end ≡ min (32 * (block + 1)) n = omega arith in
        subst (λ (k : ℕ). Pushes (row_numbers m fs rows i k) before c₀ numbers' count') there
        (b.more before c₀ (subst (λ (k : ℕ). Pushes (row_numbers m fs rows i k) before c₀ numbers count) at p))

    pub blocks-all : n ≤ 32 * block → Pushes (row_numbers m fs rows i n) before c₀ numbers count
    blocks-all h =
        let whole : min (32 * block) n ≡ n = omega arith in
        subst (λ (k : ℕ). Pushes (row_numbers m fs rows i k) before c₀ numbers count) whole p

-- all rows
module _ (m : List ℕ) (fs : List Fork) (rows : List ℕ) (n : ℕ) (before : List ℕ) where
  pub all_none : Pushes (all_numbers m fs rows n 0) before 0 before 0
  unfolding all_numbers
  all_none = pushes-none before 0

  module _ (i : ℕ) {numbers : List ℕ} {count : ℕ} (p : Pushes (all_numbers m fs rows n i) before 0 numbers count) where
    pub all-count : TablesFit m rows n → i ≤ n → count ≤ 1048576
    all-count t h = omega (arith, p.counted, all-few m fs rows n i t.few, t.few)

    pub all_more : {numbers' : List ℕ} {count' : ℕ} → Pushes (row_numbers m fs rows i n) numbers count numbers' count' → Pushes (all_numbers m fs rows n (i + 1)) before 0 numbers' count'
    all_more q = rw (add-one i) (unfold all_numbers in (pushes-then p q))

    pub all-all : i ≤ n → n ≤ i → Pushes (all_numbers m fs rows n n) before 0 numbers count
    all-all h l =
        let q : i ≡ n = omega arith in
        subst (λ (k : ℕ). Pushes (all_numbers m fs rows n k) before 0 numbers count) q p
