-- An access with 32 others at a time: those whose bit is not set in the word of tests do not race with it.
use Prim.Native.Nat.{ℕ, zero, suc, ◌+◌, ◌*◌, ◌-◌, ◌/◌, ◌%◌, ◌^◌, ◌≤◌, ◌<◌, min}
use mathlib.Core.Path.{◌≡◌, refl, sym, ◌∙◌, ap, ap₂}
use mathlib.Core.Bool.{Bool, true, false, cond, not, ◌&&◌, ◌||◌}
use mathlib.Core.List.{List}
use mathlib.Core.Option.{Option, none}
use native.Mathlib.Nat.{zero-div, div-one}
use native.Mathlib.Omega.{arith}
use lib.Bits.{bit_and, bit_or, and_block, and_le_l, and_le_r, or_add_and}
use lib.Dec.{eqb}
use lib.Pow.{shr-shr}
use borrow.Author.Count.{below_more}
use borrow.Author.Tests.{eqb-true, eq-eqb}
use Rattle.std.specs.declared.option.Option as Rust
use Rattle.bundle.specs.Locks.{common_lock}
use Rattle.bundle.specs.declared.index.Fork.{Fork}
use Rattle.bundle.proofs.Tests.{or-false, same_test, not-both, refuted, fails}
use Rattle.order.specs.Ranges.{shared_byte}
use Rattle.order.proofs.CommonLocks.{common-lock-elim, common-bits}
use Rattle.verdict.specs.Matrix.{bit_at, Within}
use Rattle.verdict.specs.Working.{access_row_at, RowIn}
use Rattle.verdict.specs.Tallying.{
  row_range,
  rows_meet,
  race_at_byte,
  kinds_clash,
  locks_apart,
  row_holder,
  counted_apart,
  rows_pass,
  unordered,
  rows_clash,
  clash_race,
  pair_race,
  tally_in,
  add_pair,
  tally_row,
  RowFits,
  TablesFit,
  NoneMeet,
  BlockIn,
  RowsFit,
  ClashWord,
  BlockFits,
  BlockTallied,
}
use Rattle.verdict.specs.declared.race.Race.{Race}
use Rattle.verdict.specs.declared.rows.AccessRow.{AccessRow}
use Rattle.verdict.specs.declared.pairs.Key.{Key}
use Rattle.verdict.specs.declared.pairs.Tally.{Tally}
use Rattle.verdict.specs.declared.pairs.Sum.{Sum}
use Rattle.verdict.proofs.LineageLaws.{own-common}
use Rattle.verdict.proofs.PairCases.{pair-count, row_more, row_count, fewer-rows}

-- the code's test of two halves of a lock set
no_bits : (a b : ℕ) → bit_or a b ≡ 0 → (a ≡ 0) × (b ≡ 0)
no_bits a b e = (
  omega (arith, or_add_and a b, and_le_r a b),
  omega (arith, or_add_and a b, and_le_l a b),
)

pub halves-apart :
    (locks low high : ℕ)
    → locks < 2 ^ 64
    → low < 4294967296
    → eqb (bit_or (bit_and (locks % 4294967296) low) (bit_and (locks / 4294967296) high)) 0 ≡ locks_apart locks (low + 4294967296 * high)
halves-apart locks low high h l =
    let b : ℕ = bit_and (locks % 4294967296) low in
    let a : ℕ = bit_and (locks / 4294967296) high in
    let mine : locks / 4294967296 * 4294967296 + locks % 4294967296 ≡ locks = omega arith in
    let other : high * 4294967296 + low ≡ low + 4294967296 * high = omega arith in
    let whole : bit_and locks (low + 4294967296 * high) ≡ a * 4294967296 + b =
    ap₂ bit_and (sym mine) (sym other) ∙ and_block 32 (locks / 4294967296) high (locks % 4294967296) low (omega arith) l
    in
    same_test (eqb (bit_or b a) 0) (eqb (a * 4294967296 + b) 0)
    (λ e. let z = no_bits b a (eqb-true (bit_or b a) 0 e) in eq-eqb (a * 4294967296 + b) 0 (omega (arith, z.0, z.1)))
    (λ e. let z = eqb-true (a * 4294967296 + b) 0 e in eq-eqb (bit_or b a) 0 (omega (arith, or_add_and b a)))
    ∙ ap (λ (n : ℕ). eqb n 0) (sym whole)
    ∙ sym (ap not (sym (common-bits locks (low + 4294967296 * high) h)) ∙ not-not (eqb (bit_and locks (low + 4294967296 * high)) 0))
  where
    not-not : (x : Bool) → not (not x) ≡ x
    not-not true = refl
    not-not false = refl

-- the code's test for a path one way, and then the other
module _ (m : List ℕ) (a b : ℕ) where
  told-one : {x : Bool} → x ≡ bit_at m a b → {y : Bool} → x ≡ y → unordered m a b ≡ (not y && not (bit_at m b a))
  told-one e h = ap (λ (z : Bool). not z && not (bit_at m b a)) (sym e ∙ h)

  pub path-one : {x : Bool} → x ≡ bit_at m a b → x ≡ true → false ≡ unordered m a b
  path-one e h = sym (told-one e h)

  pub path-other : {x : Bool} → x ≡ bit_at m a b → x ≡ false → {y : Bool} → y ≡ bit_at m b a → not y ≡ unordered m a b
  path-other e h f = ap not f ∙ sym (told-one e h)

-- the lowest bit is set
pub clash-odd :
    (m : List ℕ) (a left : ℕ) {r : Bool} {b d : ℕ}
    → (left % 2 ≡ 0 → ⊥)
    → r ≡ unordered m a b
    → b ≡ d
    → r ≡ (eqb (left % 2) 1 && unordered m a d)
clash-odd m a left {d = d} ne e q =
    let odd : left % 2 ≡ 1 = omega arith in
    e ∙ ap (unordered m a) q ∙ sym (ap (λ (x : Bool). x && unordered m a d) (eq-eqb (left % 2) 1 odd))

-- the tests in the code's order, and in that of the definition
module _ (m : List ℕ) (fs : List Fork) (one other : AccessRow) where
  abbrev no_path : Bool
  no_path = unordered m one.segment other.segment

  -- a lock that both hold counts for both
  own-apart : counted_apart fs one other ≡ true → locks_apart one.locks other.locks ≡ true
  own-apart h =
      fails (common_lock one.locks other.locks)
      (λ c.
      let l = common-lock-elim one.locks other.locks c in
      refuted (own-common fs (row_holder one) (row_holder other) l.0 l.1 l.2 l.3) h)

  counted-last : (b l k u a : Bool) → (a ≡ true → l ≡ true) → ((((b && (l && k)) && u) && a) && u) ≡ (b && (k && a && u))
  counted-last true true true true true h = refl
  counted-last true true true true false h = refl
  counted-last true true true false true h = refl
  counted-last true true true false false h = refl
  counted-last true true false u true h = refl
  counted-last true true false u false h = refl
  counted-last true false k u true h = not-both (h refl) refl
  counted-last true false true u false h = refl
  counted-last true false false u false h = refl
  counted-last false l k u a h = refl

  -- all locks that count looked at last
  pub pass-counted : (((rows_pass one other && no_path) && counted_apart fs one other) && no_path) ≡ (rows_meet one other && rows_clash m fs one other)
  unfolding rows_pass rows_clash
  pass-counted =
      counted-last (rows_meet one other) (locks_apart one.locks other.locks) (kinds_clash one.kind other.kind) no_path
      (counted_apart fs one other) own-apart

  -- or the own locks, where no others count
  own-only : (b l k u : Bool) → ((b && (l && k)) && u) ≡ (b && (k && l && u))
  own-only true true true u = refl
  own-only true true false u = refl
  own-only true false true u = refl
  own-only true false false u = refl
  own-only false l k u = refl

  pub pass-own :
      counted_apart fs one other ≡ locks_apart one.locks other.locks
      → (rows_pass one other && no_path) ≡ (rows_meet one other && rows_clash m fs one other)
  unfolding rows_pass rows_clash
  pass-own e =
      own-only (rows_meet one other) (locks_apart one.locks other.locks) (kinds_clash one.kind other.kind) no_path
      ∙ ap (λ (l : Bool). rows_meet one other && (kinds_clash one.kind other.kind && l && no_path)) (sym e)

  -- no race
  pub apart_none : rows_meet one other ≡ false → pair_race m fs one other ≡ none
  unfolding pair_race
  apart_none e = rw e

  pub failed-none : (rows_meet one other && rows_clash m fs one other) ≡ false → pair_race m fs one other ≡ none
  unfolding pair_race clash_race
  failed-none e =
      let o : Option Race = race_at_byte one other (shared_byte (row_range one) (row_range other)) in
      both-tests (rows_meet one other) (rows_clash m fs one other) o ∙ ap (λ (x : Bool). cond x o none) e
    where
      both-tests : (x y : Bool) (o : Option Race) → cond x (cond y o none) none ≡ cond (x && y) o none
      both-tests true y o = refl
      both-tests false y o = refl

-- what is asked for the j-th access of a block
module _ {m rows : List ℕ} {one : AccessRow} {i first end j : ℕ} (f : RowsFit m rows one i first end) (h : j < end) where
  pub block-row-in : RowIn rows j
  block-row-in = record { below = omega (arith, f.tables.few); whole = f.tables.rows_whole }

  pub block_within : Within m one.segment (access_row_at rows j).segment
  block_within = record { whole = f.tables.whole; row = f.row.segment; column = (f.tables.fit j h).segment }

module _ (m : List ℕ) (fs : List Fork) (rows : List ℕ) (key : Rust.Option Key) (one : AccessRow) where
  -- rows that do not race change nothing
  rows-skipped :
      (t : Tally) (j k : ℕ)
      → ((l : ℕ) → l < k → pair_race m fs one (access_row_at rows (j + l)) ≡ none)
      → tally_row m fs rows key one t j ≡ tally_row m fs rows key one t (j + k)
  rows-skipped t j zero h = let same : j ≡ j + 0 = omega arith in ap (tally_row m fs rows key one t) same
  rows-skipped t j (suc k) h =
      let next : j + k + 1 ≡ j + suc k = omega arith in
      rows-skipped t j k (λ l a. h l (omega arith))
      ∙ row_more m fs rows key one t (j + k) refl (unfold add_pair in (sym (ap (add_pair key (tally_row m fs rows key one t (j + k))) (h k (omega arith)))))
      ∙ ap (tally_row m fs rows key one t) next

  skipped :
      {first j end : ℕ} {s u : Tally}
      → BlockTallied m fs rows key one first j s u
      → j ≤ end
      → ((l : ℕ) → j + l < end → pair_race m fs one (access_row_at rows (j + l)) ≡ none)
      → BlockTallied m fs rows key one first end s u
  skipped {first} {j} {end} b h none-race =
      record {
        more = λ t e.
            let whole : j + (end - j) ≡ end = omega arith in
            b.more t e
            ∙ rows-skipped t j (end - j) (λ l a. none-race l (omega arith))
            ∙ ap (tally_row m fs rows key one t) whole;
      }

  pub none-met : {first end : ℕ} {s : Tally} → first ≤ end → end ≤ first + 32 → NoneMeet one rows first 32 → BlockTallied m fs rows key one first end s s
  none-met {first} h short n =
      skipped (record { more = λ t e. e }) h (λ l a. apart_none m fs one (access_row_at rows (first + l)) (n.apart l (omega arith)))

  -- what the loop over a block has done so far
  pub record BlockTo (first word : ℕ) (before sum : Sum) (left j : ℕ) : Type 0 where
    pub passed : first ≤ j
    pub left_is : left ≡ word / 2 ^ (j - first)
    pub few : sum.count + first ≤ before.count + j
    pub tallied : BlockTallied m fs rows key one first j (tally_in rows before) (tally_in rows sum)

  pub block_none : (first word : ℕ) (s : Sum) → BlockTo first word s s word first
  block_none first word s =
      let no_bits : first - first ≡ 0 = omega arith in
      record {
        passed = omega arith;
        left_is = sym (ap (λ (k : ℕ). word / 2 ^ k) no_bits ∙ div-one word);
        few = omega arith;
        tallied = record { more = λ t e. e };
      }

  module _ {first word : ℕ} {before sum : Sum} {left j : ℕ} (b : BlockTo first word before sum left j) where
    pub block_more :
        (sum' : Sum)
        → tally_in rows sum' ≡ add_pair key (tally_in rows sum) (pair_race m fs one (access_row_at rows j))
        → BlockTo first word before sum' (left / 2) (j + 1)
    block_more sum' e =
        let bits : j - first + 1 ≡ j + 1 - first = omega (arith, b.passed) in
        let count : sum'.count ≡ (add_pair key (tally_in rows sum) (pair_race m fs one (access_row_at rows j))).count = ap (λ (t : Tally). t.count) e in
        record {
          passed = omega (arith, b.passed);
          left_is =
              ap (λ (n : ℕ). n / 2) b.left_is
              ∙ shr-shr word (j - first) 1
              ∙ ap (λ (k : ℕ). word / 2 ^ k) bits;
          few = omega (arith, b.few, pair-count key (tally_in rows sum) (pair_race m fs one (access_row_at rows j)));
          tallied = record { more = λ t q. row_more m fs rows key one t j (b.tallied.more t q) e };
        }

    module _ {end : ℕ} (clashes : ClashWord m fs rows one first end word) where
      abbrev races : ℕ → Bool
      races c = rows_meet one (access_row_at rows c) && rows_clash m fs one (access_row_at rows c)

      abbrev no_path_to : ℕ → Bool
      no_path_to c = unordered m one.segment (access_row_at rows c).segment

      bit-races : (k : ℕ) → j + k < end → (eqb (left / 2 ^ k % 2) 1 && no_path_to (j + k)) ≡ races (j + k)
      bit-races k h =
          let place : first + (j - first + k) ≡ j + k = omega (arith, b.passed) in
          ap₂ (λ (n c : ℕ). eqb (n % 2) 1 && no_path_to c) (ap (λ (n : ℕ). n / 2 ^ k) b.left_is ∙ shr-shr word (j - first) k) (sym place)
          ∙ clashes.told (j - first + k) (omega (arith, b.passed))
          ∙ ap races place

      -- the lowest bit that is left is that of the j-th access
      pub clash-told : {c : Bool} → j < end → c ≡ (eqb (left % 2) 1 && no_path_to j) → c ≡ races j
      clash-told h e =
          let here : j + 0 ≡ j = omega arith in
          e
          ∙ ap₂ (λ (n c : ℕ). eqb (n % 2) 1 && no_path_to c) (sym (div-one left)) (sym here)
          ∙ bit-races 0 (omega arith)
          ∙ ap races here

      -- no bit is left
      pub block-stops : j ≤ end → left ≡ 0 → BlockTallied m fs rows key one first end (tally_in rows before) (tally_in rows sum)
      block-stops h z =
          skipped b.tallied h
          (λ l a.
          failed-none m fs one (access_row_at rows (j + l))
          (sym (bit-races l a) ∙ ap (λ (n : ℕ). eqb (n / 2 ^ l % 2) 1 && no_path_to (j + l)) z ∙ rw (zero-div)))

    pub block-ends : (end : ℕ) → j ≤ end → end ≤ j → BlockTallied m fs rows key one first end (tally_in rows before) (tally_in rows sum)
    block-ends end h l = let q : j ≡ end = omega arith in rw (sym q) b.tallied

    -- what is asked for the j-th access
    module _ {i end : ℕ} (f : BlockFits m rows one i first end before.count) (h : j < end) where
      pub row-in : RowIn rows j
      row-in = block-row-in f.rows_fit h

      pub row_within : Within m one.segment (access_row_at rows j).segment
      row_within = block_within f.rows_fit h

      pub rows_fit :
          {other : AccessRow} → other ≡ access_row_at rows j → RowFits one × RowFits other × (i < 1024) × (j < 1024) × (sum.count < 4294967295)
      rows_fit e =
          let r = f.rows_fit in
          (r.row, rw e (r.tables.fit j h), r.below, omega (arith, r.tables.few), omega (arith, f.few, b.few))

  -- the blocks of a row
  pub blocks-none : (t : Tally) (i : ℕ) → t ≡ tally_row m fs rows key one t (min (32 * 0) i)
  blocks-none t i =
      let none_yet : min (32 * 0) i ≡ 0 = omega arith in
      sym (ap (tally_row m fs rows key one t) none_yet ∙ (unfold tally_row in refl))

  module _ (t : Tally) (i : ℕ) (sum : Sum) (block : ℕ) (e : tally_in rows sum ≡ tally_row m fs rows key one t (min (32 * block) i)) where
    pub block-fits :
        TablesFit m rows (i + 1)
        → one ≡ access_row_at rows i
        → t.count + i ≤ 4294967295
        → 32 * block < i
        → {end : ℕ}
        → end ≡ min (32 * block + 32) i
        → BlockFits m rows one i (32 * block) end sum.count
    block-fits g o few h q =
        let count : sum.count ≡ (tally_row m fs rows key one t (min (32 * block) i)).count = ap (λ (x : Tally). x.count) e in
        record {
          rows_fit =
              record {
                tables = fewer-rows g (omega arith);
                row = rw o (g.fit i (omega arith));
                row_is = o;
                below = omega (arith, g.few);
                ordered = omega arith;
                short = omega arith;
              };
          few = omega (arith, row_count m fs rows key one t (min (32 * block) i));
        }

    pub block_in : TablesFit m rows (i + 1) → 32 * block < i → BlockIn rows (32 * block)
    block_in g h = record { below = omega (arith, g.few); whole = g.rows_whole }

    pub blocks_more :
        32 * block < i
        → {end : ℕ} (sum' : Sum)
        → end ≡ min (32 * block + 32) i
        → BlockTallied m fs rows key one (32 * block) end (tally_in rows sum) (tally_in rows sum')
        → tally_in rows sum' ≡ tally_row m fs rows key one t (min (32 * (block + 1)) i)
    blocks_more h sum' q b =
        let here : min (32 * block) i ≡ 32 * block = omega arith in
        let there : min (32 * block + 32) i ≡ min (32 * (block + 1)) i = omega arith in
        b.more t (e ∙ ap (tally_row m fs rows key one t) here) ∙ ap (tally_row m fs rows key one t) (q ∙ there)

    pub blocks-all : i ≤ 32 * block → {r : AccessRow} → one ≡ r → tally_in rows sum ≡ tally_row m fs rows key r t i
    blocks-all h o =
        let whole : min (32 * block) i ≡ i = omega arith in
        e ∙ ap₂ (λ (x : AccessRow) (k : ℕ). tally_row m fs rows key x t k) o whole

-- the bounds of some of the accesses of a block
module _ (one : AccessRow) (rows : List ℕ) (first : ℕ) where
  pub meet-none : NoneMeet one rows first 0
  meet-none = record { apart = λ l h. absurd (omega arith) }

  pub meet-more :
      (k : ℕ) (some t : Bool)
      → (some ≡ false → NoneMeet one rows first k)
      → t ≡ rows_meet one (access_row_at rows (first + k))
      → (some || t) ≡ false
      → NoneMeet one rows first (k + 1)
  meet-more k some t n e h =
      let f = or-false some t h in
      record { apart = below_more (λ (l : ℕ). rows_meet one (access_row_at rows (first + l)) ≡ false) k (n f.0).apart (sym e ∙ f.1) }

  pub meet_all : {k : ℕ} → 32 ≤ k → NoneMeet one rows first k → NoneMeet one rows first 32
  meet_all h n = record { apart = λ l a. n.apart l (omega arith) }
