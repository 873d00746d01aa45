-- The words of the accesses in the order of names, and the rank of each.
use Prim.Native.Nat.{ℕ, zero, suc, ◌+◌, ◌*◌, ◌/◌, ◌%◌, ◌≤◌, ◌<◌}
use mathlib.Core.Path.{◌≡◌, refl, sym, ◌∙◌, ap, ap₂, subst}
use mathlib.Core.Bool.{cond}
use mathlib.Core.List.{List, [], ◌∷◌, ◌++◌, map, map-append, append_assoc, Permᴰ}
use mathlib.Core.Option.{some}
use native.Mathlib.Omega.{arith}
use lib.Dec.{eqb}
use lib.ListN.{length, get_or, get_elem?, length-map}
use lib.Seq.{ext_get_or}
use Rattle.sorting.specs.Order.{sorted, Ascending, AtLeast}
use Rattle.sorting.proofs.Insertion.{at_all, sorted-perm, sorted-already}
use Rattle.sorting.proofs.KeyOrder.{index-first}
use Rattle.bundle.specs.Lists.{concat_map}
use Rattle.bundle.specs.Walk.{Segment}
use Rattle.bundle.specs.declared.command.Range.{Range}
use Rattle.bundle.specs.Index.{table}
use Rattle.bundle.proofs.ListLaws.{perm-map, concat_map-append, Distinct}
use Rattle.bundle.proofs.Tables.{table_more, table_none, table-length, table_same}
use Rattle.verdict.specs.Races.{NamedAccess}
use Rattle.verdict.specs.Working.{access_row_at, RowOf, AccessTable}
use Rattle.verdict.specs.Tallying.{packed, NameFits, row_name}
use Rattle.verdict.specs.declared.race.Name.{Name}
use Rattle.verdict.specs.declared.rows.AccessRow.{AccessRow}
use Rattle.verdict.proofs.AccessNames.{access_key}
use Rattle.verdict.proofs.ListPlaces.{below_at}
use Rattle.verdict.proofs.RowRaces.{row-range}
use Rattle.listing.specs.Listing.{double_word, rank_in}
use Rattle.listing.specs.Ranking.{name_word, order_of, Copied, side_of_row, spot_of_row, double_of_row, double_at, word_of}
use Rattle.listing.proofs.RankLaws.{order-length}
use Rattle.listing.proofs.OrderLaws.{sorted-same, table_at}
use Rattle.listing.proofs.RankedAccesses.{ranked, name_of, names-ascend}

-- a table mapped
map-table : {A B : Type 0} (g : A → B) (f : ℕ → A) (n : ℕ) → map g (table f n) ≡ table (λ i. g (f i)) n
map-table g f zero = ap (map g) (table_none f) ∙ sym (table_none (λ i. g (f i)))
map-table g f (suc n) =
    ap (map g) (table_more f n)
    ∙ map-append g (table f n) (f n ∷ [])
    ∙ ap (λ l. l ++ (g (f n) ∷ [])) (map-table g f n)
    ∙ sym (table_more (λ i. g (f i)) n)

-- an element of a list mapped
map_at : {A : Type 0} (f : A → ℕ) (xs : List A) (i : ℕ) {x : A} → get_elem? xs i ≡ some x → get_or (map f xs) i 0 ≡ f x
map_at f [] i e = absurd (let z : ◌≡◌ {A = ℕ} 0 1 = cc in omega arith)
map_at f (y ∷ ys) zero {x} e = let q : y ≡ x = cc in ap f q
map_at f (y ∷ ys) (suc i) e = map_at f ys i e

map-get_d : (f : ℕ → ℕ) (xs : List ℕ) (i : ℕ) → i < length xs → get_or (map f xs) i 0 ≡ f (get_or xs i 0)
map-get_d f [] i h = absurd (omega arith)
map-get_d f (x ∷ xs) zero h = refl
map-get_d f (x ∷ xs) (suc i) h = map-get_d f xs i (omega arith)

-- of the words of the rows, those with even numbers and with odd ones
pub even-word : (rows : List ℕ) (i : ℕ) → word_of rows (2 * i) ≡ side_of_row (access_row_at rows i)
even-word rows i =
    let rest : 2 * i % 2 ≡ 0 = omega arith in
    let half : 2 * i / 2 ≡ i = omega arith in
    ap₂ (λ (a b : ℕ). cond (eqb a 0) (side_of_row (access_row_at rows b)) (spot_of_row (access_row_at rows b))) rest half

pub odd-word : (rows : List ℕ) (i : ℕ) → word_of rows (2 * i + 1) ≡ spot_of_row (access_row_at rows i)
odd-word rows i =
    let rest : (2 * i + 1) % 2 ≡ 1 = omega arith in
    let half : (2 * i + 1) / 2 ≡ i = omega arith in
    ap₂ (λ (a b : ℕ). cond (eqb a 0) (side_of_row (access_row_at rows b)) (spot_of_row (access_row_at rows b))) rest half

-- two words for each element of a table
two-each :
    (split : ℕ → List ℕ) (f g : ℕ → ℕ) (n : ℕ)
    → ((i : ℕ) → i < n → split (f i) ≡ g (2 * i) ∷ g (2 * i + 1) ∷ [])
    → concat_map split (table f n) ≡ table g (2 * n)
two-each split f g zero h = ap (concat_map split) (table_none f) ∙ sym (table_none g)
two-each split f g (suc n) h =
    let twice : suc (suc (2 * n)) ≡ 2 * suc n = omega arith in
    let odd : 2 * n + 1 ≡ suc (2 * n) = omega arith in
    ap (concat_map split) (table_more f n)
    ∙ concat_map-append split (table f n) (f n ∷ [])
    ∙ ap₂ (λ (a b : List ℕ). a ++ (b ++ [])) (two-each split f g n (λ i l. h i (omega arith))) (h n (omega arith))
    ∙ ap (λ (k : ℕ). table g (2 * n) ++ (g (2 * n) ∷ g k ∷ [])) odd
    ∙ sym
    (ap (table g) (sym twice)
    ∙ table_more g (suc (2 * n))
    ∙ ap (λ (l : List ℕ). l ++ (g (suc (2 * n)) ∷ [])) (table_more g (2 * n))
    ∙ append_assoc (table g (2 * n)) (g (2 * n) ∷ []) (g (suc (2 * n)) ∷ []))

-- ascending by index
at-ascending : (xs : List ℕ) → ((i j : ℕ) → i < j → j < length xs → get_or xs i 0 ≤ get_or xs j 0) → Ascending xs
at-ascending [] f = tt
at-ascending (x ∷ xs) f =
    (at_all (AtLeast x) xs (λ i h. f 0 (suc i) (omega arith) (omega arith)), at-ascending xs (λ i j h l. f (suc i) (suc j) (omega arith) (omega arith)))

module _
    {ss : List Segment} {xs : List NamedAccess} {rows : List ℕ} (tab : AccessTable ss xs rows)
    (distinct : Distinct (map access_key xs)) (small : (i : ℕ) → get_or rows i 0 < 4294967296)
    (n : ℕ) (all : n ≡ length xs)
    {before ordered : List ℕ} (copied : Copied rows (order_of rows n) n before ordered) where
  few : n ≤ 1024
  few = omega (arith, tab.few)

  abbrev by_name : List ℕ
  by_name = table (double_at ordered) n

  pub row_fits : (i : ℕ) → i < n → NameFits (row_name (access_row_at ordered i))
  row_fits i h =
      let a = ranked tab distinct small n all copied i h in
      subst NameFits (sym (name_of tab distinct small n all copied a.row)) a.fits

  -- the parts of a row's words fit their widths, and so does the second word
  base-small : (i : ℕ) → i < n → (access_row_at ordered i).base < 4294967296
  unfolding access_row_at
  base-small i h = omega (arith, ap (λ (r : AccessRow). r.base) (copied.each i h), small (get_or (order_of rows n) i 0 % 1024))

  pub site-small : (i : ℕ) → i < n → (access_row_at ordered i).site < 4294967296
  unfolding access_row_at
  site-small i h = omega (arith, ap (λ (r : AccessRow). r.site) (copied.each i h), small (get_or (order_of rows n) i 0 % 1024 + 4096))

  pub stride-small : (words : List ℕ) (r : ℕ) → (access_row_at words r).stride < 65536
  unfolding access_row_at
  stride-small words r = omega arith

  pub size_small : (words : List ℕ) (r : ℕ) → (access_row_at words r).size < 256
  unfolding access_row_at
  size_small words r = omega arith

  spot-small : (i : ℕ) → i < n → spot_of_row (access_row_at ordered i) < 18446744073709551616
  spot-small i h = omega (arith, base-small i h, site-small i h)

  names-up : (i j : ℕ) → i < j → j < n → packed (row_name (access_row_at ordered i)) < packed (row_name (access_row_at ordered j))
  names-up i j h l =
      let a = ranked tab distinct small n all copied i (omega arith) in
      let b = ranked tab distinct small n all copied j l in
      let p : packed (row_name (access_row_at ordered i)) ≡ packed a.access.name = ap packed (name_of tab distinct small n all copied a.row) in
      let q : packed (row_name (access_row_at ordered j)) ≡ packed b.access.name = ap packed (name_of tab distinct small n all copied b.row) in
      omega (arith, names-ascend tab distinct small n all copied i j h l a b)

  doubles-ascend : Ascending by_name
  doubles-ascend =
      at-ascending by_name
      (λ i j h l.
      let k : j < n = omega (arith, table-length (double_at ordered) n) in
      let p = table_at (double_at ordered) n i (omega arith) in
      let q = table_at (double_at ordered) n j k in
      omega (arith, names-up i j h k, size_small ordered i, stride-small ordered i, spot-small i (omega arith)))

  -- the double word of a row is that of its access
  double-of : {x : NamedAccess} {r : AccessRow} → RowOf ss x r → double_of_row r ≡ double_word x
  double-of of =
      ap₂ (λ (a b : ℕ). a * 18446744073709551616 + b)
      (ap₂ (λ (a : Name) (r : Range). packed a * 16777216 + r.size * 65536 + r.stride) (name_of tab distinct small n all copied of) (row-range of))
      (ap₂ (λ (r : Range) (s : ℕ). r.base * 4294967296 + s) (row-range of) of.site)

  -- the double words of the accesses as they stand in the bundle
  doubles-listed : map double_word xs ≡ table (double_at rows) n
  doubles-listed =
      ext_get_or 0 (map double_word xs) (table (double_at rows) n) (length-map xs double_word ∙ sym all ∙ sym (table-length (double_at rows) n))
      (λ i h. each i (omega (arith, length-map xs double_word)))
    where
      each : (i : ℕ) → i < n → get_or (map double_word xs) i 0 ≡ get_or (table (double_at rows) n) i 0
      each i h =
          let x = below_at xs i (omega arith) in
          let of = tab.rows i x.1 in
          map_at double_word xs i x.1
          ∙ sym (double-of of)
          ∙ sym (table_at (double_at rows) n i h)

  abbrev double_of_word : ℕ → ℕ
  double_of_word w = double_at rows (w % 1024)

  doubles-worded : table (double_at rows) n ≡ map double_of_word (table (name_word rows) n)
  doubles-worded =
      table_same (double_at rows) (λ i. double_of_word (name_word rows i)) n
      (λ i h. let e : i ≡ name_word rows i % 1024 = omega (arith, few) in ap (double_at rows) e)
      ∙ sym (map-table double_of_word (name_word rows) n)

  doubles-ordered : by_name ≡ map double_of_word (order_of rows n)
  doubles-ordered =
      ext_get_or 0 by_name (map double_of_word (order_of rows n))
      (table-length (double_at ordered) n ∙ sym (length-map (order_of rows n) double_of_word ∙ order-length rows n))
      (λ i h.
      let l : i < n = omega (arith, table-length (double_at ordered) n) in
      table_at (double_at ordered) n i l
      ∙ ap double_of_row (copied.each i l)
      ∙ sym (map-get_d double_of_word (order_of rows n) i (omega (arith, order-length rows n))))

  pub doubles-table : by_name ≡ sorted (map double_word xs)
  doubles-table =
      sym (sorted-already by_name doubles-ascend)
      ∙ ap sorted doubles-ordered
      ∙ sym (sorted-same (perm-map double_of_word worded))
      ∙ ap sorted (sym (doubles-listed ∙ doubles-worded))
    where
      worded : Permᴰ (table (name_word rows) n) (order_of rows n)
      worded = unfold order_of in (sorted-perm (table (name_word rows) n))

  -- the rank of the i-th name is i
  pub rank-found : (i : ℕ) → i < n → rank_in by_name (row_name (access_row_at ordered i)) ≡ i
  unfolding rank_in
  rank-found i h =
      sym
      (index-first key keys i (omega (arith, long)) (λ l. at i h)
      (λ k l e. omega (arith, names-up k i l h, at k (omega arith))))
    where
      front : ℕ → ℕ
      front double = double / 18446744073709551616 / 16777216

      key : ℕ
      key = packed (row_name (access_row_at ordered i))

      keys : List ℕ
      keys = map front by_name

      long : length keys ≡ n
      long = length-map by_name front ∙ table-length (double_at ordered) n

      at : (k : ℕ) → k < n → get_or keys k 0 ≡ packed (row_name (access_row_at ordered k))
      at k l =
          map-get_d front by_name k (omega (arith, table-length (double_at ordered) n))
          ∙ ap front (table_at (double_at ordered) n k l)
          ∙ front-is (packed (row_name (access_row_at ordered k))) (access_row_at ordered k).size (access_row_at ordered k).stride (spot_of_row (access_row_at ordered k)) (size_small ordered k) (stride-small ordered k) (spot-small k l)
        where
          front-is : (p z t r : ℕ) → z < 256 → t < 65536 → r < 18446744073709551616 → front ((p * 16777216 + z * 65536 + t) * 18446744073709551616 + r) ≡ p
          front-is p z t r b c d = omega arith

  -- the two words of each
  abbrev pub split : ℕ → List ℕ
  split double = double / 18446744073709551616 ∷ double % 18446744073709551616 ∷ []

  split-row : (i : ℕ) → i < n → split (double_at ordered i) ≡ word_of ordered (2 * i) ∷ word_of ordered (2 * i + 1) ∷ []
  split-row i h =
      let side : ℕ = side_of_row (access_row_at ordered i) in
      let spot : ℕ = spot_of_row (access_row_at ordered i) in
      let b = spot-small i h in
      ap₂ (λ (a c : ℕ). a ∷ c ∷ [])
      (high side spot b ∙ sym (even-word ordered i))
      (low side spot b ∙ sym (odd-word ordered i))
    where
      high : (s r : ℕ) → r < 18446744073709551616 → (s * 18446744073709551616 + r) / 18446744073709551616 ≡ s
      high s r b = omega arith

      low : (s r : ℕ) → r < 18446744073709551616 → (s * 18446744073709551616 + r) % 18446744073709551616 ≡ r
      low s r b = omega arith

  pub words-table : table (word_of ordered) (2 * n) ≡ concat_map split (sorted (map double_word xs))
  words-table = sym (ap (concat_map split) (sym doubles-table) ∙ two-each split (double_at ordered) (word_of ordered) n split-row)
