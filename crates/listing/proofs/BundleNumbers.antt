-- The numbers of a bundle's races, and that they read back as the races.
use Prim.Native.Nat.{ℕ, ◌+◌, ◌*◌, ◌/◌, ◌%◌, ◌≤◌, ◌<◌}
use mathlib.Core.Path.{◌≡◌, refl, sym, ◌∙◌, ap, ap₂}
use mathlib.Core.Bool.{Bool, true, false, cond, ◌&&◌}
use mathlib.Core.List.Memᴰ
use mathlib.Core.List.Permᴰ
use mathlib.Core.List.{List, [], ◌∷◌, ◌++◌, map, Memᴰ}
use mathlib.Core.Option.{none, some}
use native.Mathlib.Omega.{arith}
use lib.ListN.{length, get_or, length-map}
use Rattle.sorting.specs.Order.{sorted}
use Rattle.sorting.proofs.Insertion.{sorted-perm, sorted-ascending, sorted-length}
use Rattle.bundle.specs.Commands.{range_ok}
use Rattle.bundle.specs.Chunks.{Chunk}
use Rattle.bundle.specs.Walk.{forks_of}
use Rattle.bundle.specs.Index.{table}
use Rattle.bundle.specs.declared.index.Fork.{Fork}
use Rattle.bundle.proofs.ListLaws.{perm-mem, perm-map, Distinct}
use Rattle.bundle.proofs.Keys.{perm-distinct}
use Rattle.bundle.proofs.Places.{member_key}
use Rattle.bundle.proofs.Tables.{table-length}
use Rattle.order.specs.Ranges.{shared_byte}
use Rattle.order.proofs.SharedByte.{shared-some}
use Rattle.order.proofs.PairBytes.{touch-fits}
use Rattle.verdict.specs.Graph.{segments_of, closure_of}
use Rattle.verdict.specs.Races.{accesses_of, races_among, races_of}
use Rattle.verdict.specs.Matrix.{PathBits}
use Rattle.verdict.specs.Working.{access_row_at, AccessTable}
use Rattle.verdict.specs.Tallying.{packed, NameFits, name_in, row_name, row_range, rows_meet, rows_clash, row_element, race_from, RowFits}
use Rattle.verdict.specs.declared.rows.AccessRow.{AccessRow}
use Rattle.verdict.specs.declared.race.Race.{Race}
use Rattle.verdict.proofs.Sorting.{order-intro, order-elim, ascending-unique}
use Rattle.verdict.proofs.AccessNames.{accesses-distinct}
use Rattle.verdict.proofs.RaceList.{races-ascending}
use Rattle.verdict.proofs.PackedNames.{side-packed}
use Rattle.listing.specs.Listing.{double_words, names_of, rank_in, numbers_of, number_for, race_number, name_of, site_of, element_in, race_in}
use Rattle.listing.specs.Ranking.{order_of, Copied, side_of_row, spot_of_row, double_at, word_of}
use Rattle.listing.specs.Pushing.{race_byte, all_numbers}
use Rattle.listing.proofs.RankLaws.{get_d-left}
use Rattle.listing.proofs.OrderLaws.{table_at}
use Rattle.listing.proofs.NumberLists.{Numbers, ranks_of, number-witness, number-first, number-second, numbers-elim, numbers-intro, numbers-distinct}
use Rattle.listing.proofs.RaceNumbers.{race_of_number, race-of-parts, number-race, race-number, numbers-ascend}
use Rattle.listing.proofs.NameTables.{even-word, odd-word, site-small, size_small, stride-small, row_fits, doubles-table, words-table, rank-found}

-- a map that changes no element
map-kept : {A : Type 0} (f : ℕ → A) (g : A → ℕ) (ks : List ℕ) → ((k : ℕ) → Memᴰ k ks → g (f k) ≡ k) → map g (map f ks) ≡ ks
map-kept f g [] h = refl
map-kept f g (k ∷ ks) h = ap₂ (λ (x : ℕ) (l : List ℕ). x ∷ l) (h k (Memᴰ.head refl)) (map-kept f g ks (λ x l. h x (Memᴰ.tail l)))

map-agree : {A : Type 0} (f g : ℕ → A) (ks : List ℕ) → ((k : ℕ) → Memᴰ k ks → f k ≡ g k) → map f ks ≡ map g ks
map-agree f g [] h = refl
map-agree f g (k ∷ ks) h = ap₂ (λ x l. x ∷ l) (h k (Memᴰ.head refl)) (map-agree f g ks (λ x l. h x (Memᴰ.tail l)))

-- the byte of a race fits 32 bits
byte_small :
    (m : List ℕ) (fs : List Fork) (one other : AccessRow) {w : ℕ} → range_ok (row_range one) ≡ true → race_byte m fs one other ≡ some w → w < 4294967296
unfolding race_byte
byte_small m fs one other {w} ok e = go (rows_meet one other && rows_clash m fs one other) e
  where
    go : (t : Bool) → cond t (shared_byte (row_range one) (row_range other)) none ≡ some w → w < 4294967296
    go true q = touch-fits (row_range one) w ok (shared-some (row_range one) (row_range other) w q).one
    go false q = absurd (let z : ◌≡◌ {A = ℕ} 0 1 = cc in omega arith)

-- what stands in two words of 64 bits
side-parts : (p z t : ℕ) → z < 256 → t < 65536 → (p * 16777216 + z * 65536 + t) / 256 ≡ p * 65536 + (z * 256 + t / 256)
side-parts p z t hz ht = omega arith

side-size : (p z t : ℕ) → z < 256 → t < 65536 → (p * 16777216 + z * 65536 + t) / 65536 % 256 ≡ z
side-size p z t hz ht = omega arith

side-stride : (p z t : ℕ) → t < 65536 → (p * 16777216 + z * 65536 + t) % 65536 ≡ t
side-stride p z t ht = omega arith

spot_base : (b s : ℕ) → s < 4294967296 → (b * 4294967296 + s) / 4294967296 ≡ b
spot_base b s h = omega arith

spot-site : (b s : ℕ) → s < 4294967296 → (b * 4294967296 + s) % 4294967296 ≡ s
spot-site b s h = omega arith

-- and in those of a row
module _ (r : AccessRow) (fits : NameFits (row_name r)) (z : r.size < 256) (t : r.stride < 65536) (s : r.site < 4294967296) where
  name-held : name_of (side_of_row r) ≡ row_name r
  name-held =
      ap name_in (side-parts (packed (row_name r)) r.size r.stride z t)
      ∙ (side-packed (record { is = refl; fits = fits }) (omega arith)).name_in

  site-held : site_of (spot_of_row r) ≡ r.site
  site-held = spot-site r.base r.site s

  element-held : (w : ℕ) → element_in (side_of_row r) (spot_of_row r) w ≡ row_element r w
  element-held w =
      rw (
        spot_base r.base r.site s,
        side-size (packed (row_name r)) r.size r.stride z t,
        side-stride (packed (row_name r)) r.size r.stride t,
      )

module _
    (cs : List Chunk) (members : Distinct (map member_key cs))
    {m rows : List ℕ} (paths : PathBits (segments_of cs) m) (tab : AccessTable (segments_of cs) (accesses_of cs) rows)
    (small : (i : ℕ) → get_or rows i 0 < 4294967296)
    (n : ℕ) (all : n ≡ length (accesses_of cs))
    {before ordered : List ℕ} (copied : Copied rows (order_of rows n) n before ordered) where
  few : n ≤ 1024
  few = omega (arith, tab.few)

  doubles-are : table (double_at ordered) n ≡ double_words cs
  unfolding double_words
  doubles-are = doubles-table tab (accesses-distinct cs members) small n all copied

  pub names_are : table (word_of ordered) (2 * n) ≡ names_of cs
  unfolding names_of double_words
  names_are = words-table tab (accesses-distinct cs members) small n all copied

  abbrev numbers : List ℕ
  numbers = sorted (all_numbers m (forks_of cs) ordered n n)

  abbrev race : ℕ → Race
  race k = race_of_number paths (forks_of cs) tab (accesses-distinct cs members) small n all copied k

  number_of : (k : ℕ) → Memᴰ k numbers → Numbers m (forks_of cs) ordered n k
  number_of k l = numbers-elim m (forks_of cs) ordered n (perm-mem (Permᴰ.symm (sorted-perm (all_numbers m (forks_of cs) ordered n n))) l)

  number_in : {r : Race} → Memᴰ r (map race numbers) → Memᴰ r (races_of cs)
  unfolding races_of
  number_in l =
      let u = Memᴰ.of_map race numbers l in
      Memᴰ.cast (sym u.2)
      (order-intro (races_among (closure_of (segments_of cs)) (forks_of cs) (accesses_of cs)) (number-race paths (forks_of cs) tab (accesses-distinct cs members) small n all copied (number_of u.0 u.1)))

  in-number : {r : Race} → Memᴰ r (races_of cs) → Memᴰ r (map race numbers)
  unfolding races_of
  in-number l =
      let u =
      race-number paths (forks_of cs) tab (accesses-distinct cs members) small n all copied (order-elim (races_among (closure_of (segments_of cs)) (forks_of cs) (accesses_of cs)) l)
      in
      Memᴰ.cast (sym u.2) (Memᴰ.map race (perm-mem (sorted-perm (all_numbers m (forks_of cs) ordered n n)) (numbers-intro m (forks_of cs) ordered n u.1)))

  -- the races that the sorted numbers stand for are the bundle's, in their order
  pub races-listed : map race numbers ≡ races_of cs
  races-listed =
      ascending-unique
      (numbers-ascend paths (forks_of cs) tab (accesses-distinct cs members) small n all copied numbers (sorted-ascending (all_numbers m (forks_of cs) ordered n n))
      (perm-distinct (perm-map ranks_of (sorted-perm (all_numbers m (forks_of cs) ordered n n))) (numbers-distinct m (forks_of cs) ordered n few))
      number_of)
      (races-ascending cs members)
      (λ r l. number_in l)
      (λ r l. in-number l)

  pub races-counted : length (all_numbers m (forks_of cs) ordered n n) ≡ length (races_of cs)
  races-counted = sym (sorted-length (all_numbers m (forks_of cs) ordered n n)) ∙ sym (length-map numbers race) ∙ ap length races-listed

  -- the number of the race that a number stands for
  number-kept : (k : ℕ) → Memᴰ k numbers → race_number (double_words cs) (race k) ≡ k
  unfolding race_number
  number-kept k l =
      let r = number_of k l in
      let i = r.one in
      let j = r.other in
      let w = r.witness in
      let h = r.behind in
      let b = r.below in
      let is : race k ≡ race_from (access_row_at ordered i) (access_row_at ordered j) w =
      ap race r.is ∙ race-of-parts paths (forks_of cs) tab (accesses-distinct cs members) small n all copied w i j (omega (arith, few)) (omega (arith, few))
      in
      let found : (q : ℕ) → q < n → rank_in (double_words cs) (row_name (access_row_at ordered q)) ≡ q =
      λ q c. ap (λ (doubles : List ℕ). rank_in doubles (row_name (access_row_at ordered q))) (sym doubles-are) ∙ rank-found tab (accesses-distinct cs members) small n all copied q c
      in
      ap (λ (x : Race). number_for x.witness (rank_in (double_words cs) x.first) (rank_in (double_words cs) x.second)) is
      ∙ ap₂ (λ (a c : ℕ). number_for w a c) (found i (omega arith)) (found j b)
      ∙ sym r.is

  pub numbers_are : numbers ≡ numbers_of cs
  unfolding numbers_of
  numbers_are = sym (map-kept race (race_number (double_words cs)) numbers number-kept) ∙ ap (map (race_number (double_words cs))) races-listed

  -- the numbers read back as the races, from the names in front of whatever follows them
  module _ (fits : (i : ℕ) → i < n → RowFits (access_row_at ordered i)) (rest : List ℕ) where
    abbrev held : List ℕ
    held = table (word_of ordered) (2 * n) ++ rest

    word_read : (i : ℕ) → i < 2 * n → get_or held i 0 ≡ word_of ordered i
    word_read i h =
        get_d-left (table (word_of ordered) (2 * n)) rest i (omega (arith, table-length (word_of ordered) (2 * n)))
        ∙ table_at (word_of ordered) (2 * n) i h

    -- the two words at a rank read as the row
    record Read (row : AccessRow) (side spot : ℕ) : Type 0 where
      pub name : name_of side ≡ row_name row
      pub site : site_of spot ≡ row.site
      pub element : (w : ℕ) → element_in side spot w ≡ row_element row w

    row_read : (i : ℕ) → i < n → Read (access_row_at ordered i) (get_or held (2 * i) 0) (get_or held (2 * i + 1) 0)
    row_read i h =
        let row = access_row_at ordered i in
        let side : get_or held (2 * i) 0 ≡ side_of_row row = word_read (2 * i) (omega arith) ∙ even-word ordered i in
        let spot : get_or held (2 * i + 1) 0 ≡ spot_of_row row = word_read (2 * i + 1) (omega arith) ∙ odd-word ordered i in
        let fits = row_fits tab (accesses-distinct cs members) small n all copied i h in
        let size = size_small tab (accesses-distinct cs members) small n all copied ordered i in
        let stride = stride-small tab (accesses-distinct cs members) small n all copied ordered i in
        let site = site-small tab (accesses-distinct cs members) small n all copied i h in
        rw (side, spot)
        (record {
          name = name-held row fits size stride site;
          site = site-held row fits size stride site;
          element = element-held row fits size stride site;
        })

    number_read : (k : ℕ) → Memᴰ k numbers → race_in held k ≡ race k
    unfolding race_in
    number_read k l =
        let r = number_of k l in
        let i = r.one in
        let j = r.other in
        let w = r.witness in
        let h = r.behind in
        let b = r.below in
        let c : i < n = omega arith in
        let one : k / 1024 % 1024 ≡ i = ap (λ (x : ℕ). x / 1024 % 1024) r.is ∙ number-first w i j (omega (arith, few)) (omega (arith, few)) in
        let other : k % 1024 ≡ j = ap (λ (x : ℕ). x % 1024) r.is ∙ number-second w i j (omega (arith, few)) in
        let top : k / 1048576 ≡ w = ap (λ (x : ℕ). x / 1048576) r.is ∙ number-witness w i j (omega (arith, few)) (omega (arith, few)) in
        let low : w < 4294967296 = byte_small m (forks_of cs) (access_row_at ordered i) (access_row_at ordered j) (fits i c).range r.byte in
        let witness : k / 1048576 % 4294967296 ≡ w = ap (λ (x : ℕ). x % 4294967296) top ∙ small-rest w low in
        let first : Read (access_row_at ordered i) (get_or held (2 * (k / 1024 % 1024)) 0) (get_or held (2 * (k / 1024 % 1024) + 1) 0) = rw one (row_read i c) in
        let second : Read (access_row_at ordered j) (get_or held (2 * (k % 1024)) 0) (get_or held (2 * (k % 1024) + 1) 0) = rw other (row_read j b) in
        (λ q.
        record {
          witness = witness q;
          first = first.name q;
          first_site = first.site q;
          first_element = (ap (element_in _ _) witness ∙ first.element w) q;
          second = second.name q;
          second_site = second.site q;
          second_element = (ap (element_in _ _) witness ∙ second.element w) q;
        })
        ∙ sym (ap race r.is ∙ race-of-parts paths (forks_of cs) tab (accesses-distinct cs members) small n all copied w i j (omega (arith, few)) (omega (arith, few)))
      where
        small-rest : (x : ℕ) → x < 4294967296 → x % 4294967296 ≡ x
        small-rest x h = omega arith

    pub reads-back : map (race_in held) numbers ≡ races_of cs
    reads-back = map-agree (race_in held) race numbers number_read ∙ races-listed
