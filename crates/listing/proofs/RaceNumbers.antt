-- The sorted numbers of all pairs are those of the bundle's races.
use Prim.Native.Nat.{ℕ, ◌/◌, ◌%◌, ◌≤◌, ◌<◌}
use mathlib.Core.Path.{◌≡◌, refl, sym, ◌∙◌, ap, ap₂, subst}
use mathlib.Core.Logic.{◌⊎◌, inl, inr, ⊎_elim}
use mathlib.Core.Bool.{Bool, true, false, cond, ◌&&◌}
use mathlib.Core.List.{List, [], ◌∷◌, ◌++◌, map, Memᴰ}
use mathlib.Core.Option.{Option, none, some}
use native.Mathlib.Omega.{arith}
use native.Mathlib.Decide.{dec_lt}
use lib.Dec.{ltb}
use lib.ListN.{length, get_or}
use borrow.Author.Tests.{lt-ltb, eq-eqb}
use Rattle.sorting.specs.Order.{All, AtLeast}
use Rattle.sorting.specs.Order as Sorted
use Rattle.bundle.specs.Lists.{concat_map}
use Rattle.bundle.specs.Walk.{Segment}
use Rattle.bundle.specs.declared.index.Fork.{Fork}
use Rattle.bundle.proofs.Tests.{or-one, or-other, both}
use Rattle.bundle.proofs.ListLaws.{Distinct, distinct_head, distinct_tail, concat_map-elim, concat_map-intro}
use Rattle.order.specs.Ranges.{shared_byte}
use Rattle.verdict.specs.Graph.{closure_of}
use Rattle.verdict.specs.Races.{NamedAccess, name_key, name_below, race_key, race_below, lex_less, race_of, races_among}
use Rattle.verdict.specs.Demand.{Ascending}
use Rattle.verdict.specs.Matrix.{PathBits}
use Rattle.verdict.specs.Working.{access_row_at, AccessTable}
use Rattle.verdict.specs.Tallying.{packed, NameFits, row_name, row_range, rows_meet, rows_clash, race_from, race_between, race_at_byte, clash_race, pair_race}
use Rattle.verdict.specs.declared.race.Race.{Race}
use Rattle.verdict.specs.declared.rows.AccessRow.{AccessRow}
use Rattle.verdict.proofs.Lexical.{name_key-tells}
use Rattle.verdict.proofs.AccessNames.{access_key}
use Rattle.verdict.proofs.ListPlaces.{at_mem}
use Rattle.verdict.proofs.RaceList.{race_of-elim, clash-elim}
use Rattle.verdict.proofs.RowRaces.{listed, pair-races}
use Rattle.verdict.proofs.PackedNames.{packed_less, packed-key}
use Rattle.listing.specs.Listing.{number_for}
use Rattle.listing.specs.Ranking.{order_of, Copied}
use Rattle.listing.specs.Pushing.{race_byte}
use Rattle.listing.proofs.NumberLists.{Numbers, ranks_of, number-witness, number-first, number-second}
use Rattle.listing.proofs.RankedAccesses.{Ranked, ranked, RankOf, rank-of, name_of, names-ascend, below_of, of-below}

all-mem : (P : ℕ → Type 0) {x : ℕ} {xs : List ℕ} → All P xs → Memᴰ x xs → P x
all-mem P {x} {xs = []} a m = elim m [ ]
all-mem P {x} {xs = y ∷ ys} a (mathlib.Core.List.Memᴰ.head e) = subst P (sym e) a.0
all-mem P {x} {xs = y ∷ ys} a (mathlib.Core.List.Memᴰ.tail m) = all-mem P a.1 m

-- numbers are compared part by part
number-less :
    (w i j v k l : ℕ)
    → i < 1024
    → j < 1024
    → k < 1024
    → l < 1024
    → number_for w i j < number_for v k l
    → (w < v) ⊎ ((w ≡ v) × ((i < k) ⊎ ((i ≡ k) × (j < l))))
number-less w i j v k l a b c d h = go (dec_lt w v) (dec_lt i k)
  where
    go : Dec (w < v) → Dec (i < k) → (w < v) ⊎ ((w ≡ v) × ((i < k) ⊎ ((i ≡ k) × (j < l))))
    go (yes p) q = inl p
    go (no p) (yes q) = inr (omega arith, inl q)
    go (no p) (no q) = inr (omega arith, inr (omega arith, omega arith))

-- the race of two rows by its byte
pair-byte : (m : List ℕ) (fs : List Fork) (one other : AccessRow) → pair_race m fs one other ≡ race_at_byte one other (race_byte m fs one other)
unfolding pair_race clash_race race_byte
pair-byte m fs one other = go (rows_meet one other) (rows_clash m fs one other) (shared_byte (row_range one) (row_range other))
  where
    go : (a b : Bool) (o : Option ℕ) → cond a (cond b (race_at_byte one other o) none) none ≡ race_at_byte one other (cond (a && b) o none)
    go true true o = refl
    go true false o = refl
    go false b o = refl

lower-first : (one other : AccessRow) (w : ℕ) → name_below (row_name one) (row_name other) ≡ true → race_between one other w ≡ race_from one other w
unfolding race_between
lower-first one other w e = ap (λ (t : Bool). cond t (race_from one other w) (race_from other one w)) e

module _
    {ss : List Segment} {m : List ℕ} (paths : PathBits ss m) (fs : List Fork)
    {xs : List NamedAccess} {rows : List ℕ} (tab : AccessTable ss xs rows)
    (distinct : Distinct (map access_key xs)) (small : (i : ℕ) → get_or rows i 0 < 4294967296)
    (n : ℕ) (all : n ≡ length xs)
    {before ordered : List ℕ} (copied : Copied rows (order_of rows n) n before ordered) where
  abbrev Rank : ℕ → Type 0
  Rank r = Ranked tab distinct small n all copied r

  rank : (r : ℕ) → r < n → Rank r
  rank r h = ranked tab distinct small n all copied r h

  few : n ≤ 1024
  few = omega (arith, tab.few)

  abbrev row : ℕ → AccessRow
  row r = access_row_at ordered r

  -- the race that a number stands for
  abbrev pub race_of_number : ℕ → Race
  race_of_number k = race_from (row (k / 1024 % 1024)) (row (k % 1024)) (k / 1048576)

  pub race-of-parts : (w i j : ℕ) → i < 1024 → j < 1024 → race_of_number (number_for w i j) ≡ race_from (row i) (row j) w
  race-of-parts w i j h l =
      ap₂ (λ (a b : ℕ). race_from (row a) (row b) (number_for w i j / 1048576)) (number-first w i j h l) (number-second w i j l)
      ∙ ap (race_from (row i) (row j)) (number-witness w i j h l)

  -- of two ranks, both orders of the accesses
  both-orders :
      (i j : ℕ) → i < j → j < n → (a : Rank i) (b : Rank j)
      → race_of (closure_of ss) fs a.access b.access ++ race_of (closure_of ss) fs b.access a.access ≡ listed (race_at_byte (row i) (row j) (race_byte m fs (row i) (row j)))
  both-orders i j h l a b =
      pair-races paths fs a.row b.row apart ∙ ap listed (pair-byte m fs (row i) (row j))
    where
      apart : name_key a.access.name ≡ name_key b.access.name → ⊥
      apart e =
          let q : packed a.access.name ≡ packed b.access.name = ap packed (name_key-tells a.access.name b.access.name e) in
          omega (arith, names-ascend tab distinct small n all copied i j h l a b)

  between-rows : (i j w : ℕ) → i < j → j < n → race_between (row i) (row j) w ≡ race_from (row i) (row j) w
  between-rows i j w h l =
      let a = rank i (omega arith) in
      let b = rank j l in
      lower-first (row i) (row j) w
      (ap₂ name_below (name_of tab distinct small n all copied a.row) (name_of tab distinct small n all copied b.row)
      ∙ below_of tab distinct small n all copied i j h l a b)

  -- a number's race is one of the bundle
  pub number-race : {k : ℕ} → Numbers m fs ordered n k → Memᴰ (race_of_number k) (races_among (closure_of ss) fs xs)
  unfolding races_among
  number-race {k} r =
      let i = r.one in
      let j = r.other in
      let w = r.witness in
      let h = r.behind in
      let l = r.below in
      let a = rank i (omega (arith, few)) in
      let b = rank j l in
      let x = a.access in
      let y = b.access in
      let f = race_of (closure_of ss) fs in
      let is : race_of_number k ≡ race_between (row i) (row j) w =
      ap race_of_number r.is ∙ race-of-parts w i j (omega (arith, few)) (omega (arith, few)) ∙ sym (between-rows i j w h l)
      in
      let here : Memᴰ (race_of_number k) (f x y ++ f y x) =
      subst (Memᴰ (race_of_number k))
      (sym (both-orders i j h l a b ∙ ap (λ (o : Option ℕ). listed (race_at_byte (row i) (row j) o)) r.byte))
      (mathlib.Core.List.Memᴰ.head is)
      in
      ⊎_elim
      (λ (p : Memᴰ (race_of_number k) (f x y)). concat_map-intro (λ z. concat_map (f z) xs) (at_mem xs a.place a.at) (concat_map-intro (f x) (at_mem xs b.place b.at) p))
      (λ (p : Memᴰ (race_of_number k) (f y x)). concat_map-intro (λ z. concat_map (f z) xs) (at_mem xs b.place b.at) (concat_map-intro (f y) (at_mem xs a.place a.at) p))
      (mathlib.Core.List.Memᴰ.append_cases (f x y) here)

  -- and a race of the bundle has a number
  pub race-number : {r : Race} → Memᴰ r (races_among (closure_of ss) fs xs) → (k : ℕ) × Numbers m fs ordered n k × (race_of_number k ≡ r)
  unfolding races_among
  race-number {r} l =
      let f = race_of (closure_of ss) fs in
      let u = concat_map-elim (λ z. concat_map (f z) xs) xs l in
      let v = concat_map-elim (f u.source) xs u.gives in
      of_pair (rank-of tab distinct small n all copied u.present) (rank-of tab distinct small n all copied v.present) v.gives
    where
      of_pair :
          {x y : NamedAccess}
          → RankOf tab distinct small n all copied x
          → RankOf tab distinct small n all copied y
          → Memᴰ r (race_of (closure_of ss) fs x y)
          → (k : ℕ) × Numbers m fs ordered n k × (race_of_number k ≡ r)
      of_pair {x} {y} p q g =
          let i = p.rank in
          let j = q.rank in
          let a = p.is in
          let b = q.is in
          let g' : Memᴰ r (race_of (closure_of ss) fs a.access b.access) = rw (p.same, q.same) g in
          let h : i < j =
          of-below tab distinct small n all copied i j p.below q.below a b
          (clash-elim (closure_of ss) fs a.access b.access (race_of-elim (closure_of ss) fs a.access b.access g').clash).lower
          in
          let here : Memᴰ r (listed (race_at_byte (row i) (row j) (race_byte m fs (row i) (row j)))) =
          subst (Memᴰ r) (both-orders i j h q.below a b) (mathlib.Core.List.Memᴰ.append_left (race_of (closure_of ss) fs b.access a.access) g')
          in
          at_byte i j h q.below (race_byte m fs (row i) (row j)) refl here
        where
          at_byte :
              (i j : ℕ) → i < j → j < n → (o : Option ℕ)
              → race_byte m fs (row i) (row j) ≡ o
              → Memᴰ r (listed (race_at_byte (row i) (row j) o))
              → (k : ℕ) × Numbers m fs ordered n k × (race_of_number k ≡ r)
          at_byte i j h l none e g = absurd (mathlib.Core.List.Memᴰ.not-nil g)
          at_byte i j h l (some w) e g = (
            number_for w i j,
            record { one = i; other = j; behind = h; below = l; witness = w; byte = e; is = refl },
            race-of-parts w i j (omega (arith, few)) (omega (arith, few)) ∙ sym (between-rows i j w h l) ∙ sym (mathlib.Core.List.Memᴰ.eq_of_singleton g),
          )

  -- the order of numbers is that of the races
  abbrev name_number : ℕ → ℕ
  name_number r = packed (row_name (row r))

  name-fits : (r : ℕ) → r < n → NameFits (row_name (row r))
  name-fits r h = let a = rank r h in subst NameFits (sym (name_of tab distinct small n all copied a.row)) a.fits

  names-up : (i j : ℕ) → i < j → j < n → name_number i < name_number j
  names-up i j h l =
      let a = rank i (omega arith) in
      let b = rank j l in
      let p : name_number i ≡ packed a.access.name = ap packed (name_of tab distinct small n all copied a.row) in
      let q : name_number j ≡ packed b.access.name = ap packed (name_of tab distinct small n all copied b.row) in
      omega (arith, names-ascend tab distinct small n all copied i j h l a b)

  rows-below :
      (w i j v k l : ℕ) → i < n → j < n → k < n → l < n
      → (w < v) ⊎ ((w ≡ v) × ((i < k) ⊎ ((i ≡ k) × (j < l))))
      → packed_less w (name_number i) (name_number j) v (name_number k) (name_number l) ≡ true
  rows-below w i j v k l a b c d (inl h) = or-one _ (lt-ltb w v h)
  rows-below w i j v k l a b c d (inr (e, inl h)) =
      or-other (ltb w v) (both (eq-eqb w v e) (or-one _ (lt-ltb (name_number i) (name_number k) (names-up i k h c))))
  rows-below w i j v k l a b c d (inr (e, inr (f, h))) =
      or-other (ltb w v)
      (both (eq-eqb w v e)
      (or-other (ltb (name_number i) (name_number k))
      (both (eq-eqb (name_number i) (name_number k) (ap name_number f)) (lt-ltb (name_number j) (name_number l) (names-up j l h d)))))

  pub number-below : (k l : ℕ) → Numbers m fs ordered n k → Numbers m fs ordered n l → k < l → race_below (race_of_number k) (race_of_number l) ≡ true
  unfolding race_below race_key
  number-below k l a b h =
      let i = a.one in
      let j = a.other in
      let u = b.one in
      let v = b.other in
      let p = a.behind in
      let q = b.behind in
      let s = a.below in
      let t = b.below in
      let one : race_of_number k ≡ race_from (row i) (row j) a.witness = ap race_of_number a.is ∙ race-of-parts a.witness i j (omega (arith, few)) (omega (arith, few)) in
      let other : race_of_number l ≡ race_from (row u) (row v) b.witness = ap race_of_number b.is ∙ race-of-parts b.witness u v (omega (arith, few)) (omega (arith, few)) in
      let less : number_for a.witness i j < number_for b.witness u v = subst (λ (x : ℕ). x < number_for b.witness u v) a.is (subst (λ (x : ℕ). k < x) b.is h) in
      ap₂ (λ (x y : Race). lex_less (race_key x) (race_key y)) one other
      ∙ sym (packed-key a.witness b.witness (row_name (row i)) (row_name (row j)) (row_name (row u)) (row_name (row v)) (name-fits i (omega arith)) (name-fits j s) (name-fits u (omega arith)) (name-fits v t))
      ∙ rows-below a.witness i j b.witness u v (omega arith) s (omega arith) t
      (number-less a.witness i j b.witness u v (omega (arith, few)) (omega (arith, few)) (omega (arith, few)) (omega (arith, few)) less)

  pub numbers-ascend :
      (ks : List ℕ)
      → Sorted.Ascending ks
      → Distinct (map ranks_of ks)
      → ((k : ℕ) → Memᴰ k ks → Numbers m fs ordered n k)
      → Ascending (map race_of_number ks)
  numbers-ascend [] a d v = Ascending.none
  numbers-ascend (k ∷ ks) a d v =
      Ascending.more (λ q l. later q (mathlib.Core.List.Memᴰ.of_map race_of_number ks l)) (numbers-ascend ks a.1 (distinct_tail d) (λ x l. v x (mathlib.Core.List.Memᴰ.tail l)))
    where
      later : (q : Race) → (x : ℕ) × Memᴰ x ks × (race_of_number x ≡ q) → race_below (race_of_number k) q ≡ true
      later q (x, l, e) =
          let least : k ≤ x = all-mem (AtLeast k) a.0 l in
          let apart : k ≡ x → ⊥ = λ o. distinct_head d (mathlib.Core.List.Memᴰ.cast (ap ranks_of o) (mathlib.Core.List.Memᴰ.map ranks_of l)) in
          subst (λ (y : Race). race_below (race_of_number k) y ≡ true) e
          (number-below k x (v k (mathlib.Core.List.Memᴰ.head refl)) (v x (mathlib.Core.List.Memᴰ.tail l)) (omega arith))
