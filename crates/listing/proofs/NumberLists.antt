-- The numbers of all pairs: which there are, and that no two are equal.
use Prim.Native.Nat.{ℕ, zero, suc, ◌+◌, ◌*◌, ◌/◌, ◌%◌, ◌≤◌, ◌<◌}
use mathlib.Core.Path.{◌≡◌, refl, sym, ◌∙◌, ap, subst}
use mathlib.Core.Logic.{⊎_elim}
use mathlib.Core.Bool.{Bool, true, false, cond}
use mathlib.Core.List.{List, [], ◌++◌, map, map-append, Memᴰ}
use mathlib.Core.Option.{Option, none, some}
use native.Mathlib.Omega.{arith}
use native.Mathlib.Decide.{ℕ_discrete}
use lib.Dec.{ltb}
use borrow.Author.Tests.{ltb-true, lt-ltb}
use Rattle.bundle.specs.declared.index.Fork.{Fork}
use Rattle.bundle.proofs.ListLaws.{Distinct, distinct_nil, distinct_cons, distinct_append}
use Rattle.verdict.specs.Working.{access_row_at}
use Rattle.listing.specs.Listing.{number_for}
use Rattle.listing.specs.Pushing.{byte_numbers, race_byte, pair_numbers, row_numbers, all_numbers}

-- the parts of a number
pub number-ranks : (w i j : ℕ) → i < 1024 → j < 1024 → number_for w i j % 1048576 ≡ i * 1024 + j
number-ranks w i j h l = omega arith

pub number-witness : (w i j : ℕ) → i < 1024 → j < 1024 → number_for w i j / 1048576 ≡ w
number-witness w i j h l = omega arith

pub number-first : (w i j : ℕ) → i < 1024 → j < 1024 → number_for w i j / 1024 % 1024 ≡ i
number-first w i j h l = omega arith

pub number-second : (w i j : ℕ) → j < 1024 → number_for w i j % 1024 ≡ j
number-second w i j h = omega arith

-- the ranks tell the numbers apart
abbrev pub ranks_of : ℕ → ℕ
ranks_of x = x % 1048576

module _ (m : List ℕ) (fs : List Fork) (rows : List ℕ) where
  -- where a number comes from
  pub record Numbers (n x : ℕ) : Type 0 where
    pub one : ℕ
    pub other : ℕ
    pub behind : one < other
    pub below : other < n
    pub witness : ℕ
    pub byte : race_byte m fs (access_row_at rows one) (access_row_at rows other) ≡ some witness
    pub is : x ≡ number_for witness one other

  pair-elim : (i j : ℕ) {x : ℕ} → Memᴰ x (pair_numbers m fs rows i j) → (i < j) × ((w : ℕ) × (race_byte m fs (access_row_at rows i) (access_row_at rows j) ≡ some w) × (x ≡ number_for w i j))
  unfolding pair_numbers
  pair-elim i j {x} l = go (ltb i j) refl (race_byte m fs (access_row_at rows i) (access_row_at rows j)) refl l
    where
      go :
          (t : Bool)
          → ltb i j ≡ t
          → (o : Option ℕ)
          → race_byte m fs (access_row_at rows i) (access_row_at rows j) ≡ o
          → Memᴰ x (cond t (byte_numbers i j o) [])
          → (i < j) × ((w : ℕ) × (race_byte m fs (access_row_at rows i) (access_row_at rows j) ≡ some w) × (x ≡ number_for w i j))
      go false e o q l' = absurd (mathlib.Core.List.Memᴰ.not-nil l')
      go true e none q l' = absurd (mathlib.Core.List.Memᴰ.not-nil l')
      go true e (some w) q l' = (ltb-true i j e, (w, q, mathlib.Core.List.Memᴰ.eq_of_singleton l'))

  pair-intro : (i j w : ℕ) → i < j → race_byte m fs (access_row_at rows i) (access_row_at rows j) ≡ some w → Memᴰ (number_for w i j) (pair_numbers m fs rows i j)
  unfolding pair_numbers
  pair-intro i j w h e = rw (lt-ltb i j h, e) (mathlib.Core.List.Memᴰ.head refl)

  row-elim : (i j : ℕ) {x : ℕ} → Memᴰ x (row_numbers m fs rows i j) → (k : ℕ) × (k < j) × Memᴰ x (pair_numbers m fs rows i k)
  unfolding row_numbers
  row-elim i zero l = absurd (mathlib.Core.List.Memᴰ.not-nil l)
  row-elim i (suc j) {x} l =
      ⊎_elim
      (λ (a : Memᴰ x (row_numbers m fs rows i j)). let r = row-elim i j a in (r.0, omega (arith, r.1), r.2))
      (λ (a : Memᴰ x (pair_numbers m fs rows i j)). (j, omega arith, a))
      (mathlib.Core.List.Memᴰ.append_cases (row_numbers m fs rows i j) l)

  row-intro : (i j : ℕ) {x : ℕ} (k : ℕ) → k < j → Memᴰ x (pair_numbers m fs rows i k) → Memᴰ x (row_numbers m fs rows i j)
  unfolding row_numbers
  row-intro i zero k h l = absurd (omega arith)
  row-intro i (suc j) {x} k h l = go (λ a. row-intro i j k a l) (ℕ_discrete k j)
    where
      go : (k < j → Memᴰ x (row_numbers m fs rows i j)) → Dec (k ≡ j) → Memᴰ x (row_numbers m fs rows i j ++ pair_numbers m fs rows i j)
      go f (yes e) = mathlib.Core.List.Memᴰ.append_right (row_numbers m fs rows i j) (subst (λ (b : ℕ). Memᴰ x (pair_numbers m fs rows i b)) e l)
      go f (no e) = mathlib.Core.List.Memᴰ.append_left (pair_numbers m fs rows i j) (f (omega arith))

  module _ (n : ℕ) where
    all-elim : (i : ℕ) {x : ℕ} → Memᴰ x (all_numbers m fs rows n i) → (k : ℕ) × (k < i) × Memᴰ x (row_numbers m fs rows k n)
    unfolding all_numbers
    all-elim zero l = absurd (mathlib.Core.List.Memᴰ.not-nil l)
    all-elim (suc i) {x} l =
        ⊎_elim
        (λ (a : Memᴰ x (all_numbers m fs rows n i)). let r = all-elim i a in (r.0, omega (arith, r.1), r.2))
        (λ (a : Memᴰ x (row_numbers m fs rows i n)). (i, omega arith, a))
        (mathlib.Core.List.Memᴰ.append_cases (all_numbers m fs rows n i) l)

    all-intro : (i : ℕ) {x : ℕ} (k : ℕ) → k < i → Memᴰ x (row_numbers m fs rows k n) → Memᴰ x (all_numbers m fs rows n i)
    unfolding all_numbers
    all-intro zero k h l = absurd (omega arith)
    all-intro (suc i) {x} k h l = go (λ a. all-intro i k a l) (ℕ_discrete k i)
      where
        go : (k < i → Memᴰ x (all_numbers m fs rows n i)) → Dec (k ≡ i) → Memᴰ x (all_numbers m fs rows n i ++ row_numbers m fs rows i n)
        go f (yes e) = mathlib.Core.List.Memᴰ.append_right (all_numbers m fs rows n i) (subst (λ (b : ℕ). Memᴰ x (row_numbers m fs rows b n)) e l)
        go f (no e) = mathlib.Core.List.Memᴰ.append_left (row_numbers m fs rows i n) (f (omega arith))

    pub numbers-elim : {x : ℕ} → Memᴰ x (all_numbers m fs rows n n) → Numbers n x
    numbers-elim l =
        let a = all-elim n l in
        let b = row-elim a.0 n a.2 in
        let c = pair-elim a.0 b.0 b.2 in
        record { one = a.0; other = b.0; behind = c.0; below = b.1; witness = c.1.0; byte = c.1.1; is = c.1.2 }

    pub numbers-intro : {x : ℕ} → Numbers n x → Memᴰ x (all_numbers m fs rows n n)
    numbers-intro {x} r =
        let h = r.behind in
        let l = r.below in
        subst (λ (y : ℕ). Memᴰ y (all_numbers m fs rows n n)) (sym r.is)
        (all-intro n r.one (omega arith) (row-intro r.one n r.other l (pair-intro r.one r.other r.witness h r.byte)))

  pair-distinct : (i j : ℕ) → Distinct (map ranks_of (pair_numbers m fs rows i j))
  unfolding pair_numbers
  pair-distinct i j = go (ltb i j) (race_byte m fs (access_row_at rows i) (access_row_at rows j))
    where
      go : (t : Bool) (o : Option ℕ) → Distinct (map ranks_of (cond t (byte_numbers i j o) []))
      go false o = distinct_nil
      go true none = distinct_nil
      go true (some w) = distinct_cons mathlib.Core.List.Memᴰ.not-nil distinct_nil

  pair-ranks : (i j : ℕ) → j < 1024 → {y : ℕ} → Memᴰ y (map ranks_of (pair_numbers m fs rows i j)) → y ≡ i * 1024 + j
  pair-ranks i j h l =
      let u = mathlib.Core.List.Memᴰ.of_map ranks_of (pair_numbers m fs rows i j) l in
      let p = pair-elim i j u.1 in
      let k = p.0 in
      sym u.2 ∙ ap ranks_of p.1.2 ∙ number-ranks p.1.0 i j (omega arith) h

  row-ranks : (i j : ℕ) → j ≤ 1024 → {y : ℕ} → Memᴰ y (map ranks_of (row_numbers m fs rows i j)) → (k : ℕ) × (k < j) × (y ≡ i * 1024 + k)
  row-ranks i j h {y} l =
      let u = mathlib.Core.List.Memᴰ.of_map ranks_of (row_numbers m fs rows i j) l in
      let r = row-elim i j u.1 in
      let p = pair-elim i r.0 r.2 in
      let k = p.0 in
      let b = r.1 in
      (r.0, b, sym u.2 ∙ ap ranks_of p.1.2 ∙ number-ranks p.1.0 i r.0 (omega arith) (omega arith))

  row-distinct : (i j : ℕ) → j ≤ 1024 → Distinct (map ranks_of (row_numbers m fs rows i j))
  unfolding row_numbers
  row-distinct i zero h = distinct_nil
  row-distinct i (suc j) h =
      rw (map-append ranks_of (row_numbers m fs rows i j) (pair_numbers m fs rows i j))
      (distinct_append (row-distinct i j (omega arith)) (pair-distinct i j)
      (λ y a b. let r = row-ranks i j (omega arith) a in let q = pair-ranks i j (omega arith) b in omega (arith, r.1, r.2)))

  all-distinct : (n i : ℕ) → n ≤ 1024 → Distinct (map ranks_of (all_numbers m fs rows n i))
  unfolding all_numbers
  all-distinct n zero h = distinct_nil
  all-distinct n (suc i) h =
      rw (map-append ranks_of (all_numbers m fs rows n i) (row_numbers m fs rows i n))
      (distinct_append (all-distinct n i h) (row-distinct i n h) apart)
    where
      apart : (y : ℕ) → Memᴰ y (map ranks_of (all_numbers m fs rows n i)) → Memᴰ y (map ranks_of (row_numbers m fs rows i n)) → ⊥
      apart y a b =
          let u = mathlib.Core.List.Memᴰ.of_map ranks_of (all_numbers m fs rows n i) a in
          let r = all-elim n i u.1 in
          let s = row-elim r.0 n r.2 in
          let p = pair-elim r.0 s.0 s.2 in
          let k = p.0 in
          let e : y ≡ r.0 * 1024 + s.0 = sym u.2 ∙ ap ranks_of p.1.2 ∙ number-ranks p.1.0 r.0 s.0 (omega (arith, s.1)) (omega (arith, s.1)) in
          let q = row-ranks i n h b in
          omega (arith, r.1, s.1, q.1, q.2)

  pub numbers-distinct : (n : ℕ) → n ≤ 1024 → Distinct (map ranks_of (all_numbers m fs rows n n))
  numbers-distinct n h = all-distinct n n h
