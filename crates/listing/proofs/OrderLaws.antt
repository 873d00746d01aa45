-- The words of the accesses, sorted: each place has one rank, and each rank one place.
use Prim.Native.Nat.{ℕ, zero, suc, ◌%◌, ◌≤◌, ◌<◌}
use mathlib.Core.Path.{◌≡◌, refl, sym, ◌∙◌, ap, ap₂, subst}
use mathlib.Core.Logic.{⊎_elim}
use mathlib.Core.List.{
  List,
  [],
  ◌∷◌,
  ◌++◌,
  map,
  Memᴰ,
  map-append,
  Permᴰ,
}
use native.Mathlib.Omega.{arith}
use native.Mathlib.Decide.{ℕ_discrete}
use lib.ListN.{get_or}
use lib.Seq.{get_or_at}
use Rattle.sorting.specs.Order.{insert, sorted}
use Rattle.sorting.proofs.Insertion.{all-at, at_all, sorted_all, all-sorted, sorted-perm, sorted-middle, sorted-ascending, ascending-at}
use Rattle.bundle.specs.Index.{table}
use Rattle.bundle.proofs.ListLaws.{perm-map, Distinct, distinct_nil, distinct_cons, distinct_append}
use Rattle.bundle.proofs.Keys.{perm-distinct}
use Rattle.bundle.proofs.Tables.{table_more, table_none, table-length}
use Rattle.verdict.proofs.ListPlaces.{at-get_d, same_place}
use Rattle.listing.specs.Ranking.{name_word, order_of}
use Rattle.listing.proofs.RankLaws.{order-length, get_d-left}

cons-sorted : (a b : ℕ) (xs ys : List ℕ) → a ≡ b → sorted xs ≡ sorted ys → sorted (a ∷ xs) ≡ sorted (b ∷ ys)
unfolding sorted
cons-sorted a b xs ys e d = ap₂ insert e d

swap-sorted : (a b : ℕ) (l : List ℕ) → sorted (a ∷ b ∷ l) ≡ sorted (b ∷ a ∷ l)
swap-sorted a b l = sorted-middle (a ∷ []) b l ∙ (unfold sorted in refl)

-- sorting does not see the order of the numbers
pub sorted-same : {xs ys : List ℕ} → Permᴰ xs ys → sorted xs ≡ sorted ys
sorted-same Permᴰ.nil = refl
sorted-same (Permᴰ.cons {a = a} {b = b} {l₁ = xs} {l₂ = ys} e d) =
    cons-sorted a b xs ys e (sorted-same d)
sorted-same (Permᴰ.swap {a = a} {b = b} {a' = c} {b' = d} {l = l} e₁ e₂) = swap-sorted a b l ∙ ap₂ (λ (x y : ℕ). sorted (x ∷ y ∷ l)) e₂ e₁
sorted-same (Permᴰ.trans p q) = sorted-same p ∙ sorted-same q

-- the elements of a table
module _ {A : Type 0} (f : ℕ → A) where
  pub table-elim : (n : ℕ) {y : A} → Memᴰ y (table f n) → (i : ℕ) × (i < n) × (y ≡ f i)
  table-elim zero {y} m = absurd (mathlib.Core.List.Memᴰ.not-nil (subst (Memᴰ y) (table_none f) m))
  table-elim (suc n) {y} m =
      ⊎_elim
      (λ (l : Memᴰ y (table f n)). let r = table-elim n l in (r.0, omega (arith, r.1), r.2))
      (λ l. (n, omega arith, mathlib.Core.List.Memᴰ.eq_of_singleton l))
      (mathlib.Core.List.Memᴰ.append_cases (table f n) (subst (Memᴰ y) (table_more f n) m))

  -- where a key tells the place, all keys are distinct
  pub table-distinct : (g : A → ℕ) (n : ℕ) → ((i : ℕ) → i < n → g (f i) ≡ i) → Distinct (map g (table f n))
  table-distinct g zero h = rw (table_none f) distinct_nil
  table-distinct g (suc n) h =
      rw (table_more f n, map-append)
      (distinct_append (table-distinct g n (λ i l. h i (omega arith))) (distinct_cons mathlib.Core.List.Memᴰ.not-nil distinct_nil)
      (λ x m l.
      let u = mathlib.Core.List.Memᴰ.of_map g (table f n) m in
      let v = table-elim n u.1 in
      let at : x ≡ v.0 = sym u.2 ∙ ap g v.2 ∙ h v.0 (omega (arith, v.1)) in
      let last : x ≡ n = mathlib.Core.List.Memᴰ.eq_of_singleton l ∙ h n (omega arith) in
      omega (arith, v.1)))

pub table_at : (f : ℕ → ℕ) (n i : ℕ) → i < n → get_or (table f n) i 0 ≡ f i
table_at f zero i h = absurd (omega arith)
table_at f (suc n) i h = ap (λ (l : List ℕ). get_or l i 0) (table_more f n) ∙ go (λ a. table_at f n i a) (ℕ_discrete i n)
  where
    go : (i < n → get_or (table f n) i 0 ≡ f i) → Dec (i ≡ n) → get_or (table f n ++ (f n ∷ [])) i 0 ≡ f i
    go r (yes e) =
        ap (λ (k : ℕ). get_or (table f n ++ (f n ∷ [])) k 0) e
        ∙ get_or_at (table f n) (f n) [] 0 n (table-length f n)
        ∙ sym (ap f e)
    go r (no e) = get_d-left (table f n) (f n ∷ []) i (omega (arith, table-length f n)) ∙ r (omega arith)

module _ (rows : List ℕ) (n : ℕ) (few : n ≤ 1024) where
  abbrev words : List ℕ
  words = table (name_word rows) n

  abbrev order : List ℕ
  order = order_of rows n

  word-place : (i : ℕ) → i < n → name_word rows i % 1024 ≡ i
  word-place i h = omega arith

  -- each rank has a place
  pub record Placed (r : ℕ) : Type 0 where
    pub place : ℕ
    pub below : place < n
    pub word : get_or order r 0 ≡ name_word rows place
    pub named : get_or order r 0 % 1024 ≡ place

  record OfPlace (word : ℕ) : Type 0 where
    at : ℕ
    at_below : at < n
    is : word ≡ name_word rows at

  pub rank-place : (r : ℕ) → r < n → Placed r
  unfolding order_of
  rank-place r h =
      let p =
      all-at OfPlace order
      (sorted_all OfPlace words
      (at_all OfPlace words
      (λ i l. let k : i < n = omega (arith, table-length (name_word rows) n) in record { at = i; at_below = k; is = table_at (name_word rows) n i k })))
      r (omega (arith, order-length rows n))
      in
      record { place = p.at; below = p.at_below; word = p.is; named = ap (λ (w : ℕ). w % 1024) p.is ∙ word-place p.at p.at_below }

  -- and each place a rank
  record AtRank (word : ℕ) : Type 0 where
    rank : ℕ
    rank_below : rank < n
    holds : get_or order rank 0 ≡ word

  pub place-rank : (i : ℕ) → i < n → (r : ℕ) × (r < n) × (get_or order r 0 ≡ name_word rows i)
  unfolding order_of
  place-rank i h =
      let a =
      all-at AtRank words
      (all-sorted AtRank words
      (at_all AtRank order (λ r l. record { rank = r; rank_below = omega (arith, order-length rows n); holds = refl })))
      i (omega (arith, table-length (name_word rows) n))
      in
      (a.rank, a.rank_below, a.holds ∙ table_at (name_word rows) n i h)

  places-distinct : Distinct (map (λ (w : ℕ). w % 1024) order)
  unfolding order_of
  places-distinct =
      perm-distinct (perm-map (λ (w : ℕ). w % 1024) (sorted-perm words)) (table-distinct (name_word rows) (λ (w : ℕ). w % 1024) n word-place)

  order-ascends : (i j : ℕ) → i ≤ j → j < n → get_or order i 0 ≤ get_or order j 0
  unfolding order_of
  order-ascends i j h l = ascending-at order (sorted-ascending words) i j h (omega (arith, order-length rows n))

  pub order-strict : (i j : ℕ) → i < j → j < n → get_or order i 0 < get_or order j 0
  order-strict i j h l = go (ℕ_discrete (get_or order i 0) (get_or order j 0))
    where
      go : Dec (get_or order i 0 ≡ get_or order j 0) → get_or order i 0 < get_or order j 0
      go (yes e) =
          let q : i ≡ j =
          same_place (λ (w : ℕ). w % 1024) order i j places-distinct
          (at-get_d order i 0 (omega (arith, order-length rows n)))
          (at-get_d order j 0 (omega (arith, order-length rows n)))
          (ap (λ (w : ℕ). w % 1024) e)
          in
          absurd (omega arith)
      go (no e) = omega (arith, order-ascends i j (omega arith) l)
