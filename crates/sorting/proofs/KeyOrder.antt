-- The first row with a key, found in the sorted words of the rows' keys and indices.
use Prim.Native.Nat.{ℕ, zero, suc, ◌+◌, ◌*◌, ◌/◌, ◌%◌, ◌≤◌, ◌<◌}
use mathlib.Core.Path.{◌≡◌, refl, sym, ◌∙◌, ap}
use mathlib.Core.List.{List, [], ◌∷◌}
use native.Mathlib.Omega.{arith}
use native.Mathlib.Decide.{ℕ_discrete, dec_lt}
use lib.Dec.{eqb}
use lib.ListN.{length, get_or}
use borrow.Author.Tests.{lt-ltb, le-ltb, eq-eqb, ne_eqb}
use Rattle.sorting.specs.Order.{sorted}
use Rattle.sorting.specs.Searching.{lower_bound, LowerBound, keyed_from, Keyed, first_with_key, index_of}
use Rattle.sorting.proofs.Insertion.{all-at, at_all, sorted_all, all-sorted, sorted-length, sorted-ascending, ascending-at}
use Rattle.sorting.proofs.Halving.{lower-bound}

-- what the search answers, by its tests
pub key-large : (words : List ℕ) (key : ℕ) → 281474976710656 ≤ key → length words ≡ first_with_key words key
unfolding first_with_key
key-large words key h = simp (le-ltb key 281474976710656 h)

module _ (words : List ℕ) (key at : ℕ) (small : key < 281474976710656) (e : at ≡ lower_bound words (key * 65536)) where
  pub key-past : length words ≤ at → length words ≡ first_with_key words key
  unfolding first_with_key
  key-past h = simp (sym e, lt-ltb key 281474976710656 small, le-ltb at (length words) h)

  pub key-found : at < length words → get_or words at 0 / 65536 ≡ key → get_or words at 0 % 65536 ≡ first_with_key words key
  unfolding first_with_key
  key-found h q = simp (sym e, lt-ltb key 281474976710656 small, lt-ltb at (length words) h, eq-eqb (get_or words at 0 / 65536) key q)

  pub key-other : at < length words → (get_or words at 0 / 65536 ≡ key → ⊥) → length words ≡ first_with_key words key
  unfolding first_with_key
  key-other h q = simp (sym e, lt-ltb key 281474976710656 small, lt-ltb at (length words) h, ne_eqb (get_or words at 0 / 65536) key q)

-- the first index with a key is the one with no such index before it
pub index-first :
    (key : ℕ) (keys : List ℕ) (j : ℕ)
    → j ≤ length keys
    → (j < length keys → get_or keys j 0 ≡ key)
    → ((i : ℕ) → i < j → get_or keys i 0 ≡ key → ⊥)
    → j ≡ index_of (eqb key) keys
unfolding index_of
index-first key [] j h is no_other = omega arith
index-first key (k ∷ ks) zero h is no_other = rw (eq-eqb key k (sym (is (omega arith))))
index-first key (k ∷ ks) (suc j) h is no_other =
    rw (ne_eqb key k (λ e. no_other 0 (omega arith) (sym e)))
    (ap suc (index-first key ks j (omega arith) (λ l. is (omega arith)) (λ i l. no_other (suc i) (omega arith))))

pub keyed-length : (n : ℕ) (keys : List ℕ) → length (keyed_from n keys) ≡ length keys
unfolding keyed_from
keyed-length n [] = refl
keyed-length n (k ∷ ks) = ap suc (keyed-length (suc n) ks)

pub keyed-at : (n : ℕ) (keys : List ℕ) (i : ℕ) → i < length keys → get_or (keyed_from n keys) i 0 ≡ get_or keys i 0 * 65536 + (n + i)
unfolding keyed_from
keyed-at n [] i h = absurd (omega arith)
keyed-at n (k ∷ ks) zero h = omega arith
keyed-at n (k ∷ ks) (suc i) h = omega (arith, keyed-at (suc n) ks i (omega arith))

-- a word of a row
record OfRow (keys : List ℕ) (word : ℕ) : Type 0 where
  index : ℕ
  below : index < length keys
  holds : word ≡ get_or keys index 0 * 65536 + index

module _ (keys : List ℕ) (few : length keys ≤ 65536) (key : ℕ) where
  abbrev order : List ℕ
  order = sorted (keyed_from 0 keys)

  abbrev at : ℕ
  at = lower_bound order (key * 65536)

  bound : LowerBound order (key * 65536) at
  bound = lower-bound order (key * 65536) (sorted-ascending (keyed_from 0 keys))

  order-length : length order ≡ length keys
  order-length = sorted-length (keyed_from 0 keys) ∙ keyed-length 0 keys

  -- no row with the key has a lesser word than the one found
  abbrev NotLess : ℕ → Type 0
  NotLess word = key * 65536 ≤ word → (at < length order) × (get_or order at 0 ≤ word)

  not-less : (i : ℕ) → i < length keys → get_or keys i 0 ≡ key → (at < length order) × (get_or order at 0 ≤ key * 65536 + i)
  not-less i h q =
      let e : get_or (keyed_from 0 keys) i 0 ≡ key * 65536 + i = omega (arith, keyed-at 0 keys i h) in
      rw e at (all-at NotLess (keyed_from 0 keys) (all-sorted NotLess (keyed_from 0 keys) (at_all NotLess order each)) i (rw keyed-length h)) (omega arith)
    where
      from : (p : ℕ) → key * 65536 ≤ get_or order p 0 → Dec (p < at) → at ≤ p
      from p l (yes m) = absurd (omega (arith, bound.below p m))
      from p l (no m) = omega arith

      each : (p : ℕ) → p < length order → NotLess (get_or order p 0)
      each p m l =
          let n = from p l (dec_lt p at) in
          (omega arith, ascending-at order (sorted-ascending (keyed_from 0 keys)) at p n m)

  row_at : at < length order → OfRow keys (get_or order at 0)
  row_at h = all-at (OfRow keys) order (sorted_all (OfRow keys) (keyed_from 0 keys) (at_all (OfRow keys) (keyed_from 0 keys) each)) at h
    where
      each : (i : ℕ) → i < length (keyed_from 0 keys) → OfRow keys (get_or (keyed_from 0 keys) i 0)
      each i l =
          let m : i < length keys = omega (arith, keyed-length 0 keys) in
          record { index = i; below = m; holds = omega (arith, keyed-at 0 keys i m) }

  -- where no row has the key
  absent : ((i : ℕ) → i < length keys → get_or keys i 0 ≡ key → ⊥) → length order ≡ index_of (eqb key) keys
  absent none = order-length ∙ index-first key keys (length keys) (omega arith) (λ l. absurd (omega arith)) none

  found : (h : at < length order) → get_or order at 0 / 65536 ≡ key → get_or order at 0 % 65536 ≡ index_of (eqb key) keys
  found h q =
      let r = row_at h in
      let e : get_or order at 0 % 65536 ≡ r.index = omega (arith, r.below, r.holds) in
      e ∙ index-first key keys r.index (omega (arith, r.below)) (λ l. omega (arith, r.below, r.holds))
      (λ i l k. omega (arith, r.below, r.holds, (not-less i (omega (arith, r.below)) k).1))

  first-of-sorted : ((i : ℕ) → i < length keys → get_or keys i 0 < 281474976710656) → first_with_key order key ≡ index_of (eqb key) keys
  first-of-sorted small = go (dec_lt key 281474976710656) (dec_lt at (length order)) (ℕ_discrete (get_or order at 0 / 65536) key)
    where
      go :
          Dec (key < 281474976710656)
          → Dec (at < length order)
          → Dec (get_or order at 0 / 65536 ≡ key)
          → first_with_key order key ≡ index_of (eqb key) keys
      go (no l) h q = sym (key-large order key (omega arith)) ∙ absent (λ i m k. omega (arith, small i m))
      go (yes l) (no h) q = sym (key-past order key at l refl (omega arith)) ∙ absent (λ i m k. h (not-less i m k).0)
      go (yes l) (yes h) (yes q) = sym (key-found order key at l refl h q) ∙ found h q
      go (yes l) (yes h) (no q) =
          sym (key-other order key at l refl h q)
          ∙ absent (λ i m k. q (omega (arith, (not-less i m k).1, bound.above at (omega arith) h)))

-- in the sorted words of a table's rows the search finds the first row with the key
pub first-with-key : (keys words : List ℕ) → Keyed keys words → (key : ℕ) → first_with_key words key ≡ index_of (eqb key) keys
first-with-key keys words k key = rw k.order (first-of-sorted keys k.few key k.small)
