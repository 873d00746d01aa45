-- The accesses by their ranks: the rows in the order of names, and the race that a number stands for.
use Prim.Native.Nat.{ℕ, ◌+◌, ◌*◌, ◌%◌, ◌≤◌, ◌<◌}
use mathlib.Core.Path.{◌≡◌, refl, sym, ◌∙◌, ap, subst}
use mathlib.Core.Bool.{true}
use mathlib.Core.List.{List, map, Memᴰ}
use mathlib.Core.Option.{some}
use native.Mathlib.Omega.{arith}
use native.Mathlib.Decide.{dec_lt, ℕ_discrete}
use lib.ListN.{length, get_or, get_elem?}
use borrow.Author.Tests.{ltb-true, lt-ltb}
use Rattle.bundle.specs.Walk.{Segment}
use Rattle.bundle.proofs.ListLaws.{Distinct}
use Rattle.verdict.specs.Races.{NamedAccess, name_key, name_below}
use Rattle.verdict.specs.Working.{access_row_at, RowOf, AccessTable}
use Rattle.verdict.specs.Tallying.{packed, NameFits, name_in, row_name}
use Rattle.verdict.specs.declared.race.Name.{Name}
use Rattle.verdict.specs.declared.rows.AccessRow.{AccessRow}
use Rattle.verdict.proofs.AccessNames.{access_key}
use Rattle.verdict.proofs.ListPlaces.{mem-at, at_below, below_at, same_place}
use Rattle.verdict.proofs.PackedNames.{packed-below, side-packed}
use Rattle.listing.specs.Ranking.{name_word, order_of, Copied}
use Rattle.listing.proofs.OrderLaws.{rank-place, place-rank, order-strict}

-- names that fit are told apart by their numbers
pub packed-tells : (a b : Name) → NameFits a → NameFits b → packed a ≡ packed b → a ≡ b
packed-tells a b f g e =
    let zero-site : 0 < 65536 = omega arith in
    sym (side-packed (record { is = refl; fits = f }) zero-site).name_in
    ∙ ap (λ (p : ℕ). name_in (p * 65536 + 0)) e
    ∙ (side-packed (record { is = refl; fits = g }) zero-site).name_in

module _
    {ss : List Segment} {xs : List NamedAccess} {rows : List ℕ} (tab : AccessTable ss xs rows)
    (distinct : Distinct (map access_key xs)) (small : (i : ℕ) → get_or rows i 0 < 4294967296)
    (n : ℕ) (all : n ≡ length xs)
    {before ordered : List ℕ} (copied : Copied rows (order_of rows n) n before ordered) where
  few : n ≤ 1024
  few = omega (arith, tab.few)

  pub rows_fit : (i : ℕ) → NameFits (row_name (access_row_at rows i))
  unfolding access_row_at
  rows_fit i = record { team = omega arith; member = omega arith; number = omega (arith, small (i + 6144)) }

  pub name_of : {x : NamedAccess} {r : AccessRow} → RowOf ss x r → row_name r ≡ x.name
  name_of rx = λ i. record { team = rx.team i; member = rx.member i; number = rx.number i }

  -- the access of a rank
  pub record Ranked (r : ℕ) : Type 0 where
    pub place : ℕ
    pub access : NamedAccess
    pub at : get_elem? xs place ≡ some access
    pub row : RowOf ss access (access_row_at ordered r)
    pub word : get_or (order_of rows n) r 0 ≡ packed access.name * 1024 + place
    pub fits : NameFits access.name

  made : (r p : ℕ) → r < n → p < n → get_or (order_of rows n) r 0 ≡ name_word rows p → (x : NamedAccess) → get_elem? xs p ≡ some x → Ranked r
  made r p h l w x e =
      let named : get_or (order_of rows n) r 0 % 1024 ≡ p = omega (arith, w, few) in
      let same : access_row_at ordered r ≡ access_row_at rows p = copied.each r h ∙ ap (access_row_at rows) named in
      let of = tab.rows p e in
      record {
        place = p;
        access = x;
        at = e;
        row = rw same of;
        word = w ∙ ap (λ (a : Name). packed a * 1024 + p) (name_of of);
        fits = subst NameFits (name_of of) (rows_fit p);
      }

  pub ranked : (r : ℕ) → r < n → Ranked r
  ranked r h =
      let p = rank-place rows n few r h in
      let x = below_at xs p.place (omega (arith, p.below)) in
      made r p.place h p.below p.word x.0 x.1

  -- the rank of an access
  pub record RankOf (x : NamedAccess) : Type 0 where
    pub rank : ℕ
    pub below : rank < n
    pub is : Ranked rank
    pub same : is.access ≡ x

  pub rank-of : {x : NamedAccess} → Memᴰ x xs → RankOf x
  unfolding made
  rank-of {x} m =
      let a = mem-at m in
      let h : a.0 < n = omega (arith, at_below xs a.0 a.1) in
      let r = place-rank rows n few a.0 h in
      record { rank = r.0; below = r.1; is = made r.0 a.0 r.1 h r.2 x a.1; same = refl }

  -- the names ascend
  pub names-ascend : (i j : ℕ) → i < j → j < n → (a : Ranked i) (b : Ranked j) → packed a.access.name < packed b.access.name
  names-ascend i j h l a b = go (ℕ_discrete (packed a.access.name) (packed b.access.name))
    where
      strict : get_or (order_of rows n) i 0 < get_or (order_of rows n) j 0
      strict = order-strict rows n few i j h l

      go : Dec (packed a.access.name ≡ packed b.access.name) → packed a.access.name < packed b.access.name
      go (yes e) =
          let same_name = packed-tells a.access.name b.access.name a.fits b.fits e in
          let q : a.place ≡ b.place = same_place access_key xs a.place b.place distinct a.at b.at (ap name_key same_name) in
          absurd (omega (arith, strict, a.word, b.word))
      go (no e) =
          let p = at_below xs a.place a.at in
          let q = at_below xs b.place b.at in
          omega (arith, strict, a.word, b.word, few)

  pub below_of : (i j : ℕ) → i < j → j < n → (a : Ranked i) (b : Ranked j) → name_below a.access.name b.access.name ≡ true
  below_of i j h l a b =
      sym (packed-below a.access.name b.access.name a.fits b.fits) ∙ lt-ltb (packed a.access.name) (packed b.access.name) (names-ascend i j h l a b)

  pub of-below : (i j : ℕ) → i < n → j < n → (a : Ranked i) (b : Ranked j) → name_below a.access.name b.access.name ≡ true → i < j
  of-below i j h l a b e = go (dec_lt i j) (ℕ_discrete i j)
    where
      less : packed a.access.name < packed b.access.name
      less = ltb-true (packed a.access.name) (packed b.access.name) (packed-below a.access.name b.access.name a.fits b.fits ∙ e)

      -- equal ranks have one word
      pairs-word : (p q x y : ℕ) → x < 1024 → y < 1024 → p * 1024 + x ≡ q * 1024 + y → p ≡ q
      pairs-word p q x y h l e = omega arith

      go : Dec (i < j) → Dec (i ≡ j) → i < j
      go (yes f) q = f
      go (no f) (no q) = absurd (omega (arith, less, names-ascend j i (omega arith) h b a))
      go (no f) (yes q) =
          let one = at_below xs a.place a.at in
          let other = at_below xs b.place b.at in
          let same : packed a.access.name ≡ packed b.access.name =
          pairs-word (packed a.access.name) (packed b.access.name) a.place b.place (omega (arith, few)) (omega (arith, few))
          (sym a.word ∙ ap (λ (r : ℕ). get_or (order_of rows n) r 0) q ∙ b.word)
          in
          absurd (omega (arith, less))
