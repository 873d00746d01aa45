-- Tables of rows in words: what a word holds, how a table grows, and the first row that passes a test.
use Rattle.std.specs.declared.option.Option.TheVariants.{Some, None}
use Prim.Native.Nat.{ℕ, zero, suc, ◌+◌, ◌-◌, ◌*◌, ◌/◌, ◌%◌, ◌≤◌, ◌<◌}
use mathlib.Core.Path.{◌≡◌, refl, sym, ◌∙◌, ap}
use mathlib.Core.Logic.{⊎_elim}
use mathlib.Core.Bool.{Bool, true, false, cond}
use mathlib.Core.List.Memᴰ
use mathlib.Core.List.{List, [], ◌∷◌, ◌++◌, Memᴰ}
use mathlib.Core.Option.{none, some}
use native.Mathlib.Omega.{arith}
use native.Mathlib.Decide.{ℕ_discrete}
use native.Mathlib.Numerals.{add-one}
use native.Mathlib.Nat.{add-mul-mod_self_left, add-mul-div_left, mod-eq_of_lt, div-eq_of_lt, add-zero, zero-add}
use Rattle.std.proofs.lemmas.Bool.{lt-ltb, le-ltb, ltb-true, ltb-false}
use lib.Dec.{eqb, ltb}
use mir.Val.{bool_byte}
use lib.ListN.{length, get_or, set, length-set}
use lib.Seq.{lt-length-set, get_or-set_same, get_or-set_other}
use Rattle.bundle.specs.Lists.{first}
use Rattle.bundle.specs.Index.{parts_of, chunk_row_of, chunk_row_at, fork_row_of, fork_row_at, table_from, table, Added, index_of, below}
use Rattle.bundle.specs.declared.index.ChunkRow.{ChunkRow}
use Rattle.bundle.specs.declared.index.Fork.{Fork}
use Rattle.bundle.specs.declared.index.Parts.{Parts}

-- a number of two parts
low_part : (a b q : ℕ) → a < b → (a + b * q) % b ≡ a
low_part a b q h = add-mul-mod_self_left a b q ∙ mod-eq_of_lt h

high_part : (a b q : ℕ) → 0 < b → a < b → (a + b * q) / b ≡ q
high_part a b q p h = add-mul-div_left a q p ∙ ap (λ (n : ℕ). n + q) (div-eq_of_lt h) ∙ zero-add q

-- a word made of parts holds them
pub packed :
    (r : Parts)
    → r.first < 65536
    → r.second < 65536
    → r.third < 256
    → r.fourth < 256
    → parts_of (r.first + 65536 * (r.second + 65536 * (r.third + 256 * (r.fourth + 256 * r.fifth)))) ≡ r
packed r p o s m =
    let w₄ = r.fourth + 256 * r.fifth in
    let w₃ = r.third + 256 * w₄ in
    let w₂ = r.second + 65536 * w₃ in
    simp (
      low_part r.first 65536 w₂ p,
      high_part r.first 65536 w₂ (omega arith) p,
      low_part r.second 65536 w₃ o,
      high_part r.second 65536 w₃ (omega arith) o,
      low_part r.third 256 w₄ s,
      high_part r.third 256 w₄ (omega arith) s,
      low_part r.fourth 256 r.fifth m,
      high_part r.fourth 256 r.fifth (omega arith) m,
    )

module _ {A : Type 0} where
  -- one element more at the end; and two tables of the same elements
  from_more : (f : ℕ → A) (i k : ℕ) → table_from f i (suc k) ≡ table_from f i k ++ (f (i + k) ∷ [])
  unfolding table_from
  from_more f i zero = rw (add-zero i)
  from_more f i (suc k) =
      ap (λ (xs : List A). f i ∷ xs) (from_more f (suc i) k)
      ∙ ap (λ (n : ℕ). f i ∷ (table_from f (suc i) k ++ (f n ∷ []))) (omega arith)

  from-same : (f g : ℕ → A) (i k : ℕ) → ((j : ℕ) → i ≤ j → j < i + k → f j ≡ g j) → table_from f i k ≡ table_from g i k
  unfolding table_from
  from-same f g i zero h = refl
  from-same f g i (suc k) h = rw (h i (omega arith) (omega arith), from-same f g (suc i) k (λ j l u. h j (omega arith) (omega arith)))

  pub table_more : (f : ℕ → A) (n : ℕ) → table f (suc n) ≡ table f n ++ (f n ∷ [])
  unfolding table
  table_more f n = from_more f 0 n ∙ ap (λ (k : ℕ). table_from f 0 n ++ (f k ∷ [])) (zero-add n)

  pub table_same : (f g : ℕ → A) (n : ℕ) → ((j : ℕ) → j < n → f j ≡ g j) → table f n ≡ table g n
  unfolding table
  table_same f g n h = from-same f g 0 n (λ j l u. h j (omega arith))

  pub table_none : (f : ℕ → A) → table f 0 ≡ []
  unfolding table table_from
  table_none f = refl

  from-length : (f : ℕ → A) (i k : ℕ) → length (table_from f i k) ≡ k
  unfolding table_from
  from-length f i zero = refl
  from-length f i (suc k) = ap suc (from-length f (suc i) k)

  pub table-length : (f : ℕ → A) (n : ℕ) → length (table f n) ≡ n
  unfolding table
  table-length f n = from-length f 0 n

  -- its elements are those of the numbers below n
  pub table-in : (f : ℕ → A) (n k : ℕ) → k < n → Memᴰ (f k) (table f n)
  table-in f zero k h = absurd (omega arith)
  table-in f (suc n) k h = rw (table_more f n) (go (ℕ_discrete k n) (table-in f n k))
    where
      go : Dec (k ≡ n) → (k < n → Memᴰ (f k) (table f n)) → Memᴰ (f k) (table f n ++ (f n ∷ []))
      go (yes e) ih = Memᴰ.append_right (table f n) (Memᴰ.head (ap f e))
      go (no ne) ih = Memᴰ.append_left (f n ∷ []) (ih (omega arith))

  pub table-each : (P : A → Type 0) (f : ℕ → A) (n : ℕ) → ((k : ℕ) → k < n → P (f k)) → (x : A) → Memᴰ x (table f n) → P x
  table-each P f zero h x m = absurd (Memᴰ.not-nil (rw (table_none f) at m))
  table-each P f (suc n) h x m =
      ⊎_elim
      (λ l. table-each P f n (λ k b. h k (omega arith)) x l)
      (λ l. let e : x ≡ f n = Memᴰ.eq_of_singleton l in rw e (h n (omega arith)))
      (Memᴰ.append_cases (table f n) (rw (table_more f n) at m))

  -- a row written behind the others
  pub table-added :
      (at : List ℕ → ℕ → A) {words words' : List ℕ} {n : ℕ} {x : A}
      → Added at words words' n x
      → table (at words') (n + 1) ≡ table (at words) n ++ (x ∷ [])
  table-added at {words} {words'} {n} {x} a =
      rw (add-one, table_more (at words') n, table_same (at words') (at words) n a.before, a.new)

  -- the first that passes, by its index
  module _ (p : A → Bool) (f : ℕ → A) where
    from_first :
        (i k j : ℕ)
        → ((l : ℕ) → i ≤ l → l < i + j → p (f l) ≡ false)
        → j < k
        → p (f (i + j)) ≡ true
        → (index_of p (table_from f i k) ≡ j) × (first p (table_from f i k) ≡ some (f (i + j)))
    unfolding table_from index_of
    from_first i zero j h l e = absurd (omega arith)
    from_first i (suc k) zero h l e =
        let q : i + 0 ≡ i = add-zero i in
        let e' : p (f i) ≡ true = rw q at e in
        rw (e', q) (refl, refl)
    from_first i (suc k) (suc j) h l e =
        let q : suc i + j ≡ i + suc j = omega arith in
        let ih = from_first (suc i) k j (λ n a b. h n (omega arith) (omega arith)) (omega arith) (rw q e) in
        rw (h i (omega arith) (omega arith)) (ap suc ih.0, ih.1 ∙ ap (λ (n : ℕ). some (f n)) q)

    from_past :
        (i k : ℕ)
        → ((l : ℕ) → i ≤ l → l < i + k → p (f l) ≡ false)
        → (index_of p (table_from f i k) ≡ k) × (first p (table_from f i k) ≡ none)
    unfolding table_from index_of
    from_past i zero h = (refl, refl)
    from_past i (suc k) h =
        let ih = from_past (suc i) k (λ n a b. h n (omega arith) (omega arith)) in
        rw (h i (omega arith) (omega arith)) (ap suc ih.0, ih.1)

    pub index-found :
        (n i : ℕ) → ((l : ℕ) → l < i → p (f l) ≡ false) → i < n → p (f i) ≡ true → (index_of p (table f n) ≡ i) × (first p (table f n) ≡ some (f i))
    unfolding table
    index-found n i h l e =
        let q : 0 + i ≡ i = zero-add i in
        let r = from_first 0 n i (λ k a b. h k (omega arith)) l (rw q e) in
        (r.0, r.1 ∙ ap (λ (k : ℕ). some (f k)) q)

    pub index-past : (n : ℕ) → ((l : ℕ) → l < n → p (f l) ≡ false) → (index_of p (table f n) ≡ n) × (first p (table f n) ≡ none)
    unfolding table
    index-past n h = from_past 0 n (λ k a b. h k (omega arith))

    pub all-missed : (n i : ℕ) → i ≤ n → n ≤ i → ((l : ℕ) → l < i → p (f l) ≡ false) → i ≡ index_of p (table f n)
    all-missed n i a b h = let e : i ≡ n = omega arith in rw e (sym (index-past n (λ l q. h l (omega arith))).0)

    -- the search that goes front to back, and stops at the first
    pub found-below : (n i : ℕ) → ((l : ℕ) → l < i → p (f l) ≡ false) → i < n → p (f i) ≡ true → Some i ≡ below n (index_of p (table f n))
    found-below n i h l e = sym (rw ((index-found n i h l e).0, lt-ltb i n l))

    pub none-below : (n : ℕ) → ((l : ℕ) → l < n → p (f l) ≡ false) → None ≡ below n (index_of p (table f n))
    none-below n h = sym (rw ((index-past n h).0, le-ltb n n (omega arith)))

    -- what an index tells of the first
    from-tells :
        (i k : ℕ)
        → ((index_of p (table_from f i k) < k) → first p (table_from f i k) ≡ some (f (i + index_of p (table_from f i k))))
        × (k ≤ index_of p (table_from f i k) → first p (table_from f i k) ≡ none)
    unfolding table_from index_of
    from-tells i zero = (λ h. absurd (omega arith), λ h. refl)
    from-tells i (suc k) = go (p (f i)) (from-tells (suc i) k)
      where
        rest : ℕ
        rest = index_of p (table_from f (suc i) k)

        go :
            (b : Bool)
            → ((rest < k) → first p (table_from f (suc i) k) ≡ some (f (suc i + rest)))
            × (k ≤ rest → first p (table_from f (suc i) k) ≡ none)
            → ((cond b 0 (suc rest) < suc k) → cond b (some (f i)) (first p (table_from f (suc i) k)) ≡ some (f (i + cond b 0 (suc rest))))
            × (suc k ≤ cond b 0 (suc rest) → cond b (some (f i)) (first p (table_from f (suc i) k)) ≡ none)
        go true ih = (λ h. ap (λ (n : ℕ). some (f n)) (sym (add-zero i)), λ h. absurd (omega arith))
        go false ih = (λ h. ih.0 (omega arith) ∙ ap (λ (n : ℕ). some (f n)) (omega arith), λ h. ih.1 (omega arith))

    pub first-at : (n i : ℕ) → i ≡ index_of p (table f n) → i < n → first p (table f n) ≡ some (f i)
    unfolding table
    first-at n i e h =
        (from-tells 0 n).0 (rw (← e) h) ∙ ap (λ (k : ℕ). some (f k)) (zero-add (index_of p (table_from f 0 n)) ∙ sym e)

    pub first_past : (n i : ℕ) → i ≡ index_of p (table f n) → n ≤ i → first p (table f n) ≡ none
    unfolding table
    first_past n i e h = (from-tells 0 n).1 (rw (← e) h)

-- a row made of new words
module _ (words : List ℕ) (n a b : ℕ) (row : ChunkRow) (fits : 2 * n + 1 < length words) where
  pub chunk-added : chunk_row_of (parts_of a) (parts_of b) ≡ row → Added chunk_row_at words (set (set words (2 * n) a) (2 * n + 1) b) n row
  chunk-added e =
      record {
        long = length-set (set words (2 * n) a) (2 * n + 1) b ∙ length-set words (2 * n) a;
        new = unfold chunk_row_at in (rw (first_word, second_word) e);
        before = λ i h. unfold chunk_row_at in (rw (kept (2 * i) (omega arith), kept (2 * i + 1) (omega arith)));
      }
    where
      inner : 2 * n + 1 < length (set words (2 * n) a)
      inner = lt-length-set words (2 * n) a fits

      first_word : get_or (set (set words (2 * n) a) (2 * n + 1) b) (2 * n) 0 ≡ a
      first_word =
          get_or-set_other (set words (2 * n) a) (2 * n + 1) (2 * n) b 0 (λ q. omega arith)
          ∙ get_or-set_same words (2 * n) a 0 (omega arith)

      second_word : get_or (set (set words (2 * n) a) (2 * n + 1) b) (2 * n + 1) 0 ≡ b
      second_word = get_or-set_same (set words (2 * n) a) (2 * n + 1) b 0 inner

      kept : (i : ℕ) → i < 2 * n → get_or (set (set words (2 * n) a) (2 * n + 1) b) i 0 ≡ get_or words i 0
      kept i h =
          get_or-set_other (set words (2 * n) a) (2 * n + 1) i b 0 (λ q. omega arith)
          ∙ get_or-set_other words (2 * n) i a 0 (λ q. omega arith)

module _ (words : List ℕ) (n a b l : ℕ) (row : Fork) (fits : 3 * n + 2 < length words) where
  abbrev three : List ℕ
  three = set (set (set words (3 * n) a) (3 * n + 1) b) (3 * n + 2) l

  pub fork-added : fork_row_of (parts_of a) (parts_of b) l ≡ row → Added fork_row_at words three n row
  fork-added e =
      record {
        long = length-set two (3 * n + 2) l ∙ length-set one (3 * n + 1) b ∙ length-set words (3 * n) a;
        new = unfold fork_row_at in (rw (first_word, second_word, third-word) e);
        before =
            λ i h. unfold fork_row_at in (rw (kept (3 * i) (omega arith), kept (3 * i + 1) (omega arith), kept (3 * i + 2) (omega arith)));
      }
    where
      one : List ℕ
      one = set words (3 * n) a

      two : List ℕ
      two = set (set words (3 * n) a) (3 * n + 1) b

      long-one : 3 * n + 2 < length one
      long-one = lt-length-set words (3 * n) a fits

      long-two : 3 * n + 2 < length two
      long-two = lt-length-set one (3 * n + 1) b long-one

      first_word : get_or three (3 * n) 0 ≡ a
      first_word =
          get_or-set_other two (3 * n + 2) (3 * n) l 0 (λ q. omega arith)
          ∙ get_or-set_other one (3 * n + 1) (3 * n) b 0 (λ q. omega arith)
          ∙ get_or-set_same words (3 * n) a 0 (omega arith)

      second_word : get_or three (3 * n + 1) 0 ≡ b
      second_word =
          get_or-set_other two (3 * n + 2) (3 * n + 1) l 0 (λ q. omega arith) ∙ get_or-set_same one (3 * n + 1) b 0 (omega (arith, long-one))

      third-word : get_or three (3 * n + 2) 0 ≡ l
      third-word = get_or-set_same two (3 * n + 2) l 0 long-two

      kept : (i : ℕ) → i < 3 * n → get_or three i 0 ≡ get_or words i 0
      kept i h =
          get_or-set_other two (3 * n + 2) i l 0 (λ q. omega arith)
          ∙ get_or-set_other one (3 * n + 1) i b 0 (λ q. omega arith)
          ∙ get_or-set_other words (3 * n) i a 0 (λ q. omega arith)

-- a chunk's end is stored as the offset of its last command
pub stored_past : (place past team member barriers : ℕ) (complete : Bool) (segments accesses : ℕ) (one other : Parts) → 1 ≤ past →
    one ≡ record { first = place; second = barriers; third = bool_byte complete; fourth = member; fifth = team } →
    other ≡ record { first = past - 1; second = segments; third = 0; fourth = 0; fifth = accesses } →
    chunk_row_of one other ≡ record { place = place; past = past; team = team; member = member; barriers = barriers; complete = complete; segments = segments; accesses = accesses }
unfolding chunk_row_of
stored_past place past team member barriers complete segments accesses one other h e q =
    let r : past - 1 + 1 ≡ past = omega arith in
    rw (e, q, r, flag complete)
  where
    flag : (b : Bool) → eqb (bool_byte b) 1 ≡ b
    flag true = refl
    flag false = refl

pub stored-fork : (f : Fork) (one other : Parts) →
    one ≡ record { first = f.place; second = f.parent; third = f.size; fourth = f.member; fifth = f.team } →
    other ≡ record { first = f.state.barriers; second = f.state.regions; third = 0; fourth = 0; fifth = 0 } →
    fork_row_of one other f.state.locks ≡ f
unfolding fork_row_of
stored-fork f one other e q = rw (e, q)

-- an index that is found, or none
pub below-some : {n k i : ℕ} → Some i ≡ below n k → (i ≡ k) × (k < n)
below-some {n} {k} {i} e = go (ltb k n) refl e
  where
    go : (b : Bool) → ltb k n ≡ b → Some i ≡ cond b (Some k) None → (i ≡ k) × (k < n)
    go true q w = let x : i ≡ k = cc in (x, ltb-true k n q)
    go false q w = let z : ◌≡◌ {A = ℕ} 0 1 = cc in absurd (omega arith)

pub below-none : {n k : ℕ} → None ≡ below n k → n ≤ k
below-none {n} {k} e = go (ltb k n) refl e
  where
    go : (b : Bool) → ltb k n ≡ b → None ≡ cond b (Some k) None → n ≤ k
    go true q w = let z : ◌≡◌ {A = ℕ} 0 1 = cc in absurd (omega arith)
    go false q w = ltb-false k n q
