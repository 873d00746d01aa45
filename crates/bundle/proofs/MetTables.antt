-- The tables of a pass over the chunks: a bit for each member that was met, and the number of the lowest-numbered complete one.
use Prim.Native.Nat.{ℕ, zero, suc, ◌+◌, ◌-◌, ◌*◌, ◌/◌, ◌%◌, ◌^◌, ◌≤◌, ◌<◌}
use mathlib.Core.Path.{◌≡◌, refl, sym, ◌∙◌, ap, subst}
use mathlib.Core.Logic.{◌⊎◌, inl, inr}
use mathlib.Core.Bool.{Bool, true, false, cond, not, ◌&&◌, ◌||◌}
use mathlib.Core.List.{List, [], ◌∷◌, ◌++◌}
use native.Mathlib.Omega.{arith}
use native.Mathlib.Nat.{div-eq_of_lt, one-mul}
use native.Mathlib.Decide.{ℕ_discrete, dec_lt}
use lib.Dec.{eqb, ltb}
use lib.Bits.{bit_or, or_shr, or_mod, or_zero_r, shifted_even}
use lib.ListN.{length, get_or, set, replicate, length-set, length-replicate, get_or-eq_default}
use lib.Pow.{pow_pos, pow-lt, pow-add, shl-shr}
use lib.Seq.{get_or-set_same, get_or-set_other}
use borrow.Author.Tests.{eqb-true, eq-eqb, ltb-true}
use Rattle.bundle.specs.Lists.{up_to, any, all}
use Rattle.bundle.specs.Index.{table, is_row}
use Rattle.bundle.specs.Shape.{slot_of, met_at, marked_at, Known, lead_word, Lead, noted_lead, Met, Blank, lacks_by}
use Rattle.bundle.specs.declared.index.ChunkRow.{ChunkRow}
use Rattle.bundle.specs.declared.index.Fork.{Fork}
use Rattle.bundle.proofs.Tests.{both, and_left, and_right, not-both, is_false, decide}
use Rattle.bundle.proofs.ListLaws.{all-elim, all-intro, up_to-elim, up_to-intro}
use Rattle.bundle.proofs.Tables.{table-length}
use Rattle.bundle.proofs.FailingAt.{any_last}
use Rattle.bundle.proofs.Slots.{slots-differ}
use Rattle.bundle.proofs.Leads.{complete-row, other-team, lead-none, lead-skip, lead-new, lead-kept}

-- bits of a word
or-one-bit : (x : ℕ) → x < 2 → bit_or x 1 ≡ 1
or-one-bit zero h = refl
or-one-bit (suc zero) h = refl
or-one-bit (suc (suc x)) h = absurd (omega arith)

bit-here : (w b : ℕ) → bit_or w (2 ^ b) / 2 ^ b % 2 ≡ 1
bit-here w b =
    let one : 2 ^ b / 2 ^ b ≡ 1 = ap (λ (p : ℕ). p / 2 ^ b) (sym (one-mul (2 ^ b))) ∙ shl-shr 1 b in
    ap (λ (x : ℕ). x % 2) (or_shr w (2 ^ b) b ∙ ap (bit_or (w / 2 ^ b)) one)
    ∙ or_mod (w / 2 ^ b) 1 1
    ∙ or-one-bit (w / 2 ^ b % 2) (omega arith)

one_bit : (b k : ℕ) → (k ≡ b → ⊥) → 2 ^ b / 2 ^ k % 2 ≡ 0
one_bit b k ne = go (dec_lt b k)
  where
    go : Dec (b < k) → 2 ^ b / 2 ^ k % 2 ≡ 0
    go (yes h) = ap (λ (x : ℕ). x % 2) (div-eq_of_lt (pow-lt h))
    go (no h) =
        let d = b - k - 1 in
        let e : b ≡ suc d + k = omega arith in
        ap (λ (x : ℕ). x / 2 ^ k % 2) (ap (λ (i : ℕ). 2 ^ i) e ∙ pow-add 2 (suc d) k)
        ∙ ap (λ (x : ℕ). x % 2) (shl-shr (2 ^ suc d) k ∙ sym (one-mul (2 ^ suc d)))
        ∙ shifted_even 1 d

bit-other : (w b k : ℕ) → (k ≡ b → ⊥) → bit_or w (2 ^ b) / 2 ^ k % 2 ≡ w / 2 ^ k % 2
bit-other w b k ne =
    ap (λ (x : ℕ). x % 2) (or_shr w (2 ^ b) k)
    ∙ or_mod (w / 2 ^ k) (2 ^ b / 2 ^ k) 1
    ∙ ap (bit_or (w / 2 ^ k % 2)) (one_bit b k ne)
    ∙ or_zero_r (w / 2 ^ k % 2)

-- past the end of the words no member was met
zero_bit : (k : ℕ) → false ≡ eqb (0 / 2 ^ k % 2) 1
zero_bit k = rw (div-eq_of_lt {n = 0} {m = 2 ^ k} (pow_pos k))

pub met-past : (masks : List ℕ) (s m : ℕ) → length masks ≤ 4 * s + m / 64 → false ≡ met_at masks s m
unfolding met_at
met-past masks s m h = zero_bit (m % 64) ∙ sym (rw (get_or-eq_default masks 0 h))

-- a member marked
module _ (masks : List ℕ) (s m : ℕ) (small : m < 256) (room : 4 * s + 3 < length masks) where
  marked-here : met_at (marked_at masks s m) s m ≡ true
  unfolding met_at marked_at
  marked-here =
      rw (get_or-set_same masks (4 * s + m / 64) (bit_or (get_or masks (4 * s + m / 64) 0) (2 ^ (m % 64))) 0 (omega arith))
      (eq-eqb _ 1 (bit-here (get_or masks (4 * s + m / 64) 0) (m % 64)))

  marked_other : (u k : ℕ) → k < 256 → (u ≡ s → k ≡ m → ⊥) → met_at (marked_at masks s m) u k ≡ met_at masks u k
  unfolding met_at marked_at
  marked_other u k low ne = go (ℕ_discrete (4 * u + k / 64) (4 * s + m / 64))
    where
      w : ℕ
      w = bit_or (get_or masks (4 * s + m / 64) 0) (2 ^ (m % 64))

      go :
          Dec (4 * u + k / 64 ≡ 4 * s + m / 64)
          → eqb (get_or (set masks (4 * s + m / 64) w) (4 * u + k / 64) 0 / 2 ^ (k % 64) % 2) 1
          ≡ eqb (get_or masks (4 * u + k / 64) 0 / 2 ^ (k % 64) % 2) 1
      go (yes e) =
          let apart : k % 64 ≡ m % 64 → ⊥ = λ q. ne (omega arith) (omega arith) in
          rw (e, get_or-set_same masks (4 * s + m / 64) w 0 (omega arith), bit-other (get_or masks (4 * s + m / 64) 0) (m % 64) (k % 64) apart)
      go (no g) = rw (get_or-set_other masks (4 * s + m / 64) (4 * u + k / 64) w 0 g)

-- 10, by the members met
module _ (masks : List ℕ) (s size : ℕ) where
  pub lacks-one : (m : ℕ) → m < size → met_at masks s m ≡ false → true ≡ lacks_by masks s size
  unfolding lacks_by
  lacks-one m h e =
      sym (ap not (is_false (all (λ k. met_at masks s k) (up_to size)) (λ a. not-both (all-elim (λ k. met_at masks s k) a (up_to-intro size h)) e)))

  pub lacks-none : ((m : ℕ) → m < size → met_at masks s m ≡ true) → false ≡ lacks_by masks s size
  unfolding lacks_by
  lacks-none h = sym (ap not (all-intro (λ k. met_at masks s k) (up_to size) (λ k l. h k (up_to-elim size l))))

row_is : (r : ChunkRow) (t m : ℕ) → is_row t m r ≡ true → (r.team ≡ t) × (r.member ≡ m)
unfolding is_row
row_is r t m e = (
  eqb-true r.team t (and_left (eqb r.team t) (eqb r.member m) e),
  eqb-true r.member m (and_right (eqb r.team t) (eqb r.member m) e),
)

pub is-row : (r : ChunkRow) (t m : ℕ) → r.team ≡ t → r.member ≡ m → is_row t m r ≡ true
unfolding is_row
is-row r t m e q = both (eq-eqb r.team t e) (eq-eqb r.member m q)

-- no chunk was met
zeros : (n k : ℕ) → get_or {A = ℕ} (replicate n 0) k 0 ≡ 0
zeros zero k = refl
zeros (suc n) zero = refl
zeros (suc n) (suc k) = zeros n k

met-nothing :
    (fs : List Fork) {rs : List ChunkRow} (a b : ℕ)
    → 4 * length fs + 3 < a
    → length fs < b
    → rs ≡ []
    → Met fs rs (replicate a 0) (replicate b 0)
unfolding met_at
met-nothing fs a b h l e =
    record {
      masks_long = rw (length-replicate {A = ℕ} a 0) h;
      leads_long = rw (length-replicate {A = ℕ} b 0) l;
      members = λ t m k s. rw (e, zeros a (4 * slot_of fs t + m / 64)) (sym (zero_bit (m % 64)));
      lowest = λ t k. rw (e, zeros b (slot_of fs t)) (lead-none t);
    }

pub nothing-met : {order masks leads : List ℕ} (f : ℕ → Fork) (n : ℕ) (rs : List ChunkRow) → Blank order masks leads n → rs ≡ [] → Met (table f n) rs masks leads
nothing-met {masks = masks} {leads = leads} f n rs b e =
    let l = table-length f n in
    subst (λ (ms : List ℕ). Met (table f n) rs ms leads) (sym b.masks_clear)
    (subst (λ (bs : List ℕ). Met (table f n) rs (replicate (length masks) 0) bs) (sym b.leads_clear)
    (met-nothing (table f n) (length masks) (length leads) (omega (arith, b.masks_long)) (omega (arith, b.leads_long)) e))

-- one chunk more, of a member that was not met
module _ (f : ℕ → Fork) (n : ℕ) (rs : List ChunkRow) (r : ChunkRow) (masks leads : List ℕ)
    (met : Met (table f n) rs masks leads)
    (known : Known (table f n) r.team)
    (small : r.member < 256)
    (within : slot_of (table f n) r.team ≤ length (table f n))
    (new : any (is_row r.team r.member) rs ≡ false) where
  abbrev fs : List Fork
  fs = table f n

  members : (t m : ℕ) → Known fs t → m < 256 → met_at (marked_at masks (slot_of fs r.team) r.member) (slot_of fs t) m ≡ any (is_row t m) (rs ++ (r ∷ []))
  members t m k h = go (decide (is_row t m r)) ∙ sym (any_last (is_row t m) rs r)
    where
      room : 4 * slot_of fs r.team + 3 < length masks
      room = omega (arith, met.masks_long)

      go : (is_row t m r ≡ true) ⊎ (is_row t m r ≡ false) → met_at (marked_at masks (slot_of fs r.team) r.member) (slot_of fs t) m ≡ (is_row t m r || any (is_row t m) rs)
      go (inl e) =
          let q = row_is r t m e in
          rw (e, ← q.0, ← q.1) (marked-here masks (slot_of fs r.team) r.member small room)
      go (inr e) =
          let apart : slot_of fs t ≡ slot_of fs r.team → m ≡ r.member → ⊥ =
          λ p q. not-both (is-row r t m (sym (slots-differ f n t r.team k known p)) (sym q)) e
          in
          marked_other masks (slot_of fs r.team) r.member small room (slot_of fs t) m h apart
          ∙ met.members t m k h
          ∙ sym (rw e)

  lowest : (t : ℕ) → Known fs t → Lead (rs ++ (r ∷ [])) t (get_or (noted_lead r leads (slot_of fs r.team)) (slot_of fs t) 0)
  unfolding noted_lead
  lowest t k = go (ℕ_discrete r.team t) (decide (r.complete && ltb (get_or leads slot 0) (lead_word r)))
    where
      slot : ℕ
      slot = slot_of fs r.team

      noted : Bool
      noted = r.complete && ltb (get_or leads (slot_of fs r.team) 0) (lead_word r)

      go :
          Dec (r.team ≡ t)
          → (noted ≡ true) ⊎ (noted ≡ false)
          → Lead (rs ++ (r ∷ [])) t (get_or (cond noted (set leads slot (lead_word r)) leads) (slot_of fs t) 0)
      go (yes e) (inl h) =
          rw (h, ← e, get_or-set_same leads slot (lead_word r) 0 (omega (arith, met.leads_long)))
          (lead-new r (met.lowest r.team known) (complete-row r refl (and_left r.complete _ h)) (ltb-true _ _ (and_right r.complete _ h)))
      go (yes e) (inr h) = rw (h, ← e) (lead-kept r (met.lowest r.team known) h)
      go (no ne) (inl h) =
          rw (h, get_or-set_other leads slot (slot_of fs t) (lead_word r) 0 (λ q. ne (sym (slots-differ f n t r.team k known q))))
          (lead-skip r (met.lowest t k) (other-team r ne))
      go (no ne) (inr h) = rw h (lead-skip r (met.lowest t k) (other-team r ne))

  pub met-more : Met fs (rs ++ (r ∷ [])) (marked_at masks (slot_of fs r.team) r.member) (noted_lead r leads (slot_of fs r.team))
  met-more =
      record {
        masks_long = unfold marked_at in (rw length-set met.masks_long);
        leads_long = unfold noted_lead in (longer (r.complete && ltb (get_or leads (slot_of fs r.team) 0) (lead_word r)));
        members = members;
        lowest = lowest;
      }
    where
      longer : (b : Bool) → length fs < length (cond b (set leads (slot_of fs r.team) (lead_word r)) leads)
      longer true = rw length-set met.leads_long
      longer false = met.leads_long
