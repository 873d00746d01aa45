-- What stands above a chunk in a lineage, and what counts up to where two lineages part.
use Prim.Native.Nat.{ℕ, zero, suc, ◌≤◌, ◌<◌}
use mathlib.Core.Path.{◌≡◌, refl, sym, ◌∙◌, ap, subst}
use mathlib.Core.Logic.{◌⊎◌, inl, inr, ⊎_elim}
use mathlib.Core.Bool.{Bool, true, false}
use mathlib.Core.List.Memᴰ
use mathlib.Core.List.{List, [], ◌∷◌, ◌++◌, Memᴰ}
use mathlib.Core.Option.{Option, none, some}
use native.Mathlib.Omega.{arith}
use lib.Dec.{eqb}
use borrow.Author.Tests.{eqb-true, eq-eqb}
use Rattle.bundle.specs.Lists.{any}
use Rattle.bundle.specs.Check.{fork_of}
use Rattle.bundle.specs.declared.index.Fork.{Fork}
use Rattle.bundle.proofs.ListLaws.{any-elim, any-intro}
use Rattle.order.proofs.Climbs.{fork-team}
use Rattle.verdict.specs.Lineages.{Holder, above_from, lineage, has_team, up_to_parting}
use Rattle.verdict.specs.Parting.{Parting}
use Rattle.verdict.proofs.LineageLaws.{above-forked}

-- all below the parting team counts, and the member in it
counts-to :
    (other : List Holder) (top : Holder) (above : List Holder)
    → has_team other top.team ≡ true
    → (low : List Holder)
    → ((h : Holder) → Memᴰ h low → has_team other h.team ≡ false)
    → up_to_parting (low ++ (top ∷ above)) other ≡ low ++ (top ∷ [])
unfolding up_to_parting
counts-to other top above e [] free = rw e
counts-to other top above e (h ∷ low) free =
    rw (free h (Memᴰ.head refl), counts-to other top above e low (λ z m. free z (Memᴰ.tail m)))

-- a lineage goes through a member of a team, and from there through all that is above the team
pub record Through (fs : List Fork) (hs : List Holder) (team member : ℕ) : Type 0 where
  pub low : List Holder
  pub top : Holder
  pub in_team : top.team ≡ team
  pub as_member : top.member ≡ member
  pub whole : hs ≡ low ++ (top ∷ above_from (suc team) fs team)

module _ (fs : List Fork) (falls : (f : Fork) → Memᴰ f fs → f.parent < f.team) where
  abbrev over : ℕ → List Holder
  over t = above_from (suc t) fs t

  -- chunks on the way up: their team numbers fall, and behind each stands all that is above its team
  data Rising : ℕ → List Holder → Type 0 where
    risen : {t : ℕ} → Rising t []
    rises : {t : ℕ} {h : Holder} {hs : List Holder} → h.team < t → hs ≡ over h.team → Rising h.team hs → Rising t (h ∷ hs)

  over_root : (t : ℕ) → fork_of fs t ≡ none → over t ≡ []
  unfolding above_from
  over_root t e = rw e

  over-rises : (n t : ℕ) → t < n → Rising t (over t)
  over-rises zero t h = absurd (omega arith)
  over-rises (suc n) t h = go (fork_of fs t) refl (over-rises n)
    where
      go : (o : Option Fork) → fork_of fs t ≡ o → ((u : ℕ) → u < n → Rising u (over u)) → Rising t (over t)
      go none e ih = subst (Rising t) (sym (over_root t e)) risen
      go (some f) e ih =
          let below = fork-team fs falls e in
          subst (Rising t) (sym (above-forked fs falls t e)) (unfold lineage in (rises below refl (ih f.parent (omega arith))))

  lineage-rises : (h : Holder) → Rising (suc h.team) (lineage fs h)
  unfolding lineage
  lineage-rises h = rises {t = suc h.team} {h = h} (omega arith) refl (over-rises (suc h.team) h.team (omega arith))

  team-low : {t : ℕ} {hs : List Holder} {x : Holder} → Rising t hs → Memᴰ x hs → x.team < t
  team-low risen m = absurd (Memᴰ.not-nil m)
  team-low {x = x} (rises {h = h} l e r) m =
      ⊎_elim
      (λ (q : x ≡ h). let z = ap (λ (y : Holder). y.team) q in omega arith)
      (λ k. let z = team-low r k in omega arith)
      (Memᴰ.cases_cons m)

  -- one chunk of a team
  one-of-team : {t : ℕ} {hs : List Holder} {x y : Holder} → Rising t hs → Memᴰ x hs → Memᴰ y hs → x.team ≡ y.team → x ≡ y
  one-of-team risen m l e = absurd (Memᴰ.not-nil m)
  one-of-team {x = x} {y} (rises {h = h} {hs = hs} b o r) m l e = go (one-of-team r) (Memᴰ.cases_cons m) (Memᴰ.cases_cons l)
    where
      go :
          (Memᴰ x hs → Memᴰ y hs → x.team ≡ y.team → x ≡ y)
          → (x ≡ h) ⊎ Memᴰ x hs
          → (y ≡ h) ⊎ Memᴰ y hs
          → x ≡ y
      go ih (inl p) (inl q) = p ∙ sym q
      go ih (inl p) (inr q) = let z = ap (λ (w : Holder). w.team) p in let v = team-low r q in absurd (omega arith)
      go ih (inr p) (inl q) = let z = ap (λ (w : Holder). w.team) q in let v = team-low r p in absurd (omega arith)
      go ih (inr p) (inr q) = ih p q e

  module _ (top : Holder) (above : List Holder) where
    -- a chunk above another
    top-over : {t : ℕ} {h : Holder} (low : List Holder) → Rising t (low ++ (top ∷ above)) → Memᴰ h low → Memᴰ top (over h.team)
    top-over [] r m = absurd (Memᴰ.not-nil m)
    top-over {h = h} (x ∷ low) (rises l e r) m =
        ⊎_elim
        (λ (q : h ≡ x). subst (λ (y : Holder). Memᴰ top (over y.team)) (sym q) (subst (Memᴰ top) e (Memᴰ.append_right low (Memᴰ.head refl))))
        (top-over low r)
        (Memᴰ.cases_cons m)

    from-top : {t : ℕ} {h : Holder} (low : List Holder) → Rising t (low ++ (top ∷ above)) → Memᴰ h (top ∷ above) → h.team ≤ top.team
    from-top {h = h} [] (rises l e r) m =
        ⊎_elim
        (λ (q : h ≡ top). let z = ap (λ (y : Holder). y.team) q in omega arith)
        (λ k. let z = team-low r k in omega arith)
        (Memᴰ.cases_cons m)
    from-top (x ∷ low) (rises l e r) m = from-top low r m

  -- two lineages that go through different members of one team
  module _ (one other : Holder) {t m n : ℕ} (a : Through fs (lineage fs one) t m) (b : Through fs (lineage fs other) t n) (apart : m ≡ n → ⊥) where
    rising : Rising (suc one.team) (a.low ++ (a.top ∷ over t))
    rising = subst (Rising (suc one.team)) a.whole (lineage-rises one)

    other-rising : Rising (suc other.team) (b.low ++ (b.top ∷ over t))
    other-rising = subst (Rising (suc other.team)) b.whole (lineage-rises other)

    -- no team below theirs is one of the other lineage's
    never : (h w : Holder) → Memᴰ h a.low → Memᴰ w (b.low ++ (b.top ∷ over t)) → w.team ≡ h.team → ⊥
    never h w i l e = ⊎_elim beside higher (Memᴰ.append_cases b.low l)
      where
        mine : Memᴰ a.top (over h.team)
        mine = top-over a.top (over t) a.low rising i

        up : Rising h.team (over h.team)
        up = over-rises (suc h.team) h.team (omega arith)

        beside : Memᴰ w b.low → ⊥
        beside k =
            let theirs = subst (λ (u : ℕ). Memᴰ b.top (over u)) e (top-over b.top (over t) b.low other-rising k) in
            let same = one-of-team up mine theirs (a.in_team ∙ sym b.in_team) in
            apart (sym a.as_member ∙ ap (λ (x : Holder). x.member) same ∙ b.as_member)

        higher : Memᴰ w (b.top ∷ over t) → ⊥
        higher k =
            let v = from-top b.top (over t) b.low other-rising k in
            let z = team-low up mine in
            omega (arith, a.in_team, b.in_team)

    below_free : (h : Holder) → Memᴰ h a.low → has_team (lineage fs other) h.team ≡ false
    unfolding has_team
    below_free h i = go (any (λ (x : Holder). eqb x.team h.team) (lineage fs other)) refl
      where
        go : (c : Bool) → any (λ (x : Holder). eqb x.team h.team) (lineage fs other) ≡ c → c ≡ false
        go true e =
            let w = any-elim (λ (x : Holder). eqb x.team h.team) (lineage fs other) e in
            absurd (never h w.element i (subst (Memᴰ w.element) b.whole w.present) (eqb-true w.element.team h.team w.passes))
        go false e = refl

    top-shared : has_team (lineage fs other) a.top.team ≡ true
    unfolding has_team
    top-shared =
        any-intro (λ (x : Holder). eqb x.team a.top.team)
        (subst (Memᴰ b.top) (sym b.whole) (Memᴰ.append_right b.low (Memᴰ.head refl)))
        (eq-eqb b.top.team a.top.team (b.in_team ∙ sym a.in_team))

    pub counted-to : up_to_parting (lineage fs one) (lineage fs other) ≡ a.low ++ (a.top ∷ [])
    counted-to =
        ap (λ (hs : List Holder). up_to_parting hs (lineage fs other)) a.whole
        ∙ counts-to (lineage fs other) a.top (over t) top-shared a.low below_free

  pub parting : (one other : Holder) {t m n : ℕ} → Through fs (lineage fs one) t m → Through fs (lineage fs other) t n → (m ≡ n → ⊥) → Parting (lineage fs one) (lineage fs other)
  parting one other {t} a b apart =
      record {
        above = over t;
        member = a.top;
        other_member = b.top;
        below = a.low;
        other_below = b.low;
        whole = a.whole;
        other_whole = b.whole;
        one_team = a.in_team ∙ sym b.in_team;
        different_members = λ e. apart (sym a.as_member ∙ e ∙ b.as_member);
        counted = counted-to one other a b apart;
        other_counted = counted-to other one b a (λ e. apart (sym e));
      }
