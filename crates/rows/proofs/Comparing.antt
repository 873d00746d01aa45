-- Given records against those of the bundle: they agree in full exactly when they are equal, and else up to the first that differs.
use Prim.Native.Nat.{ℕ, suc}
use mathlib.Core.Path.{◌≡◌, refl, sym, ◌∙◌, ap, ap₂}
use mathlib.Core.Bool.{Bool, true, false, cond, not, ◌&&◌}
use mathlib.Core.List.{List, [], ◌∷◌}
use native.Mathlib.Omega.{arith}
use Rattle.std.proofs.Math.Bool.{and_assoc}
use lib.ListN.{length}
use lib.Dec.{eqb}
use borrow.Author.Tests.{eqb-true, eq-eqb}
use Rattle.bundle.specs.Answer.{Answer, gives, refuses}
use Rattle.bundle.proofs.Tests.{both, and_left, and_right, is_false, false_of_not, not-both}
use Rattle.rows.specs.Rows.{same_row, agreeing, compared_with}
use Rattle.rows.specs.RowLaws.{FirstOther}
use Rattle.rows.specs.declared.row.Row.{Row}

-- the same in every column
three : (p q r : Bool) → (p && (q && r)) ≡ true → (p ≡ true) × (q ≡ true) × (r ≡ true)
three p q r e =
    let more = and_right p (q && r) e in
    (and_left p (q && r) e, and_left q r more, and_right q r more)

pub same_rows : (a b : Row) → same_row a b ≡ true → a ≡ b
unfolding same_row
same_rows a b e =
    let first = eqb a.pid b.pid && (eqb a.ppid b.ppid && eqb a.bid b.bid) in
    let second = eqb a.offset b.offset && (eqb a.span b.span && eqb a.level b.level) in
    let third = eqb a.begin b.begin && eqb a.size b.size in
    let more = and_right first (second && third) e in
    let ids = three (eqb a.pid b.pid) (eqb a.ppid b.ppid) (eqb a.bid b.bid) (and_left first (second && third) e) in
    let label = three (eqb a.offset b.offset) (eqb a.span b.span) (eqb a.level b.level) (and_left second third more) in
    let place = and_right second third more in
    λ i.
    record {
      pid = eqb-true a.pid b.pid ids.0 i;
      ppid = eqb-true a.ppid b.ppid ids.1 i;
      bid = eqb-true a.bid b.bid ids.2 i;
      offset = eqb-true a.offset b.offset label.0 i;
      span = eqb-true a.span b.span label.1 i;
      level = eqb-true a.level b.level label.2 i;
      begin = eqb-true a.begin b.begin (and_left (eqb a.begin b.begin) (eqb a.size b.size) place) i;
      size = eqb-true a.size b.size (and_right (eqb a.begin b.begin) (eqb a.size b.size) place) i;
    }

pub row-itself : (a : Row) → same_row a a ≡ true
unfolding same_row
row-itself a =
    both
    (both (own a.pid) (both (own a.ppid) (own a.bid)))
    (both (both (own a.offset) (both (own a.span) (own a.level))) (both (own a.begin) (own a.size)))
  where
    own : (n : ℕ) → eqb n n ≡ true
    own n = eq-eqb n n refl

-- `==` as it is derived: it is the same test, column by column
abbrev pub same_columns : Row → Row → Bool
same_columns a b =
    eqb a.pid b.pid
    && (eqb a.ppid b.ppid
    && (eqb a.bid b.bid
    && (eqb a.offset b.offset && (eqb a.span b.span && (eqb a.level b.level && (eqb a.begin b.begin && eqb a.size b.size))))))

pub columns-same : (a b : Row) → same_columns a b ≡ same_row a b
unfolding same_row
columns-same a b = simp and_assoc

pub unlike-rows : (a b : Row) {t : Bool} → t ≡ not (same_columns a b) → t ≡ true → a ≡ b → ⊥
unlike-rows a b {t} e q s =
    not-both (columns-same b b ∙ row-itself b)
    (false_of_not (same_columns b b) (sym (ap (λ (x : Row). not (same_columns x b)) s) ∙ sym e ∙ q))

-- lists that agree in full
agreeing-itself : (rs : List Row) → agreeing rs rs ≡ length rs
unfolding agreeing
agreeing-itself [] = refl
agreeing-itself (r ∷ rs) = rw (row-itself r) (ap suc (agreeing-itself rs))

all-agreeing : (rs gs : List Row) → agreeing rs gs ≡ length rs → agreeing rs gs ≡ length gs → gs ≡ rs
unfolding agreeing
all-agreeing [] [] p q = refl
all-agreeing [] (g ∷ gs) p q = absurd (omega (arith, q))
all-agreeing (r ∷ rs) [] p q = absurd (omega (arith, p))
all-agreeing (r ∷ rs) (g ∷ gs) p q = go (all-agreeing rs gs) (same_row r g) refl p q
  where
    n : ℕ
    n = agreeing rs gs

    go :
        (n ≡ length rs → n ≡ length gs → gs ≡ rs)
        → (t : Bool)
        → same_row r g ≡ t
        → cond t (suc n) 0 ≡ suc (length rs)
        → cond t (suc n) 0 ≡ suc (length gs)
        → g ∷ gs ≡ r ∷ rs
    go ih true e x y = ap₂ (λ (h : Row) (hs : List Row). h ∷ hs) (sym (same_rows r g e)) (ih (omega (arith, x)) (omega (arith, y)))
    go ih false e x y = absurd (omega (arith, x))

-- where they first differ
pub first-other : (rs gs : List Row) → FirstOther rs gs (agreeing rs gs)
unfolding agreeing
first-other [] gs = record { within = omega arith; within_given = omega arith; same = refl; other = λ d h l e. omega (arith, h) }
first-other (r ∷ rs) [] = record { within = omega arith; within_given = omega arith; same = refl; other = λ d h l e. omega (arith, l) }
first-other (r ∷ rs) (g ∷ gs) = go (first-other rs gs) (same_row r g) refl
  where
    go : FirstOther rs gs (agreeing rs gs) → (t : Bool) → same_row r g ≡ t → FirstOther (r ∷ rs) (g ∷ gs) (cond t (suc (agreeing rs gs)) 0)
    go ih true e =
        record {
          within = omega (arith, ih.within);
          within_given = omega (arith, ih.within_given);
          same = ap₂ (λ (h : Row) (hs : List Row). h ∷ hs) (same_rows r g e) ih.same;
          other = λ d h l. ih.other d (omega (arith, h)) (omega (arith, l));
        }
    go ih false e =
        record {
          within = omega arith;
          within_given = omega arith;
          same = refl;
          other = λ d h l q. not-both (ap (same_row r) (sym q) ∙ row-itself r) e;
        }

-- what the checker answers
module _ (given rows : List Row) where
  abbrev agreed : Bool
  agreed = eqb (agreeing rows given) (length rows) && eqb (agreeing rows given) (length given)

  agreed-equal : agreed ≡ true → given ≡ rows
  agreed-equal e =
      let n = agreeing rows given in
      let long = eqb n (length rows) in
      let as_long = eqb n (length given) in
      all-agreeing rows given (eqb-true n (length rows) (and_left long as_long e)) (eqb-true n (length given) (and_right long as_long e))

  pub compared-other : (given ≡ rows → ⊥) → compared_with given rows ≡ refuses 23 (agreeing rows given)
  unfolding compared_with
  compared-other h = rw (is_false agreed (λ e. h (agreed-equal e)))

  pub compared-gives : compared_with given rows ≡ gives tt → given ≡ rows
  unfolding compared_with
  compared-gives = go agreed refl
    where
      go : (t : Bool) → agreed ≡ t → ◌≡◌ {A = Answer (Unit {0})} (cond t (gives tt) (refuses 23 (agreeing rows given))) (gives tt) → given ≡ rows
      go true e q = agreed-equal e
      go false e q = let z : ◌≡◌ {A = ℕ} 0 1 = cc in absurd (omega arith)

pub compared-itself : (rows : List Row) → compared_with rows rows ≡ gives tt
unfolding compared_with
compared-itself rows = rw (both (eq-eqb (agreeing rows rows) (length rows) (agreeing-itself rows)) (eq-eqb (agreeing rows rows) (length rows) (agreeing-itself rows)))
