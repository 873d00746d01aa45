-- The rows of two accesses give the race of the two, whichever comes first.
use Prim.Native.Nat.{ℕ, ◌-◌, ◌≤◌, ◌/◌, ◌%◌}
use mathlib.Core.Path.{◌≡◌, refl, sym, ◌∙◌, ap, ap₂, subst}
use mathlib.Core.Bool.{Bool, true, false, cond, not, ◌&&◌, ◌||◌}
use mathlib.Core.List.{List, [], ◌∷◌, ◌++◌, append-nil}
use mathlib.Core.Option.{Option, none, some}
use native.Mathlib.Omega.{arith}
use native.Mathlib.Nat.{mul-le-mul_right, add_comm}
use lib.Dec.{ltb, leb}
use borrow.Author.Tests.{le-leb}
use Rattle.bundle.specs.Lists.{from_option}
use Rattle.bundle.specs.Commands.{last_byte}
use Rattle.bundle.specs.Walk.{Segment}
use Rattle.bundle.specs.declared.command.AccessKind.{AccessKind}
use Rattle.bundle.specs.declared.command.AccessKind.TheVariants as Kind
use Rattle.bundle.specs.declared.command.Range.{Range}
use Rattle.bundle.specs.declared.index.Fork.{Fork}
use Rattle.bundle.proofs.Tests.{both, and-swap, not-both, is_false}
use Rattle.order.specs.Ranges.{Touches, shared_byte, lowest_element}
use Rattle.order.proofs.SharedByte.{shared-some, shared-swap}
use Rattle.order.proofs.Elements.{element-by}
use Rattle.verdict.specs.GraphTests.{closure_of, reaches}
use Rattle.verdict.specs.Accesses.{NamedAccess, name_key, name_below, writes, atomic, race_at}
use Rattle.verdict.specs.Lineages.{holder_of}
use Rattle.verdict.specs.RaceLists.{common_counted, clashes, race_with, race_of}
use Rattle.verdict.specs.Matrix.{bit_at, PathBits}
use Rattle.verdict.specs.Working.{kind_code, RowOf}
use Rattle.verdict.specs.Tallying.{row_range, row_name, bounds_meet, kinds_clash, row_holder, rows_clash, row_element, race_from, race_between, clash_race, pair_race}
use Rattle.verdict.specs.declared.race.Race.{Race}
use Rattle.verdict.specs.declared.rows.AccessRow.{AccessRow}
use Rattle.verdict.proofs.Lexical.{Compared, less, same, more, compare, less-asymmetric}
use Rattle.verdict.proofs.LineageLaws.{common-swap}

-- a touched byte lies between the first and the last
touched-within : (r : Range) (byte : ℕ) → Touches r byte → (r.base ≤ byte) × (byte ≤ last_byte r)
unfolding last_byte
touched-within r byte t =
    let last : t.element ≤ r.count - 1 = omega (arith, t.element_below) in
    (omega (arith, t.at), omega (arith, t.at, t.within_below, mul-le-mul_right r.stride last))

-- ranges whose outer bounds do not meet share no byte
pub bounds-apart :
    (a b : Range) → bounds_meet a.base (last_byte a) b.base (last_byte b) ≡ false → shared_byte a b ≡ none
bounds-apart a b apart = go (shared_byte a b) refl
  where
    go : (o : Option ℕ) → shared_byte a b ≡ o → shared_byte a b ≡ none
    go none e = e
    go (some w) e =
        let s = shared-some a b w e in
        let p = touched-within a w s.one in
        let q = touched-within b w s.other in
        not-both
        (both (le-leb a.base (last_byte b) (omega (arith, p.0, q.1))) (le-leb b.base (last_byte a) (omega (arith, q.0, p.1))))
        apart

kinds-are :
    (k l : AccessKind) → kinds_clash (kind_code k) (kind_code l) ≡ ((writes k || writes l) && not (atomic k && atomic l))
unfolding kind_code writes atomic
kinds-are Kind.Read Kind.Read = refl
kinds-are Kind.Read Kind.Write = refl
kinds-are Kind.Read Kind.AtomicRead = refl
kinds-are Kind.Read Kind.AtomicWrite = refl
kinds-are Kind.Write Kind.Read = refl
kinds-are Kind.Write Kind.Write = refl
kinds-are Kind.Write Kind.AtomicRead = refl
kinds-are Kind.Write Kind.AtomicWrite = refl
kinds-are Kind.AtomicRead Kind.Read = refl
kinds-are Kind.AtomicRead Kind.Write = refl
kinds-are Kind.AtomicRead Kind.AtomicRead = refl
kinds-are Kind.AtomicRead Kind.AtomicWrite = refl
kinds-are Kind.AtomicWrite Kind.Read = refl
kinds-are Kind.AtomicWrite Kind.Write = refl
kinds-are Kind.AtomicWrite Kind.AtomicRead = refl
kinds-are Kind.AtomicWrite Kind.AtomicWrite = refl

-- the tests do not see which access comes first
clash-swap : (m : List ℕ) (fs : List Fork) (r q : AccessRow) → rows_clash m fs r q ≡ rows_clash m fs q r
unfolding rows_clash
clash-swap m fs r q =
    ap₂ ◌&&◌
    (ap₂ ◌&&◌
    (ap₂ ◌&&◌ (ap (leb 1) (add_comm (r.kind % 2) (q.kind % 2))) (ap (λ (n : ℕ). ltb n 2) (add_comm (r.kind / 2) (q.kind / 2))))
    (ap not (common-swap fs (row_holder r) (row_holder q))))
    (and-swap (not (bit_at m r.segment q.segment)) (not (bit_at m q.segment r.segment)))

-- a race or none, as a list
abbrev pub listed : Option Race → List Race
listed o = from_option [] (λ (r : Race). r ∷ []) o

-- the tests in either order
tested :
    (bounds clash : Bool) (shared : Option ℕ) (f g : ℕ → Race)
    → ((w : ℕ) → shared ≡ some w → f w ≡ g w)
    → (bounds ≡ false → shared ≡ none)
    → cond clash (from_option [] (λ w. f w ∷ []) shared) []
    ≡ listed (cond bounds (cond clash (from_option none (λ w. some (g w)) shared) none) none)
tested true true none f g h apart = refl
tested true true (some w) f g h apart = ap (λ (r : Race). r ∷ []) (h w refl)
tested true false shared f g h apart = refl
tested false clash shared f g h apart = rw (apart refl) (go clash)
  where
    go : (t : Bool) → cond t [] [] ≡ listed none
    go true = refl
    go false = refl

and_assoc : (a b c : Bool) → (a && b && c) ≡ (a && (b && c))
and_assoc true b c = refl
and_assoc false b c = refl

-- what a row says of its access
module _ {ss : List Segment} where
  row-name : {x : NamedAccess} {r : AccessRow} → RowOf ss x r → row_name r ≡ x.name
  row-name rx = λ i. record { team = rx.team i; member = rx.member i; number = rx.number i }

  pub row-range : {x : NamedAccess} {r : AccessRow} → RowOf ss x r → row_range r ≡ x.access.range
  row-range rx = λ i. record { base = rx.base i; stride = rx.stride i; count = rx.count i; size = rx.size i }

  row-holder : {x : NamedAccess} {r : AccessRow} → RowOf ss x r → row_holder r ≡ holder_of x
  unfolding holder_of
  row-holder rx = λ i. record { team = rx.team i; member = rx.member i; locks = rx.locks i }

  element-row :
      {x : NamedAccess} {r : AccessRow} → RowOf ss x r → (w : ℕ) → Touches (row_range r) w
      → lowest_element x.access.range w ≡ row_element r w
  element-row {r = r} rx w t =
      ap (λ (a : Range). lowest_element a w) (sym (row-range rx)) ∙ sym (element-by (row_range r) w t)

module _ {ss : List Segment} {x y : NamedAccess} {r q : AccessRow} (rx : RowOf ss x r) (ry : RowOf ss y q) where
  kinds-row :
      kinds_clash r.kind q.kind
      ≡ ((writes x.access.kind || writes y.access.kind) && not (atomic x.access.kind && atomic y.access.kind))
  kinds-row = ap₂ kinds_clash rx.kind ry.kind ∙ kinds-are x.access.kind y.access.kind

  carried : (w : ℕ) → shared_byte (row_range r) (row_range q) ≡ some w → race_with x y w ≡ race_from r q w
  unfolding race_with race_at
  carried w e =
      let s = shared-some (row_range r) (row_range q) w e in
      let one = element-row rx w s.one in
      let other = element-row ry w s.other in
      λ i.
      record {
        witness = w;
        first = record { team = sym rx.team i; member = sym rx.member i; number = sym rx.number i };
        first_site = sym rx.site i;
        first_element = one i;
        second = record { team = sym ry.team i; member = sym ry.member i; number = sym ry.number i };
        second_site = sym ry.site i;
        second_element = other i;
      }

module _ {ss : List Segment} {m : List ℕ} (paths : PathBits ss m) (fs : List Fork) where
  module _ {x y : NamedAccess} {r q : AccessRow} (rx : RowOf ss x r) (ry : RowOf ss y q) where
    reaching : bit_at m r.segment q.segment ≡ reaches (closure_of ss) x.node y.node
    reaching =
        paths.bits r.segment q.segment rx.stands_in ry.stands_in
        ∙ ap₂ (reaches (closure_of ss)) rx.stands_node ry.stands_node

  module _ {x y : NamedAccess} {r q : AccessRow} (rx : RowOf ss x r) (ry : RowOf ss y q) where
    clash-row : name_below x.name y.name ≡ true → clashes (closure_of ss) fs x y ≡ rows_clash m fs r q
    unfolding clashes rows_clash
    clash-row below =
        rw (
          below,
          kinds-row rx ry,
          row-holder rx,
          row-holder ry,
          reaching rx ry,
          reaching ry rx,
        )
        (and_assoc
        ((writes x.access.kind || writes y.access.kind)
        && not (atomic x.access.kind && atomic y.access.kind)
        && not (common_counted fs (holder_of x) (holder_of y)))
        (not (reaches (closure_of ss) x.node y.node))
        (not (reaches (closure_of ss) y.node x.node)))

    clash-not : name_below x.name y.name ≡ false → clashes (closure_of ss) fs x y ≡ false
    unfolding clashes
    clash-not e = rw e

    no_race : name_below x.name y.name ≡ false → race_of (closure_of ss) fs x y ≡ []
    unfolding race_of
    no_race e = rw (clash-not e)

    -- bounds, by the rows
    bounds-row :
        bounds_meet r.base r.last q.base q.last ≡ false → shared_byte (row_range r) (row_range q) ≡ none
    bounds-row e =
        ap₂ shared_byte (row-range rx) (row-range ry)
        ∙ bounds-apart x.access.range y.access.range
        (ap₂ (λ a b. bounds_meet a b y.access.range.base (last_byte y.access.range)) (sym rx.base) (sym rx.last)
        ∙ ap₂ (λ a b. bounds_meet r.base r.last a b) (sym ry.base) (sym ry.last)
        ∙ e)

    lower-first :
        (below : name_below x.name y.name ≡ true) (f : ℕ → Race)
        → ((w : ℕ) → shared_byte (row_range r) (row_range q) ≡ some w → race_with x y w ≡ f w)
        → (bounds : Bool)
        → (bounds ≡ false → shared_byte (row_range r) (row_range q) ≡ none)
        → race_of (closure_of ss) fs x y
        ≡ listed (cond bounds (cond (rows_clash m fs r q) (from_option none (λ w. some (f w)) (shared_byte (row_range r) (row_range q))) none) none)
    unfolding race_of
    lower-first below f h bounds apart =
        rw (clash-row below)
        (subst
        (λ (o : Option ℕ).
        cond (rows_clash m fs r q) (from_option [] (λ w. race_with x y w ∷ []) o) []
        ≡ listed (cond bounds (cond (rows_clash m fs r q) (from_option none (λ w. some (f w)) (shared_byte (row_range r) (row_range q))) none) none))
        (ap₂ shared_byte (row-range rx) (row-range ry))
        (tested bounds (rows_clash m fs r q) (shared_byte (row_range r) (row_range q)) (race_with x y) f h apart))

  module _ {x y : NamedAccess} {r q : AccessRow} (rx : RowOf ss x r) (ry : RowOf ss y q) where
    -- the two orders of two accesses with different names give the race of their rows, or none
    pub pair-races :
        (name_key x.name ≡ name_key y.name → ⊥)
        → race_of (closure_of ss) fs x y ++ race_of (closure_of ss) fs y x ≡ listed (pair_race m fs r q)
    unfolding name_below pair_race clash_race
    pair-races apart = go (compare (name_key x.name) (name_key y.name))
      where
        bounds : Bool
        bounds = bounds_meet r.base r.last q.base q.last

        between : (t : Bool) → name_below x.name y.name ≡ t → (w : ℕ) → race_between r q w ≡ cond t (race_from r q w) (race_from q r w)
        between t e w =
            unfold race_between in
            (ap (λ (b : Bool). cond b (race_from r q w) (race_from q r w)) (ap₂ name_below (row-name rx) (row-name ry) ∙ e))

        go : Compared (name_key x.name) (name_key y.name) → race_of (closure_of ss) fs x y ++ race_of (closure_of ss) fs y x ≡ listed (pair_race m fs r q)
        go (less h) =
            let back = is_false (name_below y.name x.name) (λ e. less-asymmetric (name_key x.name) (name_key y.name) h e) in
            rw (no_race ry rx back, append-nil)
            (lower-first rx ry h (race_between r q) (λ w e. carried rx ry w e ∙ sym (between true h w)) bounds (bounds-row rx ry))
        go (same h) = absurd (apart h)
        go (more h) =
            let back = is_false (name_below x.name y.name) (λ e. less-asymmetric (name_key x.name) (name_key y.name) e h) in
            let swap = shared-swap (row_range r) (row_range q) in
            rw (no_race rx ry back, clash-swap m fs r q, swap)
            (lower-first ry rx h (race_between r q) (λ w e. carried ry rx w e ∙ sym (between false back w)) bounds
            (λ e. sym swap ∙ bounds-row rx ry e))
