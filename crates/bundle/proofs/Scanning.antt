-- The scan taken apart: a list of commands passes it exactly where each command passes the tests 4, 5 and 6, the accesses are of one group
-- and the totals of segments and accesses stay within 7's limits.
use Prim.Native.Nat.{ℕ, ◌+◌, ◌≤◌, ◌<◌}
use mathlib.Core.Path.{◌≡◌, refl, sym, ◌∙◌, ap}
use mathlib.Core.Logic.{⊎_elim}
use mathlib.Core.Bool.{Bool, true, false, cond, not, ◌&&◌, true≢false}
use mathlib.Core.List.Memᴰ
use mathlib.Core.List.{List, [], ◌∷◌, ◌++◌, map, Permᴰ, Memᴰ}
use native.Mathlib.Nat.{add-zero}
use native.Mathlib.Omega.{arith}
use lib.Dec.{eqb, ltb}
use borrow.Author.Tests.{eqb-true, ltb-true, ltb-false, lt-ltb, le-ltb}
use Rattle.bundle.specs.Answer.{Answer, gives, refuses}
use Rattle.bundle.specs.Commands.{in_range}
use Rattle.bundle.specs.Cases.{on_access}
use Rattle.bundle.specs.Chunks.{Placed}
use Rattle.bundle.specs.Walk.{opens_segment, adds_access}
use Rattle.bundle.specs.Scan.{misplaced, differs, of_other_group, above_own_team, misuses_lock, too_many, fault_of, scanned, finish, walk}
unfoldable pub use Rattle.bundle.specs.Index.{total}
use Rattle.bundle.specs.declared.scan.Scan.{Scan}
use Rattle.bundle.specs.declared.command.Access.{Access}
use Rattle.bundle.specs.declared.command.Command.{Command}
use Rattle.bundle.specs.declared.command.Command.TheVariants as Com
use Rattle.bundle.proofs.Delimiters.{accessing, on-no-access, Accessing, accesses_some, accesses_none, accessings}
use Rattle.bundle.proofs.Tests.{false-is-true, both, and_left, and_right, not-both, is_false, or-false}

-- a sum over a list, and over a permutation of it
pub total-append : {A : Type 0} (f : A → ℕ) (xs ys : List A) → total f (xs ++ ys) ≡ total f xs + total f ys
unfolding total
total-append f [] ys = omega arith
total-append f (x ∷ xs) ys = let ih = total-append f xs ys in omega arith

pub perm-total : {A : Type 0} (f : A → ℕ) {xs ys : List A} → Permᴰ xs ys → total f xs ≡ total f ys
unfolding total
perm-total f Permᴰ.nil = refl
perm-total f (Permᴰ.cons e d) = let ih = perm-total f d in let h = ap f e in omega arith
perm-total f (Permᴰ.swap e₁ e₂) = let h = ap f e₁ in let l = ap f e₂ in omega arith
perm-total f (Permᴰ.trans d₁ d₂) = perm-total f d₁ ∙ perm-total f d₂

-- the tests 4, 5 and 6, which look at no count
unfoldable pub passes : Scan → Command → Bool
passes k c = not (misplaced k c) && (in_range c && above_own_team k.team c) && not (misuses_lock k.state.locks c)

unfoldable pub uncounted : Scan → Scan
uncounted k = record { inside = k.inside; team = k.team; state = k.state; segments = 0; accesses = 0; wide = false }

-- each command passes, and no chunk is open at the end
unfoldable pub orderly : Scan → List Command → Bool
orderly k [] = not k.inside
orderly k (c ∷ cs) = passes k c && orderly (uncounted (scanned k c)) cs

passes-uncounted : (k : Scan) (c : Command) → passes (uncounted k) c ≡ passes k c
unfolding passes uncounted misplaced
passes-uncounted k c = refl

scanned-uncounted : (k : Scan) (c : Command) → uncounted (scanned (uncounted k) c) ≡ uncounted (scanned k c)
unfolding uncounted scanned
scanned-uncounted k c = refl

pub orderly-uncounted : (k : Scan) (cs : List Command) → orderly (uncounted k) cs ≡ orderly k cs
unfolding orderly uncounted
orderly-uncounted k [] = refl
orderly-uncounted k (c ∷ cs) = rw (passes-uncounted k c, scanned-uncounted k c)

-- what a command that passes, and a list that begins with it, tell
pub record Tested (k : Scan) (c : Command) : Type 0 where
  pub in_place : not (misplaced k c) ≡ true
  pub in-range : in_range c ≡ true
  pub above_own : above_own_team k.team c ≡ true
  pub locks_ok : not (misuses_lock k.state.locks c) ≡ true

pub tested : (k : Scan) (c : Command) → passes k c ≡ true → Tested k c
unfolding passes
tested k c e =
    let m = not (misplaced k c) in
    let r = in_range c in
    let o = above_own_team k.team c in
    let l = not (misuses_lock k.state.locks c) in
    let f = and_left (m && (r && o)) l e in
    record {
      in_place = and_left m (r && o) f;
      in-range = and_left r o (and_right m (r && o) f);
      above_own = and_right r o (and_right m (r && o) f);
      locks_ok = and_right (m && (r && o)) l e;
    }

pub orderly-head : (k : Scan) (c : Command) (cs : List Command) → orderly k (c ∷ cs) ≡ true → Tested k c
unfolding orderly
orderly-head k c cs o = tested k c (and_left (passes k c) (orderly (uncounted (scanned k c)) cs) o)

pub orderly-tail : (k : Scan) (c : Command) (cs : List Command) → orderly k (c ∷ cs) ≡ true → orderly (uncounted (scanned k c)) cs ≡ true
unfolding orderly
orderly-tail k c cs o = and_right (passes k c) (orderly (uncounted (scanned k c)) cs) o

-- the accesses so far and those of these commands are of one group
pub record OneGroup (k : Scan) (cs : List Command) : Type 0 where
  pub group : Bool
  pub before : 0 < k.accesses → k.wide ≡ group
  pub each : (a : Access) → Memᴰ (Com.Access a) cs → a.wide ≡ group

pub no-group : (k : Scan) → OneGroup k []
no-group k = record { group = k.wide; before = λ h. refl; each = λ a m. absurd (Memᴰ.not-nil m) }

same-group : (w v : Bool) → differs w v ≡ false → w ≡ v
unfolding differs
same-group true true e = refl
same-group true false e = e
same-group false true e = sym e
same-group false false e = refl

differs-not : (w : Bool) → differs w w ≡ false
unfolding differs
differs-not true = refl
differs-not false = refl

-- an access in place of a command that is none
pub not-access : {c : Command} {a : Access} → accessing c ≡ false → Com.Access a ≡ c → ⊥
unfolding accessing
not-access n e = let z : true ≡ false = ap accessing e ∙ n in true≢false z

access_of : {a b : Access} → Com.Access a ≡ Com.Access b → a.wide ≡ b.wide
access_of {a} {b} e = cc

group-tail : (k : Scan) (c : Command) (cs : List Command) → OneGroup k (c ∷ cs) → OneGroup (scanned k c) cs
unfolding scanned adds_access
group-tail k c cs g = record { group = g.group; before = before (accessings c) g.each; each = λ a m. g.each a (Memᴰ.tail m) }
  where
    before :
        {d : Command}
        → Accessing d
        → ((a : Access) → Memᴰ (Com.Access a) (d ∷ cs) → a.wide ≡ g.group)
        → 0 < k.accesses + adds_access d
        → on_access k.wide (λ (a : Access). a.wide) d ≡ g.group
    before (accesses_some a) each h = each a (Memᴰ.head refl)
    before (accesses_none {c = d} n) each h =
        on-no-access k.wide (λ (a : Access). a.wide) d n ∙ g.before (rw (on-no-access {A = ℕ} 0 (λ (a : Access). 1) d n, add-zero k.accesses) at h)

group-cons : (k : Scan) (c : Command) (cs : List Command) → of_other_group k c ≡ false → OneGroup (scanned k c) cs → OneGroup k (c ∷ cs)
unfolding scanned adds_access of_other_group
group-cons k c cs e g = go (accessings c) e g.before
  where
    go :
        {d : Command}
        → Accessing d
        → on_access false (λ (a : Access). ltb 0 k.accesses && differs k.wide a.wide) d ≡ false
        → (0 < k.accesses + adds_access d → on_access k.wide (λ (a : Access). a.wide) d ≡ g.group)
        → OneGroup k (d ∷ cs)
    go (accesses_some a) e before =
        let own : a.wide ≡ g.group = before (omega arith) in
        record {
          group = g.group;
          before = λ h. same-group k.wide a.wide (rw (lt-ltb 0 k.accesses h) at e) ∙ own;
          each = λ b m. ⊎_elim (λ q. access_of q ∙ own) (g.each b) (Memᴰ.cases_cons m);
        }
    go (accesses_none {c = d} n) e before =
        record {
          group = g.group;
          before =
              λ h.
              sym (on-no-access k.wide (λ (a : Access). a.wide) d n)
              ∙ before (rw (on-no-access {A = ℕ} 0 (λ (a : Access). 1) d n, add-zero k.accesses) h);
          each = λ b m. ⊎_elim (λ q. absurd (not-access n q)) (g.each b) (Memᴰ.cases_cons m);
        }

group-head : (k : Scan) (c : Command) (cs : List Command) → OneGroup k (c ∷ cs) → of_other_group k c ≡ false
unfolding of_other_group
group-head k c cs g = go (accessings c) g.each
  where
    go :
        {d : Command}
        → Accessing d
        → ((a : Access) → Memᴰ (Com.Access a) (d ∷ cs) → a.wide ≡ g.group)
        → on_access false (λ (a : Access). ltb 0 k.accesses && differs k.wide a.wide) d ≡ false
    go (accesses_some a) each = some (ltb 0 k.accesses) refl
      where
        some : (t : Bool) → ltb 0 k.accesses ≡ t → t && differs k.wide a.wide ≡ false
        some false e = refl
        some true e =
            rw (g.before (ltb-true 0 k.accesses e) ∙ sym (each a (Memᴰ.head refl))) (differs-not a.wide)
    go (accesses_none {c = d} n) each = on-no-access false _ d n

-- room for these commands within 7's limits, and one group of accesses
pub record Room (k : Scan) (cs : List Command) : Type 0 where
  pub segments : k.segments + total opens_segment cs ≤ 512
  pub accesses : k.accesses + total adds_access cs ≤ 1024
  pub one_group : OneGroup k cs

room-tail : (k : Scan) (c : Command) (cs : List Command) → Room k (c ∷ cs) → Room (scanned k c) cs
unfolding total scanned
room-tail k c cs r =
    record { segments = omega (arith, r.segments); accesses = omega (arith, r.accesses); one_group = group-tail k c cs r.one_group }

room_cons : (k : Scan) (c : Command) (cs : List Command) → of_other_group k c ≡ false → Room (scanned k c) cs → Room k (c ∷ cs)
unfolding total scanned
room_cons k c cs e r =
    record { segments = omega (arith, r.segments); accesses = omega (arith, r.accesses); one_group = group-cons k c cs e r.one_group }

none-too-many : (k : Scan) (c : Command) → k.segments + opens_segment c ≤ 512 → k.accesses + adds_access c ≤ 1024 → too_many k c ≡ false
unfolding too_many
none-too-many k c g a = rw (le-ltb 512 (k.segments + opens_segment c) g, le-ltb 1024 (k.accesses + adds_access c) a)

room-one : (k : Scan) (c : Command) → too_many k c ≡ false → Room (scanned k c) []
unfolding too_many total scanned
room-one k c e =
    let s = ltb 512 (k.segments + opens_segment c) in
    let a = ltb 1024 (k.accesses + adds_access c) in
    record {
      segments = omega (arith, ltb-false 512 (k.segments + opens_segment c) (or-false s a e).0);
      accesses = omega (arith, ltb-false 1024 (k.accesses + adds_access c) (or-false s a e).1);
      one_group = no-group (scanned k c);
    }

-- a command with no fault
fault-none :
    (m f r l t : Bool)
    → ◌≡◌ {A = ℕ} (cond m 4 (cond f 20 (cond (not r) 5 (cond l 6 (cond t 7 0))))) 0
    → ((not m && r && not l) ≡ true) × (f ≡ false) × (t ≡ false)
fault-none true f r l t e = absurd (omega arith)
fault-none false true r l t e = absurd (omega arith)
fault-none false false false l t e = absurd (omega arith)
fault-none false false true true t e = absurd (omega arith)
fault-none false false true false true e = absurd (omega arith)
fault-none false false true false false e = (refl, refl, refl)

fault-zero :
    (m f r l t : Bool)
    → (not m && r && not l) ≡ true
    → f ≡ false
    → t ≡ false
    → ◌≡◌ {A = ℕ} (cond m 4 (cond f 20 (cond (not r) 5 (cond l 6 (cond t 7 0))))) 0
fault-zero true f r l t e g h = false-is-true e
fault-zero false f false l t e g h = false-is-true e
fault-zero false f true true t e g h = false-is-true e
fault-zero false f true false t e g h = rw (g, h)

pub no-fault : (k : Scan) (c : Command) → fault_of k c ≡ 0 → (passes k c ≡ true) × (of_other_group k c ≡ false) × (too_many k c ≡ false)
unfolding fault_of passes
no-fault k c e =
    fault-none (misplaced k c) (of_other_group k c) (in_range c && above_own_team k.team c) (misuses_lock k.state.locks c) (too_many k c) e

pub faultless : (k : Scan) (c : Command) → passes k c ≡ true → of_other_group k c ≡ false → too_many k c ≡ false → fault_of k c ≡ 0
unfolding fault_of passes
faultless k c e g f =
    fault-zero (misplaced k c) (of_other_group k c) (in_range c && above_own_team k.team c) (misuses_lock k.state.locks c) (too_many k c) e g f

-- what a scan that passes tells
pub record Passed (ps : List Placed) (stop : Answer ℕ) (k : Scan) : Type 0 where
  pub order : orderly k (map (λ (p : Placed). p.command) ps) ≡ true
  pub room : Room k (map (λ (p : Placed). p.command) ps)
  pub past : ℕ
  pub ended : stop ≡ gives past

finish-outside : (k k' : Scan) (past : ℕ) → finish k past ≡ gives k' → not k.inside ≡ true
unfolding finish
finish-outside k k' past e = go k.inside e
  where
    go : (t : Bool) → cond t (refuses 4 past) (gives k) ≡ gives k' → not t ≡ true
    go true q = let z : ◌≡◌ {A = ℕ} 0 1 = cc in absurd (omega arith)
    go false q = refl

pub walk-elim : (ps : List Placed) (stop : Answer ℕ) (k k' : Scan) → Room k [] → walk ps stop k ≡ gives k' → Passed ps stop k
unfolding walk orderly
walk-elim [] (gives past) k k' r e = record { order = finish-outside k k' past e; room = r; past = past; ended = refl }
walk-elim [] (refuses n p) k k' r e = let z : ◌≡◌ {A = ℕ} 0 1 = cc in absurd (omega arith)
walk-elim (p ∷ ps) stop k k' r e = go (λ r' q. walk-elim ps stop (scanned k p.command) k' r' q) (eqb (fault_of k p.command) 0) refl e
  where
    c : Command
    c = p.command

    cs : List Command
    cs = map (λ (q : Placed). q.command) ps

    further : passes k c ≡ true → of_other_group k c ≡ false → Passed ps stop (scanned k c) → Passed (p ∷ ps) stop k
    further h g n =
        record {
          order = both h (orderly-uncounted (scanned k c) cs ∙ n.order);
          room = room_cons k c cs g n.room;
          past = n.past;
          ended = n.ended;
        }

    go :
        (Room (scanned k c) [] → walk ps stop (scanned k c) ≡ gives k' → Passed ps stop (scanned k c))
        → (t : Bool)
        → eqb (fault_of k c) 0 ≡ t
        → cond t (walk ps stop (scanned k c)) (refuses (fault_of k c) p.at) ≡ gives k'
        → Passed (p ∷ ps) stop k
    go ih true h q =
        let n = no-fault k c (eqb-true (fault_of k c) 0 h) in
        further n.0 n.1 (ih (room-one k c n.2) q)
    go ih false h q = let z : ◌≡◌ {A = ℕ} 0 1 = cc in absurd (omega arith)

pub walk-intro :
    (ps : List Placed) (past : ℕ) (k : Scan)
    → orderly k (map (λ (p : Placed). p.command) ps) ≡ true
    → Room k (map (λ (p : Placed). p.command) ps)
    → (k' : Scan) × (walk ps (gives past) k ≡ gives k')
unfolding walk orderly finish
walk-intro [] past k o r = (k, rw (is_false k.inside (λ h. not-both h (out k.inside o))))
  where
    out : (t : Bool) → not t ≡ true → t ≡ false
    out true e = sym e
    out false e = refl
walk-intro (p ∷ ps) past k o r = go (walk-intro ps past (scanned k c) (sym (orderly-uncounted (scanned k c) cs) ∙ and_right (passes k c) _ o) (room-tail k c cs r))
  where
    c : Command
    c = p.command

    cs : List Command
    cs = map (λ (q : Placed). q.command) ps

    fewer : (x t n : ℕ) → x + (n + t) ≤ 512 → x + n ≤ 512
    fewer x t n h = omega arith

    fewer' : (x t n : ℕ) → x + (n + t) ≤ 1024 → x + n ≤ 1024
    fewer' x t n h = omega arith

    few : too_many k c ≡ false
    few =
        none-too-many k c
        (fewer k.segments (total opens_segment cs) (opens_segment c) (unfold total in r.segments))
        (fewer' k.accesses (total adds_access cs) (adds_access c) (unfold total in r.accesses))

    go : (k' : Scan) × (walk ps (gives past) (scanned k c) ≡ gives k') → (k' : Scan) × (walk (p ∷ ps) (gives past) k ≡ gives k')
    go w = (w.0, rw (faultless k c (and_left (passes k c) _ o) (group-head k c cs r.one_group) few) w.1)
