-- Climbing by links: what each step and each loop over the table of links gives.
use Prim.Native.Nat.{ℕ, suc, ◌+◌, ◌≤◌, ◌<◌}
use mathlib.Core.Path.{◌≡◌, refl, sym, ◌∙◌, ap, ap₂}
use mathlib.Core.Logic.{◌⊎◌, inl, inr}
use mathlib.Core.Bool.{Bool, true, false, cond, not}
use mathlib.Core.List.{List, [], ◌∷◌}
use mathlib.Core.Option.{some}
use native.Mathlib.Omega.{arith}
use lib.ListN.{length, get_or, set, replicate, length-set, length-replicate}
use lib.Dec.{eqb, ltb}
use lib.Seq.{get_or-set_same, get_or-set_other}
use borrow.Author.Count.{below_more}
use borrow.Author.Tests.{ltb-false}
use Rattle.std.specs.declared.option.Option as Rust
use Rattle.std.specs.declared.option.Option.TheVariants.{None, Some}
use Rattle.std.specs.Option.{unwrap_or}
use Rattle.bundle.specs.Locks.{common_lock}
use Rattle.bundle.specs.Check.{fork_of}
use Rattle.bundle.specs.Index.{fork_row_at, index_of}
use Rattle.bundle.specs.declared.index.Fork.{Fork}
use Rattle.bundle.proofs.Tests.{false-is-true, decide}
use Rattle.bundle.proofs.Tables.{table-each, table-length}
use Rattle.order.proofs.Climbs.{fork-some, fork-team}
use Rattle.bundle.specs.Index.{below}
use Rattle.verdict.specs.Lineages.{Holder}
use Rattle.verdict.specs.RaceLists.{common_counted}
use Rattle.verdict.specs.Working.{access_row_at}
use Rattle.verdict.specs.Linking.{
  forks_in,
  fork_for,
  NoneHeld,
  AccessLinks,
  ForksLinked,
  Linkable,
  Linked,
  LineagesFit,
  AllAround,
  Around,
  side_holder,
  row_side,
  SideFits,
  Climbs,
  SidesFit,
  climbed,
  ClimbedFrom,
}
use Rattle.verdict.specs.Tallying.{locks_apart, counted_apart, row_holder}
use Rattle.verdict.specs.declared.rows.AccessRow.{AccessRow}
use Rattle.verdict.specs.declared.lineage.Side.{Side}
use Rattle.verdict.proofs.LineageLaws.{common-swap, common-met, common-unheld, common-climbed}

-- fewer accesses
pub around-before :
    {rows forks links : List ℕ} {regions : ℕ} {held : Bool} {i end k : ℕ}
    → Around rows forks links regions held i end
    → k ≤ end
    → Around rows forks links regions held i k
around-before a h =
    record { up_to = a.up_to; all = a.all; one_below = a.one_below; end_below = omega (arith, a.end_below); few = a.few }

pub around-below :
    {rows forks links : List ℕ} {regions : ℕ} {held : Bool} {n i end : ℕ}
    → n ≤ 1024
    → AllAround rows forks links regions held n
    → i < n
    → end ≤ n
    → Around rows forks links regions held i end
around-below {n = n} few a h l = record { up_to = n; all = a; one_below = h; end_below = l; few = few }

pub all-around :
    {rows forks links : List ℕ} {regions n : ℕ} {held : Bool}
    → LineagesFit rows forks regions n
    → Linked rows forks links regions n held
    → AllAround rows forks links regions held n
all-around f l = record { rooted = f.rooted; rows_rooted = f.rows_rooted; linked = l }

-- a side of the larger team number is forked, and climbs
module _ (forks links : List ℕ) (regions : ℕ) (c : Climbs forks links regions) where
  forked : (s : Side) → SideFits forks regions s → s.fork < regions → fork_of (forks_in forks regions) s.team ≡ some (fork_row_at forks s.fork)
  forked s f h = fork-some (fork_row_at forks) regions s.team s.fork f.link h refl

  module _ (s : Side) (f : SideFits forks regions s) (h : s.fork < regions) where
    pub link-in : s.fork + 1024 < length links
    link-in = omega (arith, c.long, c.few)

    pub climbed-from :
        (fork : Fork) {link : ℕ}
        → fork ≡ fork_row_at forks s.fork
        → link ≡ get_or links (s.fork + 1024) 0
        → ClimbedFrom forks regions s
        (record { fork = link; team = fork.parent; member = fork.member; locks = (climbed (side_holder s) fork).locks })
    climbed-from fork {link} e l =
        let order : s.fork + 1024 ≡ 1024 + s.fork = omega arith in
        let up : link ≡ fork_for forks regions fork.parent =
        l ∙ ap (λ (k : ℕ). get_or links k 0) order ∙ c.up.linked s.fork h ∙ ap (λ (x : Fork). fork_for forks regions x.parent) (sym e)
        in
        record {
          is = ap (climbed (side_holder s)) e;
          fits =
              record {
                link = up;
                forked = λ n.
                    let below = c.rooted.forked s.fork h (λ q. n (ap (λ (x : Fork). x.parent) e ∙ q)) in
                    let same : link ≡ fork_for forks regions (fork_row_at forks s.fork).parent = up ∙ ap (λ (x : Fork). fork_for forks regions x.parent) e in
                    omega arith;
              };
        }

    -- the team number falls
    pub climb-falls : {r : Side} → ClimbedFrom forks regions s r → r.team < s.team
    climb-falls k =
        let low = fork-team (forks_in forks regions) c.rooted.falls (forked s f h) in
        let e = ap (λ (x : Holder). x.team) k.is in
        omega arith

  abbrev common : Side → Side → Bool
  common one other = common_counted (forks_in forks regions) (side_holder one) (side_holder other)

  -- the two sides: in one team, and with one of them a chunk higher
  pub sides-meet :
      (one other : Side) {t u : Bool}
      → one.team ≡ other.team
      → t ≡ common_lock one.locks other.locks
      → common one other ≡ u
      → not t ≡ not u
  sides-meet one other e q p = ap not (q ∙ sym (common-met (forks_in forks regions) (side_holder one) (side_holder other) e) ∙ p)

  pub larger-forked : (one other : Side) → SideFits forks regions other → one.team < other.team → other.fork < regions
  larger-forked one other f l = f.forked (λ e. omega arith)

  pub other-climbs :
      (one other : Side) {r : Side}
      → SideFits forks regions other
      → one.team < other.team
      → ClimbedFrom forks regions other r
      → common one r ≡ common one other
  other-climbs one other f l k =
      ap (common_counted (forks_in forks regions) (side_holder one)) k.is
      ∙ sym
      (common-climbed (forks_in forks regions) c.rooted.falls (side_holder one) (side_holder other) l (forked other f (larger-forked one other f l)))

  pub one-climbs :
      (one other : Side) {r : Side}
      → SideFits forks regions one
      → other.team < one.team
      → ClimbedFrom forks regions one r
      → common r other ≡ common one other
  one-climbs one other {r} f l k =
      let fs = forks_in forks regions in
      common-swap fs (side_holder r) (side_holder other)
      ∙ other-climbs other one f l k
      ∙ common-swap fs (side_holder other) (side_holder one)

-- the sides of two accesses, where a lock is held at a REGION
module _ {rows forks links : List ℕ} {regions i : ℕ} (j : ℕ) (a : Around rows forks links regions true i (j + 1)) where
  pub one-linked : i < length links
  one-linked = omega (arith, a.all.linked.long, a.one_below, a.few)

  pub other-linked : j < length links
  other-linked = omega (arith, a.all.linked.long, a.end_below, a.few)

  side-fits : (l : ℕ) (r : AccessRow) → l < a.up_to → r ≡ access_row_at rows l → SideFits forks regions (row_side links l r)
  side-fits l r b e =
      let link = (a.all.linked.accesses refl).linked l b ∙ ap (λ (x : AccessRow). fork_for forks regions x.team) (sym e) in
      record {
        link = link;
        forked = λ n.
            let low = a.all.rows_rooted.teams l b (λ q. n (ap (λ (x : AccessRow). x.team) e ∙ q)) in
            let same : fork_for forks regions r.team ≡ fork_for forks regions (access_row_at rows l).team = ap (λ (x : AccessRow). fork_for forks regions x.team) e in
            omega arith;
      }

  pub sides-fit :
      (one other : AccessRow) {s t : Side}
      → one ≡ access_row_at rows i
      → other ≡ access_row_at rows j
      → s ≡ row_side links i one
      → t ≡ row_side links j other
      → SidesFit forks links regions s t
  sides-fit one other e f p q =
      record {
        climbs =
            record {
              rooted = a.all.rooted;
              up = a.all.linked.regions_up refl;
              long = a.all.linked.long;
              few = a.all.linked.few;
            };
        side = rw p (side-fits i one a.one_below e);
        other_side = rw q (side-fits j other (omega (arith, a.end_below)) f);
      }

  -- and what is asked of them is asked of the rows
  pub sides_apart :
      (one other : AccessRow) {s t : Side}
      → s ≡ row_side links i one
      → t ≡ row_side links j other
      → other ≡ access_row_at rows j
      → not (common_counted (forks_in forks regions) (side_holder s) (side_holder t)) ≡ counted_apart (forks_in forks regions) one (access_row_at rows j)
  sides_apart one other p q f =
      ap₂ (λ (x y : Side). not (common_counted (forks_in forks regions) (side_holder x) (side_holder y))) p q ∙ ap (counted_apart (forks_in forks regions) one) f

-- where none is held, only the locks of two accesses' own count
pub unheld-apart :
    {rows forks links : List ℕ} {regions i end : ℕ}
    → Around rows forks links regions false i end
    → (one other : AccessRow)
    → counted_apart (forks_in forks regions) one other ≡ locks_apart one.locks other.locks
unheld-apart {forks = forks} {regions = regions} a one other =
    ap not (common-unheld (forks_in forks regions) (a.all.linked.unheld refl).none (row_holder one) (row_holder other))

-- no lock is held at the REGIONs of a table
pub none-held-all :
    (forks : List ℕ) (regions i : ℕ)
    → i ≤ regions
    → regions ≤ i
    → ((k : ℕ) → k < i → (fork_row_at forks k).state.locks ≡ 0)
    → false ≡ false
    → NoneHeld forks regions
none-held-all forks regions i a b h e =
    record { none = table-each (λ (f : Fork). f.state.locks ≡ 0) (fork_row_at forks) regions (λ k l. h k (omega arith)) }

-- an index is at most the length
index-most : {A : Type 0} (p : A → Bool) (xs : List A) → index_of p xs ≤ length xs
unfolding index_of
index-most p [] = omega arith
index-most p (x ∷ xs) = go (p x) (index-most p xs)
  where
    go : (b : Bool) → index_of p xs ≤ length xs → cond b 0 (suc (index_of p xs)) ≤ suc (length xs)
    go true h = omega arith
    go false h = omega arith

-- a team's REGION that is looked for, or their count
pub found-or-count :
    (forks : List ℕ) (regions team : ℕ) (r : Rust.Option ℕ)
    → r ≡ below regions (fork_for forks regions team)
    → unwrap_or r regions ≡ fork_for forks regions team
found-or-count forks regions team r e = ap (λ (o : Rust.Option ℕ). unwrap_or o regions) e ∙ go (decide (ltb at regions))
  where
    at : ℕ
    at = fork_for forks regions team

    few : at ≤ regions
    few = omega (arith, index-most (λ (f : Fork). eqb f.team team) (forks_in forks regions), table-length (fork_row_at forks) regions)

    go : (ltb at regions ≡ true) ⊎ (ltb at regions ≡ false) → unwrap_or (below regions at) regions ≡ at
    go (inl h) = ap (λ (b : Bool). unwrap_or (cond b (Some at) None) regions) h
    go (inr h) = ap (λ (b : Bool). unwrap_or (cond b (Some at) None) regions) h ∙ omega (arith, few, ltb-false at regions h)

-- the loop over the accesses
module _ (rows forks : List ℕ) (regions : ℕ) where
  pub links-none : (links : List ℕ) → AccessLinks rows forks links regions 0
  links-none links = record { linked = λ j h. absurd (omega arith) }

  pub links-more :
      (links : List ℕ) (i link : ℕ)
      → AccessLinks rows forks links regions i
      → i < length links
      → link ≡ fork_for forks regions (access_row_at rows i).team
      → AccessLinks rows forks (set links i link) regions (i + 1)
  links-more links i link a h e =
      record {
        linked =
            below_more (λ (j : ℕ). get_or (set links i link) j 0 ≡ fork_for forks regions (access_row_at rows j).team) i
            (λ j l. get_or-set_other links i j link 0 (λ q. omega arith) ∙ a.linked j l)
            (get_or-set_same links i link 0 h ∙ e);
      }

  pub links-all : {links : List ℕ} {n i : ℕ} → i ≤ n → n ≤ i → AccessLinks rows forks links regions i → AccessLinks rows forks links regions n
  links-all h l a = record { linked = λ j b. a.linked j (omega arith) }

  -- an access of the same team as the one before it
  pub link-before :
      (links : List ℕ) (i k : ℕ) {team before link : ℕ}
      → AccessLinks rows forks links regions i
      → 0 < i
      → k + 1 ≡ i
      → before ≡ (access_row_at rows k).team
      → team ≡ (access_row_at rows i).team
      → before ≡ team
      → link ≡ get_or links k 0
      → link ≡ fork_for forks regions (access_row_at rows i).team
  link-before links i k a positive p b t e l =
      l ∙ a.linked k (omega arith) ∙ ap (fork_for forks regions) (sym b ∙ e ∙ t)

-- the loop over the REGIONs
module _ (forks before : List ℕ) (regions : ℕ) where
  pub regions-none : length before ≡ 1536 → ForksLinked forks before before regions 0
  regions-none h = record { written = record { linked = λ k l. absurd (omega arith) }; kept = λ j l. refl; long = h }

  pub regions-more :
      (links : List ℕ) (k link : ℕ) (fork : Fork)
      → ForksLinked forks before links regions k
      → k < 512
      → fork ≡ fork_row_at forks k
      → link ≡ fork_for forks regions fork.parent
      → ForksLinked forks before (set links (k + 1024) link) regions (k + 1)
  regions-more links k link fork a h e l =
      let order : k + 1024 ≡ 1024 + k = omega arith in
      record {
        written =
            record {
              linked =
                  below_more (λ (j : ℕ). get_or (set links (k + 1024) link) (1024 + j) 0 ≡ fork_for forks regions (fork_row_at forks j).parent) k
                  (λ j b. get_or-set_other links (k + 1024) (1024 + j) link 0 (λ q. omega arith) ∙ a.written.linked j b)
                  (ap (λ (p : ℕ). get_or (set links (k + 1024) link) p 0) (sym order)
                  ∙ get_or-set_same links (k + 1024) link 0 (omega (arith, a.long))
                  ∙ l
                  ∙ ap (λ (x : Fork). fork_for forks regions x.parent) e);
            };
        kept = λ j b. get_or-set_other links (k + 1024) j link 0 (λ q. omega arith) ∙ a.kept j b;
        long = length-set links (k + 1024) link ∙ a.long;
      }

  pub regions-all : {links : List ℕ} {n k : ℕ} → k ≤ n → n ≤ k → ForksLinked forks before links regions k → ForksLinked forks before links regions n
  regions-all {links} {n} {k} h l a = let q : k ≡ n = omega arith in rw (sym q) a

-- both
pub all-linked :
    {rows forks before after links : List ℕ} {regions n : ℕ}
    → Linkable rows n regions before
    → AccessLinks rows forks links regions n
    → ForksLinked forks links after regions regions
    → Linked rows forks after regions n true
all-linked p a f =
    record {
      long = f.long;
      few = p.few_regions;
      unheld = λ e. false-is-true (sym e);
      accesses = λ e. record { linked = λ j h. f.kept j (omega (arith, p.few)) ∙ a.linked j h };
      regions_up = λ e. f.written;
    }

pub still-unlinked :
    {rows forks links : List ℕ} {regions n : ℕ} → Linkable rows n regions links → NoneHeld forks regions → Linked rows forks links regions n false
still-unlinked p h =
    record {
      long = p.long;
      few = p.few_regions;
      unheld = λ e. h;
      accesses = false-is-true;
      regions_up = false-is-true;
    }

pub not-linked :
    {rows forks links : List ℕ} {regions n : ℕ} → Linkable rows n regions links → NoneHeld forks regions → Linked rows forks (replicate 1536 0) regions n false
not-linked p h =
    record {
      long = length-replicate {A = ℕ} 1536 0;
      few = p.few_regions;
      unheld = λ e. h;
      accesses = false-is-true;
      regions_up = false-is-true;
    }
