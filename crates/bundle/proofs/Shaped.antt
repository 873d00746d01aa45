-- The shape of a bundle, 8 to 12 and 19: what the chunks have that pass.
use Prim.Native.Nat.{ℕ}
use mathlib.Core.Path.{◌≡◌, refl, sym, ap}
use mathlib.Core.Bool.{Bool, true, false, cond}
use mathlib.Core.List.Memᴰ
use mathlib.Core.List.{List, [], ◌∷◌, map, Memᴰ}
use native.Mathlib.Omega.{arith}
use lib.Dec.{eqb, ltb, leb}
use borrow.Author.Tests.{eqb-true, eq-eqb}
use Rattle.bundle.specs.Answer.{gives}
use Rattle.bundle.specs.Chunks.{Chunk, is_of}
use Rattle.bundle.specs.Walk.{forks_of}
use Rattle.bundle.specs.declared.index.Fork.{Fork}
use Rattle.bundle.specs.Check.{size_of, depth_of, forked_before, stray, lacks_chunk, unlike_lowest, beyond_complete, shape_of}
use Rattle.bundle.proofs.Tests.{both, and_left, and_right}
use Rattle.bundle.proofs.ListLaws.{Distinct}
use Rattle.bundle.proofs.Failing.{failing-none, none-failing, each-passes, passes-each, once-elim, once-intro, refused_none, none-refused}
use Rattle.bundle.proofs.Places.{member_key}

-- what a list of chunks has that passes 8 to 12 and 19
pub record Shaped (cs : List Chunk) : Type 0 where
  pub forks_once : Distinct (map (λ (f : Fork). f.team) (forks_of cs))
  pub members_once : Distinct (map member_key cs)
  pub members_low : (c : Chunk) → Memᴰ c cs → leb (size_of (forks_of cs) c.team) c.member ≡ false
  pub root : lacks_chunk cs 0 1 ≡ false
  pub present : (f : Fork) → Memᴰ f (forks_of cs) → lacks_chunk cs f.team f.size ≡ false
  pub shallow : (f : Fork) → Memᴰ f (forks_of cs) → ltb 4 (depth_of (forks_of cs) f.team) ≡ false
  pub alike : (c : Chunk) → Memᴰ c cs → unlike_lowest cs c ≡ false
  pub none_beyond : (c : Chunk) → Memᴰ c cs → beyond_complete cs c ≡ false

-- a chunk is that of a member exactly where the keys are equal
abbrev same_member : Chunk → Chunk → Bool
same_member c d = is_of c.team c.member d

is_key : (c d : Chunk) → same_member c d ≡ true → member_key c ≡ member_key d
unfolding is_of member_key
is_key c d e =
    let t = eqb-true d.team c.team (and_left (eqb d.team c.team) (eqb d.member c.member) e) in
    let m = eqb-true d.member c.member (and_right (eqb d.team c.team) (eqb d.member c.member) e) in
    rw (t, m)

pub is_of-intro : (t m : ℕ) (c : Chunk) → c.team ≡ t → c.member ≡ m → is_of t m c ≡ true
unfolding is_of
is_of-intro t m c e f = both (eq-eqb c.team t e) (eq-eqb c.member m f)

pub is_of-elim : (t m : ℕ) (c : Chunk) → is_of t m c ≡ true → (c.team ≡ t) × (c.member ≡ m)
unfolding is_of
is_of-elim t m c e = (
  eqb-true c.team t (and_left (eqb c.team t) (eqb c.member m) e),
  eqb-true c.member m (and_right (eqb c.team t) (eqb c.member m) e),
)

first-of-key : (c d : Chunk) → member_key c ≡ member_key d → c.team ≡ d.team
unfolding member_key
first-of-key c d e = cc

second-of-key : (c d : Chunk) → member_key c ≡ member_key d → c.member ≡ d.member
unfolding member_key
second-of-key c d e = cc

key-is : (c d : Chunk) → member_key c ≡ member_key d → same_member c d ≡ true
key-is c d e = is_of-intro c.team c.member d (sym (first-of-key c d e)) (sym (second-of-key c d e))

-- from the refusals to the shape and back
low_of : List Chunk → Chunk → Bool
low_of cs c = leb (size_of (forks_of cs) c.team) c.member

team-is : (f g : Fork) → eqb g.team f.team ≡ true → f.team ≡ g.team
team-is f g e = sym (eqb-true g.team f.team e)

is-team : (f g : Fork) → f.team ≡ g.team → eqb g.team f.team ≡ true
is-team f g e = eq-eqb g.team f.team (sym e)

cond-none : (t : Bool) → ◌≡◌ {A = List ℕ} (cond t (0 ∷ []) []) [] → t ≡ false
cond-none true e = let z : ◌≡◌ {A = ℕ} 0 1 = cc in absurd (omega arith)
cond-none false e = refl

pub shaped-elim : (cs : List Chunk) → shape_of cs ≡ gives tt → Shaped cs
unfolding shape_of low_of forked_before stray
shaped-elim cs e =
    let fs = forks_of cs in
    let atFork : Fork → ℕ = λ f. f.place in
    let atChunk : Chunk → ℕ = λ c. c.place in
    let lacks : List Fork → Fork → Bool = λ before f. lacks_chunk cs f.team f.size in
    let deep : List Fork → Fork → Bool = λ before f. ltb 4 (depth_of fs f.team) in
    let unlike : List Chunk → Chunk → Bool = λ before c. unlike_lowest cs c in
    let beyond : List Chunk → Chunk → Bool = λ before c. beyond_complete cs c in
    let r8 = refused_none 8 _ _ e in
    let r9 = refused_none 9 _ _ r8.1 in
    let r10 = refused_none 10 _ _ r9.1 in
    let r10' = refused_none 10 _ _ r10.1 in
    let r11 = refused_none 11 _ _ r10'.1 in
    let r12 = refused_none 12 _ _ r11.1 in
    let r19 = refused_none 19 _ _ r12.1 in
    let forks =
    once-elim (λ (f : Fork). f.team) (λ f. false) (λ (f g : Fork). eqb g.team f.team) team-is is-team
    (failing-none atFork forked_before [] fs r8.0) in
    let members = once-elim member_key (low_of cs) same_member is_key key-is (failing-none atChunk (stray fs) [] cs r9.0) in
    record {
      forks_once = forks.distinct;
      members_once = members.distinct;
      members_low = members.all_low;
      root = cond-none (lacks_chunk cs 0 1) r10.0;
      present = each-passes (λ (f : Fork). lacks_chunk cs f.team f.size) (failing-none atFork lacks [] fs r10'.0);
      shallow = each-passes (λ (f : Fork). ltb 4 (depth_of fs f.team)) (failing-none atFork deep [] fs r11.0);
      alike = each-passes (unlike_lowest cs) (failing-none atChunk unlike [] cs r12.0);
      none_beyond = each-passes (beyond_complete cs) (failing-none atChunk beyond [] cs r19.0);
    }

pub shaped-intro : (cs : List Chunk) → Shaped cs → shape_of cs ≡ gives tt
unfolding shape_of low_of forked_before stray
shaped-intro cs s =
    let fs = forks_of cs in
    let atFork : Fork → ℕ = λ f. f.place in
    let atChunk : Chunk → ℕ = λ c. c.place in
    none-refused 8
    (none-failing atFork forked_before
    (once-intro (λ (f : Fork). f.team) (λ f. false) (λ (f g : Fork). eqb g.team f.team) team-is is-team [] fs
    (record { all_low = λ f m. refl; distinct = s.forks_once; apart = λ f g m l q. Memᴰ.not-nil l })))
    (none-refused 9
    (none-failing atChunk (stray fs)
    (once-intro member_key (low_of cs) same_member is_key key-is [] cs
    (record { all_low = s.members_low; distinct = s.members_once; apart = λ c d m l q. Memᴰ.not-nil l })))
    (none-refused 10 (ap (λ (t : Bool). cond t (0 ∷ []) []) s.root)
    (none-refused 10
    (none-failing atFork (λ before f. lacks_chunk cs f.team f.size)
    (passes-each (λ (f : Fork). lacks_chunk cs f.team f.size) [] fs s.present))
    (none-refused 11
    (none-failing atFork (λ before f. ltb 4 (depth_of fs f.team))
    (passes-each (λ (f : Fork). ltb 4 (depth_of fs f.team)) [] fs s.shallow))
    (none-refused 12
    (none-failing atChunk (λ before c. unlike_lowest cs c) (passes-each (unlike_lowest cs) [] cs s.alike))
    (none-refused 19
    (none-failing atChunk (λ before c. beyond_complete cs c) (passes-each (beyond_complete cs) [] cs s.none_beyond))
    refl))))))
