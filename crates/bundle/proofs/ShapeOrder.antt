-- Neither the order of the chunks nor their places matter to the shape of a bundle.
use Prim.Native.Nat.{ℕ, zero, suc}
use mathlib.Core.Path.{◌≡◌, refl, sym, ◌∙◌, ap, subst}
use mathlib.Core.Bool.{Bool, true, false, cond, not, ◌&&◌}
use mathlib.Core.List.Memᴰ
use mathlib.Core.List.Permᴰ
use mathlib.Core.List.{List, [], ◌∷◌, map, Memᴰ, Permᴰ}
use mathlib.Core.Option.{Option, none, some}
use lib.Dec.{eqb, ltb, leb}
use borrow.Author.Tests.{eqb-true}
use Rattle.bundle.specs.Lists.{up_to, any, first, concat_map, from_option}
use Rattle.bundle.specs.Cases.{on_region}
use Rattle.bundle.specs.Chunks.{Chunk, fresh, after_commands, is_end, complete, is_of}
use Rattle.bundle.specs.Walk.{Entry, entries_of, barriers_of, fork_at, forks_in, forks_of}
use Rattle.bundle.specs.declared.index.Fork.{Fork}
use Rattle.bundle.specs.Check.{fork_of, size_of, depth_from, depth_of, lacks_chunk, complete_in, lowest_complete, unlike_lowest, beyond_complete}
use Rattle.bundle.specs.declared.command.Command.{Command}
use Rattle.bundle.proofs.ListLaws.{Distinct, perm-mem, perm-map, perm-concat_map, concat_map-along}
use Rattle.bundle.proofs.Delimiters.{Forking, forks_team, forks_none, forkings, on-other}
use Rattle.bundle.proofs.Keys.{perm-distinct, perm-any, perm-first, all_same, any_same, distinct-key, any-map}
use Rattle.bundle.proofs.Places.{unplaced, unplaced_entry, member_key, commands_of-unplaced, entries-unplaced}
use Rattle.bundle.proofs.Shaped.{Shaped}

-- what follows from the same forks for each team, and the same chunks for each member
abbrev SameFork : List Fork → List Fork → Type 0
SameFork fs gs = (t : ℕ) → fork_of fs t ≡ fork_of gs t

size_same : (fs gs : List Fork) → SameFork fs gs → (t : ℕ) → size_of fs t ≡ size_of gs t
unfolding size_of
size_same fs gs h t = rw (h t)

depth_same : (fuel : ℕ) (fs gs : List Fork) → SameFork fs gs → (t : ℕ) → depth_from fuel fs t ≡ depth_from fuel gs t
unfolding depth_from
depth_same zero fs gs h t = refl
depth_same (suc fuel) fs gs h t = rw (h t) (go (fork_of gs t) (λ u. depth_same fuel fs gs h u))
  where
    go :
        (o : Option Fork)
        → ((u : ℕ) → depth_from fuel fs u ≡ depth_from fuel gs u)
        → from_option 0 (λ (f : Fork). suc (depth_from fuel fs f.parent)) o
        ≡ from_option 0 (λ (f : Fork). suc (depth_from fuel gs f.parent)) o
    go none ih = refl
    go (some f) ih = ap suc (ih f.parent)

pub lacks-same : (cs ds : List Chunk) → ((t m : ℕ) → any (is_of t m) cs ≡ any (is_of t m) ds) → (t size : ℕ) → lacks_chunk cs t size ≡ lacks_chunk ds t size
unfolding lacks_chunk
lacks-same cs ds h t size =
    ap not (all_same (λ m. any (is_of t m) cs) (λ m. any (is_of t m) ds) (up_to size) (h t))

-- another order
pub fork-perm : {fs gs : List Fork} → Permᴰ fs gs → Distinct (map (λ (f : Fork). f.team) fs) → SameFork fs gs
unfolding fork_of
fork-perm p d t =
    perm-first (λ (f : Fork). eqb f.team t) p
    (λ f g m l e q. distinct-key (λ (f : Fork). f.team) d m l (eqb-true f.team t e ∙ sym (eqb-true g.team t q)))

-- 12 and 19 ask only which complete chunks there are, with what barriers
lowest-perm : {cs ds : List Chunk} → Permᴰ cs ds → (t : ℕ) (c : Chunk) → lowest_complete cs t c ≡ lowest_complete ds t c
unfolding lowest_complete
lowest-perm p t c = ap (λ (b : Bool). complete_in t c && not b) (perm-any (λ (d : Chunk). complete_in t d && ltb d.member c.member) p)

unlike-perm : {cs ds : List Chunk} → Permᴰ cs ds → (c : Chunk) → unlike_lowest cs c ≡ unlike_lowest ds c
unfolding unlike_lowest
unlike-perm {cs} {ds} p c =
    ap (λ (b : Bool). complete c && b)
    (perm-any (λ (d : Chunk). lowest_complete cs c.team d && not (eqb (barriers_of c) (barriers_of d))) p
    ∙ any_same ds (λ d. ap (λ (b : Bool). b && not (eqb (barriers_of c) (barriers_of d))) (lowest-perm p c.team d)))

beyond-perm : {cs ds : List Chunk} → Permᴰ cs ds → (c : Chunk) → beyond_complete cs c ≡ beyond_complete ds c
unfolding beyond_complete
beyond-perm p c =
    ap (λ (b : Bool). not (complete c) && b) (perm-any (λ (d : Chunk). complete_in c.team d && ltb (barriers_of d) (barriers_of c)) p)

pub shaped-perm : {cs ds : List Chunk} → Permᴰ cs ds → Shaped cs → Shaped ds
unfolding depth_of
shaped-perm {cs} {ds} p s =
    record {
      forks_once = perm-distinct (perm-map (λ (f : Fork). f.team) q) s.forks_once;
      members_once = perm-distinct (perm-map member_key p) s.members_once;
      members_low = λ c m. rw (← size_same fs gs same c.team) (s.members_low c (perm-mem (Permᴰ.symm p) m));
      root = sym (lacks 0 1) ∙ s.root;
      present = λ f m. sym (lacks f.team f.size) ∙ s.present f (perm-mem (Permᴰ.symm q) m);
      shallow = λ f m. rw (← depth_same (suc f.team) fs gs same f.team) (s.shallow f (perm-mem (Permᴰ.symm q) m));
      alike = λ c m. sym (unlike-perm p c) ∙ s.alike c (perm-mem (Permᴰ.symm p) m);
      none_beyond = λ c m. sym (beyond-perm p c) ∙ s.none_beyond c (perm-mem (Permᴰ.symm p) m);
    }
  where
    fs : List Fork
    fs = forks_of cs

    gs : List Fork
    gs = forks_of ds

    q : Permᴰ fs gs
    q = unfold forks_of in (perm-concat_map forks_in p)

    same : SameFork fs gs
    same = fork-perm q s.forks_once

    lacks : (t size : ℕ) → lacks_chunk cs t size ≡ lacks_chunk ds t size
    lacks = lacks-same cs ds (λ t m. perm-any (is_of t m) p)

-- without places
unfoldable pub unplaced_fork : Fork → Fork
unplaced_fork f =
    record { place = 0; team = f.team; size = f.size; parent = f.parent; member = f.member; state = f.state }

fork-unplaced : (t m : ℕ) (e : Entry) → fork_at t m (unplaced_entry e) ≡ map unplaced_fork (fork_at t m e)
unfolding fork_at unplaced_entry unplaced_fork
fork-unplaced t m e = go e.command (forkings e.command)
  where
    at : ℕ → Command → List Fork
    at place c = on_region [] (λ u z. record { place = place; team = u; size = z; parent = t; member = m; state = e.state } ∷ []) c

    go : (c : Command) → Forking c → at 0 c ≡ map unplaced_fork (at e.at c)
    go c (forks_team u z) = refl
    go c (forks_none h) = rw (on-other {A = List Fork} [] (λ u z. record { place = 0; team = u; size = z; parent = t; member = m; state = e.state } ∷ []) c h, on-other {A = List Fork} [] (λ u z. record { place = e.at; team = u; size = z; parent = t; member = m; state = e.state } ∷ []) c h)

forks-in-unplaced : (c : Chunk) → forks_in (unplaced c) ≡ map unplaced_fork (forks_in c)
unfolding forks_in
forks-in-unplaced c =
    ap (concat_map (fork_at (unplaced c).team (unplaced c).member)) (entries-unplaced c)
    ∙ unfold unplaced in
    (concat_map-along (fork_at c.team c.member) unplaced_entry unplaced_fork (fork-unplaced c.team c.member) (entries_of c))

pub forks-unplaced : (cs : List Chunk) → forks_of (map unplaced cs) ≡ map unplaced_fork (forks_of cs)
unfolding forks_of
forks-unplaced cs = concat_map-along forks_in unplaced unplaced_fork forks-in-unplaced cs

unfoldable pub map_option : {A B : Type 0} → (A → B) → Option A → Option B
map_option g none = none
map_option g (some x) = some (g x)

pub first-map : {A B : Type 0} (g : A → B) (p : B → Bool) (xs : List A) → first p (map g xs) ≡ map_option g (first (λ x. p (g x)) xs)
unfolding map_option
first-map g p [] = refl
first-map g p (x ∷ xs) = rw (first-map g p xs) (go (p (g x)))
  where
    go : (t : Bool) → cond t (some (g x)) (map_option g (first (λ y. p (g y)) xs)) ≡ map_option g (cond t (some x) (first (λ y. p (g y)) xs))
    go true = refl
    go false = refl

size-unplaced : (fs : List Fork) (t : ℕ) → size_of (map unplaced_fork fs) t ≡ size_of fs t
unfolding size_of fork_of unplaced_fork map_option
size-unplaced fs t = ap (λ (n : ℕ). cond (eqb t 0) 1 n) (rw (first-map unplaced_fork (λ (f : Fork). eqb f.team t) fs) (go (first (λ (f : Fork). eqb f.team t) fs)))
  where
    go : (o : Option Fork) → from_option 0 (λ (f : Fork). f.size) (map_option unplaced_fork o) ≡ from_option 0 (λ (f : Fork). f.size) o
    go none = refl
    go (some f) = refl

depth-unplaced : (fuel : ℕ) (fs : List Fork) (t : ℕ) → depth_from fuel (map unplaced_fork fs) t ≡ depth_from fuel fs t
unfolding depth_from fork_of unplaced_fork map_option
depth-unplaced zero fs t = refl
depth-unplaced (suc fuel) fs t =
    rw (first-map unplaced_fork (λ (f : Fork). eqb f.team t) fs)
    (go (first (λ (f : Fork). eqb f.team t) fs) (λ u. depth-unplaced fuel fs u))
  where
    go :
        (o : Option Fork)
        → ((u : ℕ) → depth_from fuel (map unplaced_fork fs) u ≡ depth_from fuel fs u)
        → from_option 0 (λ (f : Fork). suc (depth_from fuel (map unplaced_fork fs) f.parent)) (map_option unplaced_fork o)
        ≡ from_option 0 (λ (f : Fork). suc (depth_from fuel fs f.parent)) o
    go none ih = refl
    go (some f) ih = ap suc (ih f.parent)

any-unplaced : (cs : List Chunk) (t m : ℕ) → any (is_of t m) (map unplaced cs) ≡ any (is_of t m) cs
unfolding is_of unplaced
any-unplaced cs t m = any-map unplaced (is_of t m) (is_of t m) (λ c. refl) cs

barriers-unplaced : (c : Chunk) → barriers_of (unplaced c) ≡ barriers_of c
unfolding barriers_of
barriers-unplaced c = ap (λ (cs : List Command). (after_commands fresh cs).barriers) (commands_of-unplaced c)

complete-unplaced : (c : Chunk) → complete (unplaced c) ≡ complete c
unfolding complete
complete-unplaced c = ap (any is_end) (commands_of-unplaced c)

complete-in-unplaced : (t : ℕ) (c : Chunk) → complete_in t (unplaced c) ≡ complete_in t c
unfolding complete_in
complete-in-unplaced t c = rw (complete-unplaced c) (unfold unplaced in refl)

lowest-unplaced : (cs : List Chunk) (t : ℕ) (c : Chunk) → lowest_complete (map unplaced cs) t (unplaced c) ≡ lowest_complete cs t c
unfolding lowest_complete
lowest-unplaced cs t c =
    rw (complete-in-unplaced t c)
    (ap (λ (b : Bool). complete_in t c && not b)
    (any-map unplaced (λ (d : Chunk). complete_in t d && ltb d.member (unplaced c).member) (λ (d : Chunk). complete_in t d && ltb d.member c.member)
    (λ d. rw (complete-in-unplaced t d) (unfold unplaced in refl)) cs))

unlike-unplaced : (cs : List Chunk) (c : Chunk) → unlike_lowest (map unplaced cs) (unplaced c) ≡ unlike_lowest cs c
unfolding unlike_lowest
unlike-unplaced cs c =
    rw (complete-unplaced c, barriers-unplaced c)
    (ap (λ (b : Bool). complete c && b)
    (any-map unplaced
    (λ (d : Chunk). lowest_complete (map unplaced cs) (unplaced c).team d && not (eqb (barriers_of c) (barriers_of d)))
    (λ (d : Chunk). lowest_complete cs c.team d && not (eqb (barriers_of c) (barriers_of d)))
    (λ d. rw (barriers-unplaced d, lowest-unplaced cs (unplaced c).team d) (unfold unplaced in refl)) cs))

beyond-unplaced : (cs : List Chunk) (c : Chunk) → beyond_complete (map unplaced cs) (unplaced c) ≡ beyond_complete cs c
unfolding beyond_complete
beyond-unplaced cs c =
    rw (complete-unplaced c, barriers-unplaced c)
    (ap (λ (b : Bool). not (complete c) && b)
    (any-map unplaced
    (λ (d : Chunk). complete_in (unplaced c).team d && ltb (barriers_of d) (barriers_of c))
    (λ (d : Chunk). complete_in c.team d && ltb (barriers_of d) (barriers_of c))
    (λ d. rw (barriers-unplaced d, complete-in-unplaced (unplaced c).team d) (unfold unplaced in refl)) cs))

same_keys : {A B K : Type 0} (g : A → B) (key : A → K) (key' : B → K) → ((x : A) → key' (g x) ≡ key x) → (xs : List A) → map key' (map g xs) ≡ map key xs
same_keys g key key' h [] = refl
same_keys g key key' h (x ∷ xs) = rw (h x, same_keys g key key' h xs)

module _ (cs : List Chunk) where
  teams : map (λ (f : Fork). f.team) (forks_of (map unplaced cs)) ≡ map (λ (f : Fork). f.team) (forks_of cs)
  unfolding unplaced_fork
  teams = rw (forks-unplaced cs) (same_keys unplaced_fork (λ (f : Fork). f.team) (λ (f : Fork). f.team) (λ f. refl) (forks_of cs))

  members : map member_key (map unplaced cs) ≡ map member_key cs
  unfolding member_key unplaced
  members = same_keys unplaced member_key member_key (λ c. refl) cs

  low : (c : Chunk) → leb (size_of (forks_of (map unplaced cs)) (unplaced c).team) (unplaced c).member ≡ leb (size_of (forks_of cs) c.team) c.member
  unfolding unplaced
  low c = rw (forks-unplaced cs, size-unplaced (forks_of cs) c.team)

  lacking : (t size : ℕ) → lacks_chunk (map unplaced cs) t size ≡ lacks_chunk cs t size
  lacking = lacks-same (map unplaced cs) cs (any-unplaced cs)

  depth : (t : ℕ) → depth_of (forks_of (map unplaced cs)) t ≡ depth_of (forks_of cs) t
  unfolding depth_of
  depth t = rw (forks-unplaced cs) (depth-unplaced (suc t) (forks_of cs) t)

  -- a property of the team and size of each fork, or of each chunk, with and without places
  forks-there :
      (P : ℕ → ℕ → Type 0)
      → ((f : Fork) → Memᴰ f (forks_of cs) → P f.team f.size)
      → (f : Fork)
      → Memᴰ f (forks_of (map unplaced cs))
      → P f.team f.size
  unfolding unplaced_fork
  forks-there P h f m =
      let w = Memᴰ.of_map unplaced_fork (forks_of cs) (rw (forks-unplaced cs) at m) in
      subst (λ (g : Fork). P g.team g.size) w.2 (h w.0 w.1)

  forks-back :
      (P : ℕ → ℕ → Type 0)
      → ((f : Fork) → Memᴰ f (forks_of (map unplaced cs)) → P f.team f.size)
      → (f : Fork)
      → Memᴰ f (forks_of cs)
      → P f.team f.size
  unfolding unplaced_fork
  forks-back P h f m = h (unplaced_fork f) (rw (forks-unplaced cs) (Memᴰ.map unplaced_fork m))

  pub shaped-unplaced : Shaped cs → Shaped (map unplaced cs)
  shaped-unplaced s =
      record {
        forks_once = rw teams s.forks_once;
        members_once = rw members s.members_once;
        members_low =
            λ c m.
            let w = Memᴰ.of_map unplaced cs m in
            subst (λ (d : Chunk). leb (size_of (forks_of (map unplaced cs)) d.team) d.member ≡ false) w.2 (low w.0 ∙ s.members_low w.0 w.1);
        root = lacking 0 1 ∙ s.root;
        present = forks-there (λ t z. lacks_chunk (map unplaced cs) t z ≡ false) (λ f m. lacking f.team f.size ∙ s.present f m);
        shallow =
            forks-there (λ t z. ltb 4 (depth_of (forks_of (map unplaced cs)) t) ≡ false)
            (λ f m. rw (depth f.team) (s.shallow f m));
        alike =
            λ c m.
            let w = Memᴰ.of_map unplaced cs m in
            subst (λ (d : Chunk). unlike_lowest (map unplaced cs) d ≡ false) w.2 (unlike-unplaced cs w.0 ∙ s.alike w.0 w.1);
        none_beyond =
            λ c m.
            let w = Memᴰ.of_map unplaced cs m in
            subst (λ (d : Chunk). beyond_complete (map unplaced cs) d ≡ false) w.2 (beyond-unplaced cs w.0 ∙ s.none_beyond w.0 w.1);
      }

  pub unplaced-shaped : Shaped (map unplaced cs) → Shaped cs
  unplaced-shaped s =
      record {
        forks_once = rw teams at s.forks_once;
        members_once = rw members at s.members_once;
        members_low = λ c m. sym (low c) ∙ s.members_low (unplaced c) (Memᴰ.map unplaced m);
        root = sym (lacking 0 1) ∙ s.root;
        present = forks-back (λ t z. lacks_chunk cs t z ≡ false) (λ f m. sym (lacking f.team f.size) ∙ s.present f m);
        shallow = forks-back (λ t z. ltb 4 (depth_of (forks_of cs) t) ≡ false) (λ f m. rw (← depth f.team) (s.shallow f m));
        alike = λ c m. sym (unlike-unplaced cs c) ∙ s.alike (unplaced c) (Memᴰ.map unplaced m);
        none_beyond = λ c m. sym (beyond-unplaced cs c) ∙ s.none_beyond (unplaced c) (Memᴰ.map unplaced m);
      }
