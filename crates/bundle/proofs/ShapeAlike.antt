-- Chunks changed one by one in what the shape of a bundle does not see: their shape stays.
use Prim.Native.Nat.{ℕ}
use mathlib.Core.Path.{◌≡◌, refl, ◌∙◌, ap, subst}
use mathlib.Core.Bool.{Bool, false, not, ◌&&◌}
use mathlib.Core.List.Memᴰ
use mathlib.Core.List.{List, [], ◌∷◌, map, Memᴰ}
use lib.Dec.{eqb, ltb, leb}
use Rattle.bundle.specs.Lists.{any}
use Rattle.bundle.specs.Chunks.{Chunk, complete, is_of}
use Rattle.bundle.specs.Walk.{barriers_of, forks_in, forks_of}
use Rattle.bundle.specs.Check.{size_of, lacks_chunk, complete_in, lowest_complete, unlike_lowest, beyond_complete}
use Rattle.bundle.proofs.ListLaws.{concat_map-map}
use Rattle.bundle.proofs.Keys.{any-map}
use Rattle.bundle.proofs.Places.{member_key}
use Rattle.bundle.proofs.Shaped.{Shaped}
use Rattle.bundle.proofs.ShapeOrder.{lacks-same}

-- what the shape sees of a chunk
pub record Alike (f : Chunk → Chunk) : Type 0 where
  pub team : (c : Chunk) → (f c).team ≡ c.team
  pub member : (c : Chunk) → (f c).member ≡ c.member
  pub forks : (c : Chunk) → forks_in (f c) ≡ forks_in c
  pub barriers : (c : Chunk) → barriers_of (f c) ≡ barriers_of c
  pub whole : (c : Chunk) → complete (f c) ≡ complete c

module _ (f : Chunk → Chunk) (x : Alike f) where
  pub forks-alike : (cs : List Chunk) → forks_of (map f cs) ≡ forks_of cs
  unfolding forks_of
  forks-alike cs = concat_map-map forks_in f x.forks cs

  keys-alike : (cs : List Chunk) → map member_key (map f cs) ≡ map member_key cs
  unfolding member_key
  keys-alike [] = refl
  keys-alike (c ∷ cs) = rw (x.team c, x.member c, keys-alike cs)

  members_alike : (cs : List Chunk) (t m : ℕ) → any (is_of t m) (map f cs) ≡ any (is_of t m) cs
  unfolding is_of
  members_alike cs t m = any-map f (is_of t m) (is_of t m) (λ c. rw (x.team c, x.member c)) cs

  complete-in-alike : (t : ℕ) (c : Chunk) → complete_in t (f c) ≡ complete_in t c
  unfolding complete_in
  complete-in-alike t c = λ i. eqb (x.team c i) t && x.whole c i

  lowest-alike : (cs : List Chunk) (t : ℕ) (c : Chunk) → lowest_complete (map f cs) t (f c) ≡ lowest_complete cs t c
  unfolding lowest_complete
  lowest-alike cs t c =
      rw (complete-in-alike t c, x.member c)
      (ap (λ (b : Bool). complete_in t c && not b)
      (any-map f (λ (d : Chunk). complete_in t d && ltb d.member c.member) (λ (d : Chunk). complete_in t d && ltb d.member c.member)
      (λ d. rw (complete-in-alike t d, x.member d)) cs))

  unlike-alike : (cs : List Chunk) (c : Chunk) → unlike_lowest (map f cs) (f c) ≡ unlike_lowest cs c
  unfolding unlike_lowest
  unlike-alike cs c =
      rw (x.whole c, x.barriers c, x.team c)
      (ap (λ (b : Bool). complete c && b)
      (any-map f
      (λ (d : Chunk). lowest_complete (map f cs) c.team d && not (eqb (barriers_of c) (barriers_of d)))
      (λ (d : Chunk). lowest_complete cs c.team d && not (eqb (barriers_of c) (barriers_of d)))
      (λ d. rw (x.barriers d, lowest-alike cs c.team d)) cs))

  beyond-alike : (cs : List Chunk) (c : Chunk) → beyond_complete (map f cs) (f c) ≡ beyond_complete cs c
  unfolding beyond_complete
  beyond-alike cs c =
      rw (x.whole c, x.barriers c, x.team c)
      (ap (λ (b : Bool). not (complete c) && b)
      (any-map f
      (λ (d : Chunk). complete_in c.team d && ltb (barriers_of d) (barriers_of c))
      (λ (d : Chunk). complete_in c.team d && ltb (barriers_of d) (barriers_of c))
      (λ d. rw (x.barriers d, complete-in-alike c.team d)) cs))

  pub shaped-alike : (cs : List Chunk) → Shaped cs → Shaped (map f cs)
  shaped-alike cs s =
      record {
        forks_once = rw (forks-alike cs) s.forks_once;
        members_once = rw (keys-alike cs) s.members_once;
        members_low =
            each (λ (d : Chunk). leb (size_of (forks_of (map f cs)) d.team) d.member ≡ false)
            (λ c m. rw (forks-alike cs, x.team c, x.member c) (s.members_low c m));
        root = lacks 0 1 ∙ s.root;
        present = λ g m. lacks g.team g.size ∙ s.present g (rw (forks-alike cs) at m);
        shallow = λ g m. rw (forks-alike cs) (s.shallow g (rw (forks-alike cs) at m));
        alike = each (λ (d : Chunk). unlike_lowest (map f cs) d ≡ false) (λ c m. unlike-alike cs c ∙ s.alike c m);
        none_beyond = each (λ (d : Chunk). beyond_complete (map f cs) d ≡ false) (λ c m. beyond-alike cs c ∙ s.none_beyond c m);
      }
    where
      lacks : (t size : ℕ) → lacks_chunk (map f cs) t size ≡ lacks_chunk cs t size
      lacks = lacks-same (map f cs) cs (members_alike cs)

      each : (P : Chunk → Type 0) → ((c : Chunk) → Memᴰ c cs → P (f c)) → (d : Chunk) → Memᴰ d (map f cs) → P d
      each P h d m = let w = Memᴰ.of_map f cs m in subst P w.2 (h w.0 w.1)
