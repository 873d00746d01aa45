-- Check a bundle, and find a member's chunk.
use Rattle.std.specs.Prelude.{ℕ, zero, suc, ◌≡◌, Bool, cond, not, ◌&&◌, ◌||◌, length, eqb, ltb, leb}
use mathlib.Core.List.{List, [], ◌∷◌, map, Permᴰ}
use Rattle.std.proofs.Math.Option.{Option}
use Rattle.bundle.specs.Answer.{Answer, gives, refuses, when_given}
use Rattle.bundle.specs.Lists.{up_to, any, all, first, back_to_back, from_option}
use Rattle.bundle.specs.Chunks.{Chunk, chunks_of, complete, part_of, is_of, chunk_of}
unfoldable pub use Rattle.bundle.specs.Walk.{forks_in, forks_of, barriers_of}
pub use Rattle.bundle.specs.declared.index.Fork.{Fork}
use Rattle.bundle.specs.Scan.{scan_of}

-- the REGION that forks a team
unfoldable pub fork_of : List Fork → ℕ → Option Fork
fork_of fs t = first (λ (f : Fork). eqb f.team t) fs

-- "The root is team 0, size 1, never forked"; a team that is never forked has no members
unfoldable pub size_of : List Fork → ℕ → ℕ
size_of fs t = cond (eqb t 0) 1 (from_option 0 (λ (f : Fork). f.size) (fork_of fs t))

-- the number of REGIONs climbed from a team to the root; the team number falls at each
unfoldable pub depth_from : ℕ → List Fork → ℕ → ℕ
depth_from zero fs t = 0
depth_from (suc fuel) fs t = from_option 0 (λ (f : Fork). suc (depth_from fuel fs f.parent)) (fork_of fs t)

unfoldable pub depth_of : List Fork → ℕ → ℕ
depth_of fs t = depth_from (suc t) fs t

-- the places, in the order of the bytes, of the elements that fail a test; the test sees the elements before too
unfoldable pub failing : {A : Type 0} → (A → ℕ) → (List A → A → Bool) → List A → List A → List ℕ
failing place fails before [] = []
failing place fails before (x ∷ xs) =
    cond (fails before x) (place x ∷ failing place fails (x ∷ before) xs) (failing place fails (x ∷ before) xs)

-- 8: a team forked before, at the later REGION
unfoldable pub forked_before : List Fork → Fork → Bool
forked_before before f = any (λ (g : Fork). eqb g.team f.team) before

-- 9: a chunk of a team other than 0 that is never forked, a member number not below the size, or a second chunk of one member
unfoldable pub stray : List Fork → List Chunk → Chunk → Bool
stray fs before c = leb (size_of fs c.team) c.member || any (is_of c.team c.member) before

-- 10: a forked team lacking a chunk, at its REGION, or no root chunk, at 0
unfoldable pub lacks_chunk : List Chunk → ℕ → ℕ → Bool
lacks_chunk cs t size = not (all (λ m. any (is_of t m) cs) (up_to size))

-- a complete member of a team; "the lowest-numbered complete one"
unfoldable pub complete_in : ℕ → Chunk → Bool
complete_in t c = eqb c.team t && complete c

unfoldable pub lowest_complete : List Chunk → ℕ → Chunk → Bool
lowest_complete cs t c = complete_in t c && not (any (λ (d : Chunk). complete_in t d && ltb d.member c.member) cs)

-- 12: a barrier count unlike that of the team's lowest-numbered complete member; it "compares complete members only"
unfoldable pub unlike_lowest : List Chunk → Chunk → Bool
unlike_lowest cs c =
    complete c && any (λ (d : Chunk). lowest_complete cs c.team d && not (eqb (barriers_of c) (barriers_of d))) cs

-- 19: "a cut chunk with more barriers than a complete member of its team"
unfoldable pub beyond_complete : List Chunk → Chunk → Bool
beyond_complete cs c = not (complete c) && any (λ (d : Chunk). complete_in c.team d && ltb (barriers_of d) (barriers_of c)) cs

-- the first place is the lowest
unfoldable pub refused_at : ℕ → List ℕ → Answer (Unit {0}) → Answer (Unit {0})
refused_at n [] next = next
refused_at n (p ∷ ps) next = refuses n p

-- 8 to 12, and 19 "after 12": "the lowest number, then lowest offset"; 11 is a team too deep: "Teams nest at most 4 deep below the root"
unfoldable pub shape_of : List Chunk → Answer (Unit {0})
shape_of cs =
    let fs = forks_of cs in
    let atFork : Fork → ℕ = λ f. f.place in
    let atChunk : Chunk → ℕ = λ c. c.place in
    refused_at 8 (failing atFork forked_before [] fs)
    (refused_at 9 (failing atChunk (stray fs) [] cs)
    (refused_at 10 (cond (lacks_chunk cs 0 1) (0 ∷ []) [])
    (refused_at 10 (failing atFork (λ before f. lacks_chunk cs f.team f.size) [] fs)
    (refused_at 11 (failing atFork (λ before f. ltb 4 (depth_of fs f.team)) [] fs)
    (refused_at 12 (failing atChunk (λ before c. unlike_lowest cs c) [] cs)
    (refused_at 19 (failing atChunk (λ before c. beyond_complete cs c) [] cs)
    (gives tt)))))))

-- "Check a bundle"
unfoldable pub check_of : List ℕ → Answer (Unit {0})
check_of s = cond (ltb 65536 (length s)) (refuses 1 0) (when_given (scan_of s) (λ k. shape_of (chunks_of s)))

-- "Find a member's chunk": as check, then 14 none such, at 0
unfoldable pub find_of : List ℕ → ℕ → ℕ → Answer (List ℕ)
find_of s t m =
    when_given (check_of s) (λ u. from_option (refuses 14 0) (λ c. gives (part_of s c)) (chunk_of (chunks_of s) t m))

abbrev pub Accepted : List ℕ → Type 0
Accepted s = check_of s ≡ gives tt

-- the chunks of the bundle b, MEMBER to END or CUT each, back to back in some order
pub record Reordered (b c : List ℕ) : Type 0 where
  pub order : List Chunk
  pub same_chunks : Permᴰ (chunks_of b) order
  pub back-to-back : c ≡ back_to_back (map (part_of b) order)
