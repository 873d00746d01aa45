-- The names of a bundle's accesses.
use Prim.Native.Nat.{ℕ, ◌+◌, ◌≤◌}
use mathlib.Core.Path.{◌≡◌, refl, ◌∙◌, ap, subst}
use mathlib.Core.Logic.{⊎_elim}
use mathlib.Core.List.Memᴰ
use mathlib.Core.List.{List, [], ◌∷◌, ◌++◌, map, Memᴰ}
use native.Mathlib.Omega.{arith}
use native.Mathlib.Nat.{add-zero}
use Rattle.bundle.specs.Lists.{concat_map}
use Rattle.bundle.specs.Chunks.{Placed, Chunk, fresh, after_command}
use Rattle.bundle.specs.Walk.{opens_segment, adds_access, Entry, entries_from, entries_of}
use Rattle.bundle.specs.declared.chunk.ChunkState.{ChunkState}
use Rattle.bundle.specs.declared.command.Command.{Command}
use Rattle.bundle.proofs.ListLaws.{Distinct, distinct_nil, distinct_cons, distinct-concat_map}
use Rattle.bundle.proofs.Delimiters.{Accessing, accesses_some, accesses_none, accessings, on-no-access}
use Rattle.bundle.proofs.Places.{member_key}
use Rattle.verdict.specs.Accesses.{NamedAccess, access_at, accesses_in, accesses_of, name_key}

-- the accesses of a chunk are numbered on
pub data Run (t m : ℕ) : ℕ → List NamedAccess → Type 0 where
  run_none : {n : ℕ} → Run t m n []
  run_more :
      {n : ℕ} {x : NamedAccess} {xs : List NamedAccess}
      → name_key x.name ≡ t ∷ m ∷ n ∷ []
      → Run t m (n + 1) xs
      → Run t m n (x ∷ xs)

access-run : (t m g n : ℕ) (k : ChunkState) (ps : List Placed) → Run t m n (concat_map (access_at t m) (entries_from k g n ps))
unfolding entries_from
access-run t m g n k [] = run_none
access-run t m g n k (p ∷ ps) =
    let k' = after_command k p.command in
    let g' = g + opens_segment p.command in
    go p.command (accessings p.command) k' g' (access-run t m g' (n + adds_access p.command) k' ps)
  where
    at : Command → Entry
    at c = record { at = p.at; command = c; state = k; segment = g; accesses = n }

    go :
        (c : Command)
        → Accessing c
        → (k' : ChunkState) (g' : ℕ)
        → Run t m (n + adds_access c) (concat_map (access_at t m) (entries_from k' g' (n + adds_access c) ps))
        → Run t m n (access_at t m (at c) ++ concat_map (access_at t m) (entries_from k' g' (n + adds_access c) ps))
    go c (accesses_some a) k' g' r = unfold access_at adds_access name_key in (run_more refl r)
    go c (accesses_none h) k' g' r =
        let none : access_at t m (at c) ≡ [] = unfold access_at in (on-no-access [] _ c h) in
        let still : n + adds_access c ≡ n = unfold adds_access in (ap (λ (i : ℕ). n + i) (on-no-access 0 (λ a. 1) c h) ∙ add-zero n) in
        rw none (subst (λ (i : ℕ). Run t m i (concat_map (access_at t m) (entries_from k' g' (n + adds_access c) ps))) still r)

-- an access by its name
abbrev pub access_key : NamedAccess → List ℕ
access_key x = name_key x.name

-- the name of an access of a run
pub record Numbered (t m n : ℕ) (x : NamedAccess) : Type 0 where
  pub number : ℕ
  pub from : n ≤ number
  pub key : access_key x ≡ t ∷ m ∷ number ∷ []

pub run-names : {t m n : ℕ} {x : NamedAccess} {xs : List NamedAccess} → Run t m n xs → Memᴰ x xs → Numbered t m n x
run-names run_none l = absurd (Memᴰ.not-nil l)
run-names {t} {m} {n} {x} (run_more {x = y} e d) l =
    ⊎_elim
    (λ (q : x ≡ y). record { number = n; from = omega arith; key = ap access_key q ∙ e })
    (λ l'. let r = run-names d l' in record { number = r.number; from = omega arith; key = r.key })
    (Memᴰ.cases_cons l)

pub run-distinct : {t m n : ℕ} {xs : List NamedAccess} → Run t m n xs → Distinct (map access_key xs)
run-distinct run_none = distinct_nil
run-distinct {t} {m} {n} (run_more {x = x} {xs = xs} e d) =
    distinct_cons (λ l. let y = Memᴰ.of_map access_key xs l in never y.0 y.2 (run-names d y.1)) (run-distinct d)
  where
    never : (y : NamedAccess) → access_key y ≡ access_key x → Numbered t m (n + 1) y → ⊥
    never y q r = let z : n ≡ r.number = cc in omega arith

-- no two accesses have one name, if no two chunks are of one member
pub accesses-distinct : (cs : List Chunk) → Distinct (map member_key cs) → Distinct (map access_key (accesses_of cs))
unfolding accesses_of accesses_in member_key
accesses-distinct cs d = distinct-concat_map member_key accesses_in access_key (λ c. run-distinct (runs c)) tells cs d
  where
    runs : (c : Chunk) → Run c.team c.member 0 (accesses_in c)
    runs c = unfold entries_of in (access-run c.team c.member 0 0 fresh c.body)

    tells :
        (c d : Chunk) (u v : NamedAccess)
        → Memᴰ u (accesses_in c)
        → Memᴰ v (accesses_in d)
        → access_key u ≡ access_key v
        → member_key c ≡ member_key d
    tells c d u v l k e = go (run-names (runs c) l) (run-names (runs d) k)
      where
        go : Numbered c.team c.member 0 u → Numbered d.team d.member 0 v → member_key c ≡ member_key d
        go p q = cc
