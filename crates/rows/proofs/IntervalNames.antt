-- The names of intervals: numbered on in a chunk, and no two of a bundle alike.
use Prim.Native.Nat.{ℕ, ◌+◌, ◌≤◌}
use mathlib.Core.Path.{◌≡◌, refl, sym, ◌∙◌, ap, subst}
use mathlib.Core.Logic.{⊎_elim}
use mathlib.Core.Bool.{true}
use mathlib.Core.List.Memᴰ
use mathlib.Core.List.{List, [], ◌∷◌, ◌++◌, map, Memᴰ}
use native.Mathlib.Omega.{arith}
use lib.ListN.{length, take}
use Rattle.bundle.specs.Lists.{concat_map}
use Rattle.bundle.specs.Commands.{bytes_of}
use Rattle.bundle.specs.Chunks.{Placed, Chunk, fresh, after_barrier, after_join, after_acquire, after_release, after_command, chunks_of}
use Rattle.bundle.specs.Walk.{opens_segment, adds_access, entries_from, entries_of}
use Rattle.bundle.specs.Check.{Accepted}
use Rattle.bundle.specs.declared.chunk.ChunkState.{ChunkState}
use Rattle.bundle.specs.declared.command.Command.{Command}
use Rattle.bundle.specs.declared.command.Command.TheVariants as Com
use Rattle.bundle.proofs.Tests.{false-is-true}
use Rattle.bundle.proofs.Delimiters.{plain, closes}
use Rattle.bundle.proofs.Gathering.{Body, ends, goes, Formed}
use Rattle.bundle.proofs.ListLaws.{Distinct, distinct_nil, distinct_cons, distinct-concat_map}
use Rattle.bundle.proofs.Places.{member_key}
use Rattle.bundle.proofs.Reorder.{distinct-members}
use Rattle.bundle.proofs.Onward.{legible}
use Rattle.rows.specs.Rows.{Interval, past_of, ends_interval, intervals_from, intervals_in, interval_name}
use Rattle.rows.specs.Passing.{listed}

-- the intervals of a member from a number on
pub data Run (t m : ℕ) : ℕ → List Interval → Type 0 where
  run_none : {n : ℕ} → Run t m n []
  run_more : {n : ℕ} {i : Interval} {is : List Interval} → interval_name i ≡ t ∷ m ∷ n ∷ [] → Run t m (n + 1) is → Run t m n (i ∷ is)

module _ (t m : ℕ) where
  abbrev Runs : List Placed → Type 0
  Runs ps = (b : ℕ) (k₀ k : ChunkState) (g n : ℕ) → k.barriers ≡ k₀.barriers → Run t m k₀.barriers (intervals_from t m b k₀ (entries_from k g n ps))

  runs-closing : (p : Placed) → closes p.command ≡ true → Runs (p ∷ [])
  unfolding intervals_from entries_from ends_interval closes interval_name
  runs-closing p e b k₀ k g n same = go p.command e
    where
      Goal : Command → Type 0
      Goal d = Run t m k₀.barriers (intervals_from t m b k₀ (entries_from k g n (record { at = p.at; command = d } ∷ [])))

      go : (d : Command) → closes d ≡ true → Goal d
      go (Com.Member u v) q = false-is-true q
      go Com.End q = run_more refl run_none
      go (Com.Region u z) q = false-is-true q
      go Com.Barrier q = false-is-true q
      go (Com.Acquire l) q = false-is-true q
      go (Com.Release l) q = false-is-true q
      go (Com.Access a) q = false-is-true q
      go Com.Cut q = run_more refl run_none

  runs-plain : (p : Placed) (ps : List Placed) → plain p.command ≡ true → Runs ps → Runs (p ∷ ps)
  unfolding intervals_from entries_from ends_interval past_of plain interval_name after_command after_barrier after_join after_acquire after_release
  runs-plain p ps e ih b k₀ k g n same = go p.command e
    where
      Goal : Command → Type 0
      Goal d = Run t m k₀.barriers (intervals_from t m b k₀ (entries_from k g n (record { at = p.at; command = d } ∷ ps)))

      go : (d : Command) → plain d ≡ true → Goal d
      go (Com.Member u v) q = false-is-true q
      go Com.End q = false-is-true q
      go (Com.Region u z) q = ih b k₀ (after_join k) _ _ same
      go Com.Barrier q =
          run_more refl
          (subst (λ (i : ℕ). Run t m (i + 1) (intervals_from t m (p.at + length (bytes_of Com.Barrier)) (after_barrier k) (entries_from (after_barrier k) (g + opens_segment Com.Barrier) (n + adds_access Com.Barrier) ps)))
          same
          (ih (p.at + length (bytes_of Com.Barrier)) (after_barrier k) (after_barrier k) _ _ refl))
      go (Com.Acquire l) q = ih b k₀ (after_acquire l k) _ _ same
      go (Com.Release l) q = ih b k₀ (after_release l k) _ _ same
      go (Com.Access a) q = ih b k₀ k _ _ same
      go Com.Cut q = false-is-true q

  runs-body : {ps : List Placed} → Body ps → Runs ps
  runs-body (ends {p = p} e) = runs-closing p e
  runs-body (goes {p = p} {ps = ps} e b) = runs-plain p ps e (runs-body b)

pub chunk-runs : (c : Chunk) → Formed c → Run c.team c.member 0 (intervals_in c)
unfolding intervals_in entries_of fresh
chunk-runs c f = runs-body c.team c.member f.body_ok (c.place + length (bytes_of (Com.Member c.team c.member))) fresh fresh 0 0 refl

-- the name of an interval of a run
pub record Numbered (t m n : ℕ) (i : Interval) : Type 0 where
  pub number : ℕ
  pub from : n ≤ number
  pub key : interval_name i ≡ t ∷ m ∷ number ∷ []

pub run-names : {t m n : ℕ} {i : Interval} {is : List Interval} → Run t m n is → Memᴰ i is → Numbered t m n i
run-names run_none l = absurd (Memᴰ.not-nil l)
run-names {t} {m} {n} {i} (run_more {i = j} e d) l =
    ⊎_elim
    (λ (q : i ≡ j). record { number = n; from = omega arith; key = ap interval_name q ∙ e })
    (λ l'. let r = run-names d l' in record { number = r.number; from = omega (arith, r.from); key = r.key })
    (Memᴰ.cases_cons l)

run-distinct : {t m n : ℕ} {is : List Interval} → Run t m n is → Distinct (map interval_name is)
run-distinct run_none = distinct_nil
run-distinct {t} {m} {n} (run_more {i = i} {is = is} e d) =
    distinct_cons (λ l. let j = Memᴰ.of_map interval_name is l in never j.0 j.2 (run-names d j.1)) (run-distinct d)
  where
    never : (j : Interval) → interval_name j ≡ interval_name i → Numbered t m (n + 1) j → ⊥
    never j q r = let z : n ≡ r.number = cc in omega (arith, r.from)

two-same : {a b c a' b' c' : ℕ} → a ∷ b ∷ c ∷ [] ≡ a' ∷ b' ∷ c' ∷ [] → a ∷ b ∷ [] ≡ a' ∷ b' ∷ []
two-same e = ap (take 2) e

-- chunks that are formed
record Sound : Type 0 where
  chunk : Chunk
  formed : Formed chunk

abbrev soundly : (cs : List Chunk) → ((c : Chunk) → Memᴰ c cs → Formed c) → List Sound
soundly [] h = []
soundly (c ∷ cs) h = record { chunk = c; formed = h c (Memᴰ.head refl) } ∷ soundly cs (λ d m. h d (Memᴰ.tail m))

sound-names : (cs : List Chunk) (h : (c : Chunk) → Memᴰ c cs → Formed c) → map (λ (x : Sound). member_key x.chunk) (soundly cs h) ≡ map member_key cs
sound-names [] h = refl
sound-names (c ∷ cs) h = ap (λ (l : List (List ℕ)). member_key c ∷ l) (sound-names cs (λ d m. h d (Memᴰ.tail m)))

sound-intervals : (cs : List Chunk) (h : (c : Chunk) → Memᴰ c cs → Formed c) → concat_map (λ (x : Sound). intervals_in x.chunk) (soundly cs h) ≡ concat_map intervals_in cs
sound-intervals [] h = refl
sound-intervals (c ∷ cs) h = ap (λ (l : List Interval). intervals_in c ++ l) (sound-intervals cs (λ d m. h d (Memᴰ.tail m)))

pub intervals-distinct : (cs : List Chunk) → ((c : Chunk) → Memᴰ c cs → Formed c) → Distinct (map member_key cs) → Distinct (map interval_name (concat_map intervals_in cs))
unfolding member_key
intervals-distinct cs h d =
    subst (λ (is : List Interval). Distinct (map interval_name is)) (sound-intervals cs h)
    (distinct-concat_map (λ (x : Sound). member_key x.chunk) (λ (x : Sound). intervals_in x.chunk) interval_name
    (λ x. run-distinct (chunk-runs x.chunk x.formed))
    tells
    (soundly cs h)
    (subst Distinct (sym (sound-names cs h)) d))
  where
    tells :
        (x y : Sound) (u v : Interval)
        → Memᴰ u (intervals_in x.chunk)
        → Memᴰ v (intervals_in y.chunk)
        → interval_name u ≡ interval_name v
        → member_key x.chunk ≡ member_key y.chunk
    tells x y u v m l e =
        let p = run-names (chunk-runs x.chunk x.formed) m in
        let q = run-names (chunk-runs y.chunk y.formed) l in
        two-same (sym p.key ∙ e ∙ q.key)

pub names-distinct : (s : List ℕ) → Accepted s → Distinct (map interval_name (listed s))
unfolding listed
names-distinct s a = intervals-distinct (chunks_of s) (legible s a).formed (distinct-members s a)
