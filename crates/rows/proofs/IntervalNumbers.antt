-- Each chunk has one interval more than it passes barriers, by their numbers from 0.
use Prim.Native.Nat.{ℕ, ◌+◌}
use mathlib.Core.Path.{◌≡◌, refl, sym, ◌∙◌, ap, subst}
use mathlib.Core.Bool.{true}
use mathlib.Core.List.Memᴰ
use mathlib.Core.List.Permᴰ
use mathlib.Core.List.{List, [], ◌∷◌, map, Memᴰ}
use native.Mathlib.Omega.{arith}
use native.Mathlib.Numerals.{add-one}
use lib.ListN.{length}
use Rattle.bundle.specs.Lists.{concat_map}
use Rattle.bundle.specs.Commands.{bytes_of}
use Rattle.bundle.specs.Chunks.{Placed, Chunk, fresh, after_barrier, after_join, after_acquire, after_release, after_command, after_commands, chunks_of, commands_of}
use Rattle.bundle.specs.Walk.{opens_segment, adds_access, entries_from, entries_of, barriers_of}
use Rattle.bundle.specs.Index.{table_from}
use Rattle.bundle.specs.Check.{Accepted}
use Rattle.bundle.specs.declared.chunk.ChunkState.{ChunkState}
use Rattle.bundle.specs.declared.command.Command.{Command}
use Rattle.bundle.specs.declared.command.Command.TheVariants as Com
use Rattle.bundle.proofs.Tests.{false-is-true}
use Rattle.bundle.proofs.ListLaws.{perm-mem, concat_map-elim, concat_map-intro}
use Rattle.bundle.proofs.Delimiters.{plain, closes}
use Rattle.bundle.proofs.Gathering.{Body, ends, goes, Formed}
use Rattle.bundle.proofs.Onward.{legible}
use Rattle.rewrite.proofs.KeySort.{sort-perm}
use Rattle.rewrite.proofs.WordOrder.{from-elim, from-intro}
use Rattle.rows.specs.Rows.{Interval, past_of, ends_interval, intervals_from, intervals_in, interval_name, intervals_of}
use Rattle.rows.specs.RowLaws.{OfChunk}
use Rattle.rows.proofs.IntervalCounts.{bare}
use Rattle.rows.proofs.IntervalNames.{Run, run_none, run_more, chunk-runs}

module _ (t m : ℕ) where
  abbrev Counted : List Placed → Type 0
  Counted ps =
      (b : ℕ) (k₀ k : ChunkState) (g n : ℕ)
      → length (intervals_from t m b k₀ (entries_from k g n ps)) + k.barriers ≡ (after_commands k (bare ps)).barriers + 1

  counted-closing : (p : Placed) → closes p.command ≡ true → Counted (p ∷ [])
  unfolding intervals_from entries_from ends_interval after_commands after_command closes
  counted-closing p e b k₀ k g n = go p.command e
    where
      Goal : Command → Type 0
      Goal d = length (intervals_from t m b k₀ (entries_from k g n (record { at = p.at; command = d } ∷ []))) + k.barriers ≡ (after_commands k (d ∷ [])).barriers + 1

      go : (d : Command) → closes d ≡ true → Goal d
      go (Com.Member u v) q = false-is-true q
      go Com.End q = omega arith
      go (Com.Region u z) q = false-is-true q
      go Com.Barrier q = false-is-true q
      go (Com.Acquire l) q = false-is-true q
      go (Com.Release l) q = false-is-true q
      go (Com.Access a) q = false-is-true q
      go Com.Cut q = omega arith

  counted-plain : (p : Placed) (ps : List Placed) → plain p.command ≡ true → Counted ps → Counted (p ∷ ps)
  unfolding intervals_from entries_from ends_interval past_of plain after_commands after_command after_barrier after_join after_acquire after_release
  counted-plain p ps e ih b k₀ k g n = go p.command e
    where
      Goal : Command → Type 0
      Goal d = length (intervals_from t m b k₀ (entries_from k g n (record { at = p.at; command = d } ∷ ps))) + k.barriers ≡ (after_commands k (d ∷ bare ps)).barriers + 1

      go : (d : Command) → plain d ≡ true → Goal d
      go (Com.Member u v) q = false-is-true q
      go Com.End q = false-is-true q
      go (Com.Region u z) q = ih b k₀ (after_join k) _ _
      go Com.Barrier q =
          let r = ih (p.at + length (bytes_of Com.Barrier)) (after_barrier k) (after_barrier k) (g + opens_segment Com.Barrier) (n + adds_access Com.Barrier) in
          omega (arith, r)
      go (Com.Acquire l) q = ih b k₀ (after_acquire l k) _ _
      go (Com.Release l) q = ih b k₀ (after_release l k) _ _
      go (Com.Access a) q = ih b k₀ k _ _
      go Com.Cut q = false-is-true q

  counted-body : {ps : List Placed} → Body ps → Counted ps
  counted-body (ends {p = p} e) = counted-closing p e
  counted-body (goes {p = p} {ps = ps} e b) = counted-plain p ps e (counted-body b)

chunk-counted : (c : Chunk) → Formed c → length (intervals_in c) ≡ barriers_of c + 1
unfolding intervals_in entries_of barriers_of commands_of fresh
chunk-counted c f =
    let r = counted-body c.team c.member f.body_ok (c.place + length (bytes_of (Com.Member c.team c.member))) fresh fresh 0 0 in
    omega (arith, r)

-- the names of a run, one after another
abbrev name_of : ℕ → ℕ → ℕ → List ℕ
name_of t m n = t ∷ m ∷ n ∷ []

run-table : {t m n : ℕ} {is : List Interval} → Run t m n is → map interval_name is ≡ table_from (name_of t m) n (length is)
unfolding table_from
run-table run_none = refl
run-table {t} {m} {n} (run_more {i = i} {is = is} e r) =
    rw (e, run-table r) (ap (λ (j : ℕ). name_of t m n ∷ table_from (name_of t m) j (length is)) (add-one n))

chunk-names : (c : Chunk) → Formed c → map interval_name (intervals_in c) ≡ table_from (name_of c.team c.member) 0 (barriers_of c + 1)
chunk-names c f = run-table (chunk-runs c f) ∙ ap (table_from (name_of c.team c.member) 0) (chunk-counted c f)

module _ (b : List ℕ) (a : Accepted b) (name : List ℕ) where
  pub name-of-chunk : Memᴰ name (map interval_name (intervals_of b)) → OfChunk b name
  unfolding intervals_of
  name-of-chunk m =
      let i = Memᴰ.of_map interval_name (intervals_of b) m in
      let from = concat_map-elim intervals_in (chunks_of b) (perm-mem (Permᴰ.symm (sort-perm interval_name (concat_map intervals_in (chunks_of b)))) i.1) in
      let c = from.source in
      let own = subst (Memᴰ name) (chunk-names c ((legible b a).formed c from.present)) (Memᴰ.cast (sym i.2) (Memᴰ.map interval_name from.gives)) in
      let j = from-elim (name_of c.team c.member) 0 (barriers_of c + 1) own in
      record { chunk = c; present = from.present; number = j.0; passed = omega (arith, j.2); is = j.3 }

  pub name-in-bundle : OfChunk b name → Memᴰ name (map interval_name (intervals_of b))
  unfolding intervals_of
  name-in-bundle o =
      let c = o.chunk in
      let f = name_of c.team c.member in
      let own = subst (Memᴰ (f o.number)) (sym (chunk-names c ((legible b a).formed c o.present))) (from-intro f 0 (barriers_of c + 1) o.number (omega arith) (omega (arith, o.passed))) in
      let i = Memᴰ.of_map interval_name (intervals_in c) own in
      Memᴰ.cast (o.is ∙ sym i.2)
      (Memᴰ.map interval_name (perm-mem (sort-perm interval_name (concat_map intervals_in (chunks_of b))) (concat_map-intro intervals_in o.present i.1)))
