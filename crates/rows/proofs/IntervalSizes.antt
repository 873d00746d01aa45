-- The intervals of a chunk tile its bytes after MEMBER, so that all sizes and 4 for each chunk add up to the bundle's length.
use Prim.Native.Nat.{ℕ, ◌+◌, ◌-◌, ◌*◌, ◌≤◌}
use mathlib.Core.Path.{◌≡◌, refl, sym, ◌∙◌, ap, subst}
use mathlib.Core.Logic.{⊎_elim}
use mathlib.Core.Bool.{true}
use mathlib.Core.List.Memᴰ
use mathlib.Core.List.{List, [], ◌∷◌, ◌++◌, map, Memᴰ}
use native.Mathlib.Omega.{arith}
use native.Mathlib.Nat.{add-zero, add_assoc}
use lib.ListN.{length, length-append}
use Rattle.bundle.specs.Lists.{concat_map}
use Rattle.bundle.specs.Commands.{Bytes, form_of, code_of, widths_of, operand_bytes, low_first, bytes_of}
use Rattle.bundle.specs.Chunks.{Placed, Chunk, fresh, after_command, chunks_of, commands_of}
use Rattle.bundle.specs.Walk.{opens_segment, adds_access, entries_from, entries_of, forks_of}
use Rattle.bundle.specs.Index.{total, log_of}
use Rattle.bundle.specs.Check.{Accepted}
use Rattle.bundle.specs.declared.chunk.ChunkState.{ChunkState}
use Rattle.bundle.specs.declared.command.Command.{Command}
use Rattle.bundle.specs.declared.command.Command.TheVariants as Com
use Rattle.bundle.specs.declared.index.Fork.{Fork}
use Rattle.bundle.proofs.Tests.{false-is-true}
use Rattle.bundle.proofs.ListLaws.{concat_map-append}
use Rattle.bundle.proofs.Delimiters.{plain, closes}
use Rattle.bundle.proofs.Scanning.{total-append, perm-total}
use Rattle.bundle.proofs.Gathering.{Body, ends, goes, Formed}
use Rattle.bundle.proofs.RoundTrip.{bytes-some}
use Rattle.bundle.proofs.Printing.{printed, placed_from}
use Rattle.bundle.proofs.Settling.{settled, settle}
use Rattle.bundle.proofs.Reorder.{known, made}
use Rattle.rewrite.proofs.KeySort.{sort-perm}
use Rattle.rows.specs.Rows.{Interval, past_of, ends_interval, intervals_from, intervals_in, interval_name, intervals_of, row_of, rows_of}
use Rattle.rows.specs.RowLaws.{Tiling, tiling_none, tiling_more}
use Rattle.rows.specs.declared.row.Row.{Row}
use Rattle.rows.proofs.IntervalCounts.{bare}

abbrev size_of : Interval → ℕ
size_of i = i.past - i.begin

-- the sizes of a tiling add up to its length
tiling-total : {from to : ℕ} {is : List Interval} → Tiling from to is → total size_of is + from ≡ to
unfolding total
tiling-total tiling_none = omega arith
tiling-total (tiling_more h t) = let r = tiling-total t in omega (arith, h, r)

module _ (t m : ℕ) where
  abbrev Tiles : List Placed → Type 0
  Tiles ps =
      (at b : ℕ) (k₀ k : ChunkState) (g n : ℕ)
      → b ≤ at
      → Tiling b (at + length (printed (bare ps))) (intervals_from t m b k₀ (entries_from k g n (placed_from at (bare ps))))

  -- an interval that ends with a command, and those behind it
  tile :
      (d : Command) (at b : ℕ) (k₀ : ChunkState) (cs : List Command) {is : List Interval}
      → b ≤ at
      → Tiling (at + length (bytes_of d)) ((at + length (bytes_of d)) + length (printed cs)) is
      → Tiling b (at + length (printed (d ∷ cs))) (record { team = t; member = m; state = k₀; begin = b; past = at + length (bytes_of d) } ∷ is)
  unfolding printed
  tile d at b k₀ cs {is} h r =
      let behind = length-append (bytes_of d) (printed cs) in
      let same : (at + length (bytes_of d)) + length (printed cs) ≡ at + length (bytes_of d ++ printed cs) = omega (arith, behind) in
      let rest : Tiling (at + length (bytes_of d)) (at + length (bytes_of d ++ printed cs)) is = subst (λ (to : ℕ). Tiling (at + length (bytes_of d)) to is) same r in
      let some = bytes-some d in
      tiling_more {i = record { team = t; member = m; state = k₀; begin = b; past = at + length (bytes_of d) }} (omega (arith, h, some)) rest

  tiles-closing : (p : Placed) → closes p.command ≡ true → Tiles (p ∷ [])
  unfolding intervals_from entries_from placed_from ends_interval past_of closes
  tiles-closing p e at b k₀ k g n h = go p.command e
    where
      Goal : Command → Type 0
      Goal d = Tiling b (at + length (printed (d ∷ []))) (intervals_from t m b k₀ (entries_from k g n (placed_from at (d ∷ []))))

      last : (d : Command) → Tiling b (at + length (printed (d ∷ []))) (record { team = t; member = m; state = k₀; begin = b; past = at + length (bytes_of d) } ∷ [])
      last d =
          tile d at b k₀ [] h
          (subst (λ (to : ℕ). Tiling (at + length (bytes_of d)) to []) (sym (ap (λ (n' : ℕ). (at + length (bytes_of d)) + n') none ∙ add-zero (at + length (bytes_of d)))) tiling_none)
        where
          none : length (printed []) ≡ 0
          none = unfold printed in refl

      go : (d : Command) → closes d ≡ true → Goal d
      go (Com.Member u v) q = false-is-true q
      go Com.End q = last Com.End
      go (Com.Region u z) q = false-is-true q
      go Com.Barrier q = false-is-true q
      go (Com.Acquire l) q = false-is-true q
      go (Com.Release l) q = false-is-true q
      go (Com.Access a) q = false-is-true q
      go Com.Cut q = last Com.Cut

  tiles-plain : (p : Placed) (ps : List Placed) → plain p.command ≡ true → Tiles ps → Tiles (p ∷ ps)
  unfolding intervals_from entries_from placed_from ends_interval past_of plain
  tiles-plain p ps e ih at b k₀ k g n h = go p.command e
    where
      Goal : Command → Type 0
      Goal d = Tiling b (at + length (printed (d ∷ bare ps))) (intervals_from t m b k₀ (entries_from k g n (placed_from at (d ∷ bare ps))))

      -- a command that ends no interval
      still : (d : Command) (g' n' : ℕ)
          → Tiling b (at + length (printed (d ∷ bare ps))) (intervals_from t m b k₀ (entries_from (after_command k d) g' n' (placed_from (at + length (bytes_of d)) (bare ps))))
      still d g' n' =
          subst (λ (to : ℕ). Tiling b to (intervals_from t m b k₀ (entries_from (after_command k d) g' n' (placed_from (at + length (bytes_of d)) (bare ps)))))
          (further d)
          (ih (at + length (bytes_of d)) b k₀ (after_command k d) g' n' (omega (arith, h)))
        where
          further : (d : Command) → (at + length (bytes_of d)) + length (printed (bare ps)) ≡ at + length (printed (d ∷ bare ps))
          further d = unfold printed in (sym (ap (λ (l : ℕ). at + l) (length-append (bytes_of d) (concat_map bytes_of (bare ps))) ∙ sym (add_assoc at (length (bytes_of d)) (length (concat_map bytes_of (bare ps))))))

      go : (d : Command) → plain d ≡ true → Goal d
      go (Com.Member u v) q = false-is-true q
      go Com.End q = false-is-true q
      go (Com.Region u z) q = still (Com.Region u z) _ _
      go Com.Barrier q =
          let next = at + length (bytes_of Com.Barrier) in
          let after = after_command k Com.Barrier in
          tile Com.Barrier at b k₀ (bare ps) h (ih next next after after (g + opens_segment Com.Barrier) (n + adds_access Com.Barrier) (omega arith))
      go (Com.Acquire l) q = still (Com.Acquire l) _ _
      go (Com.Release l) q = still (Com.Release l) _ _
      go (Com.Access a) q = still (Com.Access a) _ _
      go Com.Cut q = false-is-true q

  tiles-body : {ps : List Placed} → Body ps → Tiles ps
  tiles-body (ends {p = p} e) = tiles-closing p e
  tiles-body (goes {p = p} {ps = ps} e b) = tiles-plain p ps e (tiles-body b)

member-width : (t m : ℕ) → length (bytes_of (Com.Member t m)) ≡ 4
unfolding bytes_of code_of form_of widths_of operand_bytes low_first
member-width t m = refl

chunk-tiles : (at : ℕ) (c : Chunk) → Formed c → Tiling (at + 4) (at + length (printed (log_of c))) (intervals_in (settled at c))
unfolding intervals_in settled entries_of log_of commands_of
chunk-tiles at c f =
    let own = Com.Member c.team c.member in
    let begin = at + length (bytes_of own) in
    let l : length (printed (own ∷ bare c.body)) ≡ length (bytes_of own) + length (printed (bare c.body)) = unfold printed in (length-append (bytes_of own) (concat_map bytes_of (bare c.body))) in
    subst (λ (from : ℕ). Tiling from (at + length (printed (own ∷ bare c.body))) (intervals_in (settled at c))) (ap (λ (w : ℕ). at + w) (member-width c.team c.member))
    (subst (λ (to : ℕ). Tiling begin to (intervals_in (settled at c))) (omega (arith, l))
    (tiles-body c.team c.member f.body_ok begin begin fresh fresh 0 0 (omega arith)))

chunks-tile :
    (at : ℕ) (cs : List Chunk)
    → ((c : Chunk) → Memᴰ c cs → Formed c)
    → total size_of (concat_map intervals_in (settle at cs)) + 4 * length cs ≡ length (printed (concat_map log_of cs))
unfolding settle
chunks-tile at [] h = unfold total printed in refl
chunks-tile at (c ∷ cs) h =
    let long = length (printed (log_of c)) in
    let one = tiling-total (chunk-tiles at c (h c (Memᴰ.head refl))) in
    let more = chunks-tile (at + long) cs (λ d m. h d (Memᴰ.tail m)) in
    let left = total-append size_of (intervals_in (settled at c)) (concat_map intervals_in (settle (at + long) cs)) in
    let parts : printed (log_of c ++ concat_map log_of cs) ≡ printed (log_of c) ++ printed (concat_map log_of cs) = unfold printed in (concat_map-append bytes_of (log_of c) (concat_map log_of cs)) in
    let right = ap (λ (l : List ℕ). length l) parts ∙ length-append (printed (log_of c)) (printed (concat_map log_of cs)) in
    omega (arith, one, more, left, right)

-- each chunk of those that stand one after another
each-tiles :
    (at : ℕ) (cs : List Chunk)
    → ((c : Chunk) → Memᴰ c cs → Formed c)
    → (c : Chunk)
    → Memᴰ c (settle at cs)
    → Tiling (c.place + 4) c.past (intervals_in c)
unfolding settle
each-tiles at [] h c m = absurd (Memᴰ.not-nil m)
each-tiles at (d ∷ ds) h c m =
    ⊎_elim
    (λ (e : c ≡ settled at d). subst (λ (x : Chunk). Tiling (x.place + 4) x.past (intervals_in x)) (sym e) (unfold settled in (chunk-tiles at d (h d (Memᴰ.head refl)))))
    (λ l. each-tiles (at + length (printed (log_of d))) ds (λ x k. h x (Memᴰ.tail k)) c l)
    (Memᴰ.cases_cons m)

-- the chunks of an accepted bundle stand one after another from its start
settled-again : (b : List ℕ) → Bytes b → Accepted b → settle 0 (chunks_of b) ≡ chunks_of b
settled-again b bytes a =
    let k = known b bytes a in
    sym (made (chunks_of b) k.sound).chunks ∙ ap chunks_of (sym k.bytes)

pub chunks-tiled : (b : List ℕ) → Bytes b → Accepted b → (c : Chunk) → Memᴰ c (chunks_of b) → Tiling (c.place + 4) c.past (intervals_in c)
chunks-tiled b bytes a c m = each-tiles 0 (chunks_of b) (known b bytes a).sound.formed c (subst (Memᴰ c) (sym (settled-again b bytes a)) m)

rows-total : (fs : List Fork) (is : List Interval) → total (λ (r : Row). r.size) (map (row_of fs) is) ≡ total size_of is
unfolding total row_of
rows-total fs [] = refl
rows-total fs (i ∷ is) = ap (λ (n : ℕ). size_of i + n) (rows-total fs is)

pub sizes-add-up : (b : List ℕ) → Bytes b → Accepted b → total (λ (r : Row). r.size) (rows_of b) + 4 * length (chunks_of b) ≡ length b
unfolding rows_of intervals_of
sizes-add-up b bytes a =
    let cs = chunks_of b in
    let k = known b bytes a in
    let all = rw (settled-again b bytes a) at (chunks-tile 0 cs k.sound.formed) in
    let long : length b ≡ length (printed (concat_map log_of cs)) = ap (λ (l : List ℕ). length l) k.bytes in
    let sorted = rows-total (forks_of cs) (intervals_of b) ∙ sym (perm-total size_of (sort-perm interval_name (concat_map intervals_in cs))) in
    omega (arith, all, long, sorted)
