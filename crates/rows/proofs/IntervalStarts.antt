-- Each interval starts where MEMBER or a BARRIER opens a segment, in that segment's state.
use Prim.Native.Nat.{ℕ, ◌+◌}
use mathlib.Core.Path.{◌≡◌, refl, sym, ◌∙◌, ap, subst}
use mathlib.Core.Logic.{⊎_elim}
use mathlib.Core.Bool.{true}
use mathlib.Core.List.Memᴰ
use mathlib.Core.List.{List, [], ◌∷◌, Memᴰ}
use native.Mathlib.Omega.{arith}
use lib.ListN.{length, get_or}
use Rattle.bundle.specs.Lists.{concat_map}
use Rattle.bundle.specs.Commands.{bytes_of}
use Rattle.bundle.specs.Chunks.{Placed, Chunk, fresh, after_barrier, after_join, after_acquire, after_release, after_command}
use Rattle.bundle.specs.Walk.{of_chunk, of_barrier, borders, entries_from, entries_of, Segment, Opening, opening_at, segments_from, segments_in}
use Rattle.bundle.specs.declared.chunk.ChunkState.{ChunkState}
use Rattle.bundle.specs.declared.command.Command.{Command}
use Rattle.bundle.specs.declared.command.Command.TheVariants as Com
use Rattle.bundle.proofs.Tests.{false-is-true}
use Rattle.bundle.proofs.Delimiters.{plain, closes}
use Rattle.bundle.proofs.Gathering.{Body, ends, goes, Formed}
use Rattle.rows.specs.Rows.{Interval, past_of, ends_interval, intervals_from, intervals_in, interval_name}
use Rattle.rows.specs.RowLaws.{StartsAs}
use Rattle.rows.proofs.IntervalNames.{chunk-runs, run-names}

-- every opening opens a segment
record Opens (o : Opening) (ss : List Segment) : Type 0 where
  segment : Segment
  present : Memᴰ segment ss
  opened : segment.opened ≡ o.border
  state : segment.state ≡ o.state

opens_one : (t m n : ℕ) (o : Opening) (os : List Opening) (p : Opening) → Memᴰ p (o ∷ os) → Opens p (segments_from t m n o os)
unfolding segments_from
opens_one t m n o [] p l =
    ⊎_elim
    (λ (e : p ≡ o). rw e record { segment = _; present = Memᴰ.head refl; opened = refl; state = refl })
    (λ k. absurd (Memᴰ.not-nil k))
    (Memᴰ.cases_cons l)
opens_one t m n o (q ∷ os) p l =
    ⊎_elim
    (λ (e : p ≡ o). rw e record { segment = _; present = Memᴰ.head refl; opened = refl; state = refl })
    (λ k.
    let r = opens_one t m (n + 1) q os p k in
    record { segment = r.segment; present = Memᴰ.tail r.present; opened = r.opened; state = r.state })
    (Memᴰ.cases_cons l)

-- a state in which MEMBER or a BARRIER opens a segment
record Start (os : List Opening) (k : ChunkState) : Type 0 where
  opening : Opening
  present : Memᴰ opening os
  state : opening.state ≡ k
  first : k.barriers ≡ 0 → opening.border ≡ of_chunk
  later : (n : ℕ) → k.barriers ≡ n + 1 → opening.border ≡ of_barrier n

module _ (t m : ℕ) (all : List Opening) where
  abbrev Starts : List Placed → Type 0
  Starts ps =
      (b : ℕ) (k₀ k : ChunkState) (g n : ℕ)
      → Start all k₀
      → ((o : Opening) → Memᴰ o (concat_map opening_at (entries_from k g n ps)) → Memᴰ o all)
      → (i : Interval)
      → Memᴰ i (intervals_from t m b k₀ (entries_from k g n ps))
      → Start all i.state

  starts-closing : (p : Placed) → closes p.command ≡ true → Starts (p ∷ [])
  unfolding intervals_from entries_from ends_interval closes
  starts-closing p e b k₀ k g n s within i = go p.command e
    where
      Goal : Command → Type 0
      Goal d = Memᴰ i (intervals_from t m b k₀ (entries_from k g n (record { at = p.at; command = d } ∷ []))) → Start all i.state

      last : (j : Interval) → j.state ≡ k₀ → Memᴰ i (j ∷ []) → Start all i.state
      last j r l =
          ⊎_elim
          (λ (q : i ≡ j). subst (Start all) (sym (ap (λ (x : Interval). x.state) q ∙ r)) s)
          (λ h. absurd (Memᴰ.not-nil h))
          (Memᴰ.cases_cons l)

      go : (d : Command) → closes d ≡ true → Goal d
      go (Com.Member u v) q = false-is-true q
      go Com.End q = last _ refl
      go (Com.Region u z) q = false-is-true q
      go Com.Barrier q = false-is-true q
      go (Com.Acquire l) q = false-is-true q
      go (Com.Release l) q = false-is-true q
      go (Com.Access a) q = false-is-true q
      go Com.Cut q = last _ refl

  starts-plain : (p : Placed) (ps : List Placed) → plain p.command ≡ true → Starts ps → Starts (p ∷ ps)
  unfolding intervals_from entries_from ends_interval past_of plain opening_at borders after_command after_barrier after_join after_acquire after_release
  starts-plain p ps e ih b k₀ k g n s within i = go p.command e within
    where
      at : Command → Placed
      at d = record { at = p.at; command = d }

      Goal : Command → Type 0
      Goal d =
          ((o : Opening) → Memᴰ o (concat_map opening_at (entries_from k g n (at d ∷ ps))) → Memᴰ o all)
          → Memᴰ i (intervals_from t m b k₀ (entries_from k g n (at d ∷ ps)))
          → Start all i.state

      go : (d : Command) → plain d ≡ true → Goal d
      go (Com.Member u v) q = false-is-true q
      go Com.End q = false-is-true q
      go (Com.Region u z) q = λ w. ih b k₀ (after_join k) _ _ s (λ o l. w o (Memᴰ.tail l)) i
      go Com.Barrier q =
          λ w l.
          ⊎_elim
          (λ (r : i ≡ record { team = t; member = m; state = k₀; begin = b; past = p.at + length (bytes_of Com.Barrier) }).
          subst (Start all) (sym (ap (λ (x : Interval). x.state) r)) s)
          (ih (p.at + length (bytes_of Com.Barrier)) (after_barrier k) (after_barrier k) _ _
          (record {
            opening = record { border = of_barrier k.barriers; state = after_barrier k };
            present = w (record { border = of_barrier k.barriers; state = after_barrier k }) (Memᴰ.head refl);
            state = refl;
            first = λ z. absurd (omega (arith, z));
            later = λ j z. ap of_barrier (omega (arith, z));
          })
          (λ o h. w o (Memᴰ.tail h)) i)
          (Memᴰ.cases_cons l)
      go (Com.Acquire l) q = λ w. ih b k₀ (after_acquire l k) _ _ s w i
      go (Com.Release l) q = λ w. ih b k₀ (after_release l k) _ _ s w i
      go (Com.Access a) q = λ w. ih b k₀ k _ _ s w i
      go Com.Cut q = false-is-true q

  starts-body : {ps : List Placed} → Body ps → Starts ps
  starts-body (ends {p = p} e) = starts-closing p e
  starts-body (goes {p = p} {ps = ps} e b) = starts-plain p ps e (starts-body b)

pub starts-segment : (c : Chunk) → Formed c → (i : Interval) → Memᴰ i (intervals_in c) → StartsAs c i
unfolding intervals_in segments_in entries_of fresh
starts-segment c f i l =
    let first : Opening = record { border = of_chunk; state = fresh } in
    let os = concat_map opening_at (entries_of c) in
    let s =
    starts-body c.team c.member (first ∷ os) f.body_ok (c.place + length (bytes_of (Com.Member c.team c.member))) fresh fresh 0 0
    (record { opening = first; present = Memᴰ.head refl; state = refl; first = λ z. refl; later = λ n z. absurd (omega (arith, z)) })
    (λ o h. Memᴰ.tail h) i l
    in
    let r = opens_one c.team c.member 0 first os s.opening s.present in
    let name = (run-names (chunk-runs c f) (unfold intervals_in entries_of fresh in l)).key in
    record {
      team = unfold interval_name in (ap (λ (ns : List ℕ). get_or ns 0 0) name);
      member = unfold interval_name in (ap (λ (ns : List ℕ). get_or ns 1 0) name);
      segment = r.segment;
      present = r.present;
      state = r.state ∙ s.state;
      first = λ z. r.opened ∙ s.first z;
      later = λ n z. r.opened ∙ s.later n z;
    }
