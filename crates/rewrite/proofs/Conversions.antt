-- Converting an accepted bundle: the result is accepted, judged the same, and converted back is the bundle.
use Prim.Native.Nat.{ℕ, ◌≤◌, ◌<◌}
use mathlib.Core.Path.{◌≡◌, refl, sym, ◌∙◌, ap, subst}
use mathlib.Core.Logic.{◌⊎◌, inl, inr}
use mathlib.Core.Bool.{Bool, true, false, cond, not}
use mathlib.Core.List.Memᴰ
use mathlib.Core.List.Permᴰ
use mathlib.Core.List.{List, ◌++◌, map, Memᴰ, Permᴰ}
use mathlib.Core.Option.{Option, none, some}
use native.Mathlib.Omega.{arith}
use native.Mathlib.Nat.{zero-add}
use lib.ListN.{length, drop}
use lib.Dec.{ltb}
use borrow.Author.Tests.{ltb-false, lt-ltb, le-ltb}
use Rattle.bundle.specs.Answer.{gives, refuses}
use Rattle.bundle.specs.Lists.{first, concat_map, from_option}
use Rattle.bundle.specs.Commands.{Bytes, bytes_of, in_range, written}
use Rattle.bundle.specs.Chunks.{Placed, Front, front_of, chunks_of}
use Rattle.bundle.specs.Scan.{start}
use Rattle.bundle.specs.Check.{Accepted}
use Rattle.bundle.specs.declared.command.Access.{Access}
use Rattle.bundle.specs.declared.command.Command.{Command}
use Rattle.bundle.specs.declared.command.Command.TheVariants as Com
use Rattle.bundle.proofs.Tests.{is_false, not-both}
use Rattle.bundle.proofs.ListLaws.{first_some, first-none}
use Rattle.bundle.proofs.Places.{unplaced}
use Rattle.bundle.proofs.Gathering.{log_of}
use Rattle.bundle.proofs.ScanChunks.{commands-of-chunks}
use Rattle.bundle.proofs.Printing.{printed, placed_from, commands-placed, front-of-printed}
use Rattle.bundle.proofs.Settling.{unplaced-settle}
use Rattle.bundle.proofs.Reorder.{Sound, known, Made, made, orderly-range, distinct-members}
use Rattle.bundle.proofs.Onward.{legible}
use Rattle.verdict.specs.Judge.{judgement_of}
use Rattle.verdict.specs.Demand.{Judged}
use Rattle.verdict.proofs.SameRaces.{same-judgement}
use Rattle.verdict.proofs.Demand3.{judges, exactly}
use Rattle.rewrite.specs.Rewriting.{filling_of}
use Rattle.rewrite.specs.Converting.{regrouped, commands_in, converted, site_over, first_over, to_wide, to_narrow, to_group, handed_to, convert_of}
use Rattle.rewrite.specs.Conversion.{OfGroup, ConvertedTo, Conversion}
use Rattle.rewrite.proofs.Regrouping.{regrouped-site, all_own, all-twice, all-of-group, regrouped-range, narrow-not-over, narrower}
use Rattle.rewrite.proofs.RegroupedChunks.{regrouped_chunk, logs-regrouped, sound-regrouped}
use Rattle.rewrite.proofs.RegroupedRaces.{judgement-regrouped}

-- what a conversion asks besides check: the length of the result, or every site at most 65,535
abbrev pub Feasible : Bool → List ℕ → Type 0
Feasible true s = length (converted true s) ≤ 65536
Feasible false s = (c : Command) → Memᴰ c (commands_in s) → site_over c ≡ false

-- a conversion that succeeds is feasible, and one that is feasible succeeds
wide-gives : (n : ℕ) (x c : List ℕ) → cond (ltb 65536 n) (refuses 1 0) (gives x) ≡ gives c → (c ≡ x) × (n ≤ 65536)
wide-gives n x c e = go (ltb 65536 n) refl e
  where
    go : (t : Bool) → ltb 65536 n ≡ t → cond t (refuses 1 0) (gives x) ≡ gives c → (c ≡ x) × (n ≤ 65536)
    go true l q = let z : ◌≡◌ {A = ℕ} 0 1 = cc in absurd (omega arith)
    go false l q = let s : x ≡ c = cc in (sym s, ltb-false 65536 n l)

narrow_gives : (o : Option Placed) (x c : List ℕ) → from_option (gives x) (λ (p : Placed). refuses 21 p.at) o ≡ gives c → (c ≡ x) × (o ≡ none)
narrow_gives none x c e = let s : x ≡ c = cc in (sym s, refl)
narrow_gives (some p) x c e = let z : ◌≡◌ {A = ℕ} 0 1 = cc in absurd (omega arith)

pub none_over : (ps : List Placed) → first_over ps ≡ none → (c : Command) → Memᴰ c (map (λ (p : Placed). p.command) ps) → site_over c ≡ false
unfolding first_over
none_over ps e c m =
    let x = Memᴰ.of_map (λ (p : Placed). p.command) ps m in
    rw (← x.2) (is_false (site_over x.0.command) (λ h. first-none (λ (p : Placed). site_over p.command) e x.1 h))

pub over_none : (ps : List Placed) → ((c : Command) → Memᴰ c (map (λ (p : Placed). p.command) ps) → site_over c ≡ false) → first_over ps ≡ none
unfolding first_over
over_none ps h = go (first (λ (p : Placed). site_over p.command) ps) refl
  where
    go : (o : Option Placed) → first (λ (p : Placed). site_over p.command) ps ≡ o → o ≡ none
    go none e = refl
    go (some p) e =
        let x = first_some (λ (q : Placed). site_over q.command) ps e in
        not-both x.1 (h p.command (Memᴰ.map (λ (q : Placed). q.command) x.0))

module _ (b : List ℕ) (ok : Accepted b) where
  pub group-elim : (w : Bool) (c : List ℕ) → to_group w b ≡ gives c → (c ≡ converted w b) × Feasible w b
  unfolding to_wide to_narrow
  group-elim true c e = wide-gives (length (converted true b)) (converted true b) c (rw ok at e)
  group-elim false c e =
      let r = narrow_gives (first_over (front_of b).placed) (converted false b) c (rw ok at e) in
      (r.0, unfold commands_in in (none_over (front_of b).placed r.1))

  group-intro : (w : Bool) → Feasible w b → to_group w b ≡ gives (converted w b)
  unfolding to_wide to_narrow
  group-intro true l = rw (ok, le-ltb 65536 (length (converted true b)) l)
  group-intro false h = rw (ok, over_none (front_of b).placed (unfold commands_in in h))

module _ (b : List ℕ) (bytes : Bytes b) (ok : Accepted b) where
  logs : commands_in b ≡ concat_map log_of (chunks_of b)
  unfolding commands_in
  logs = ap (map (λ (p : Placed). p.command)) (legible b ok).parts ∙ commands-of-chunks (chunks_of b)

  itself : b ≡ printed (commands_in b)
  itself = (known b bytes ok).bytes ∙ ap printed (sym logs)

  its-bytes : concat_map bytes_of (commands_in b) ≡ b
  its-bytes = unfold printed in (sym itself)

  in-range : (c : Command) → Memᴰ c (commands_in b) → in_range c ≡ true
  in-range c m = orderly-range start (concat_map log_of (chunks_of b)) (known b bytes ok).sound.order c (subst (Memᴰ c) logs m)

  converted-own : (w : Bool) → OfGroup w b → converted w b ≡ b
  unfolding converted
  converted-own w own = ap (concat_map bytes_of) (all_own w (commands_in b) own) ∙ its-bytes

  short : length b ≤ 65536
  short = (legible b ok).short

  narrow-length : length (converted false b) ≤ length b
  unfolding converted
  narrow-length =
      subst (λ (s : List ℕ). length (concat_map bytes_of (map (regrouped false) (commands_in b))) ≤ length s) its-bytes (narrower (commands_in b))

  feasible-own : (w : Bool) → OfGroup w b → Feasible w b
  feasible-own true own = rw (converted-own true own) short
  feasible-own false own = λ c m. narrow-not-over c (in-range c m) (λ a e. own a (subst (λ (d : Command). Memᴰ d (commands_in b)) (sym e) m))

  pub copied : (w : Bool) → OfGroup w b → to_group w b ≡ gives b
  copied w own = group-intro b ok w (feasible-own w own) ∙ ap gives (converted-own w own)

  pub one_group : OfGroup true b ⊎ OfGroup false b
  one_group = go (known b bytes ok).sound.room.one_group.group refl
    where
      own : (a : Access) → Memᴰ (Com.Access a) (commands_in b) → a.wide ≡ (known b bytes ok).sound.room.one_group.group
      own a m = (known b bytes ok).sound.room.one_group.each a (subst (Memᴰ (Com.Access a)) logs m)

      go : (v : Bool) → (known b bytes ok).sound.room.one_group.group ≡ v → OfGroup true b ⊎ OfGroup false b
      go true e = inl (λ a m. own a m ∙ e)
      go false e = inr (λ a m. own a m ∙ e)

  -- a feasible conversion
  module _ (w : Bool) (f : Feasible w b) where
    pub ranged : (c : Command) → Memᴰ c (commands_in b) → in_range (regrouped w c) ≡ true
    ranged c m = regrouped-range w c (in-range c m) (sites w f)
      where
        sites : (v : Bool) → Feasible v b → v ≡ false → site_over c ≡ false
        sites true g e = not-both refl e
        sites false g e = g c m

    fits : length (converted w b) ≤ 65536
    fits = go w f
      where
        go : (v : Bool) → Feasible v b → length (converted v b) ≤ 65536
        go true g = g
        go false g = omega (arith, narrow-length, short)

    same-logs : map (regrouped w) (commands_in b) ≡ concat_map log_of (map (regrouped_chunk w) (chunks_of b))
    same-logs = ap (map (regrouped w)) logs ∙ sym (logs-regrouped w (chunks_of b))

    sound : Sound (map (regrouped_chunk w) (chunks_of b))
    sound =
        sound-regrouped w (chunks_of b) (known b bytes ok).sound
        (λ c m. ranged c (subst (Memᴰ c) (sym logs) m))
        (subst (λ (l : List Command). length (printed (map (regrouped w) l)) ≤ 65536) logs (unfold printed converted in fits))

    result : Made (map (regrouped_chunk w) (chunks_of b))
    result = made (map (regrouped_chunk w) (chunks_of b)) sound

    printed-result : converted w b ≡ printed (concat_map log_of (map (regrouped_chunk w) (chunks_of b)))
    printed-result = unfold converted printed in (ap (concat_map bytes_of) same-logs)

    pub accepted_too : Accepted (converted w b)
    accepted_too = subst Accepted (sym printed-result) result.accepted

    -- the commands of the result
    pub commands-result : commands_in (converted w b) ≡ map (regrouped w) (commands_in b)
    unfolding commands_in converted
    commands-result = ap (map (λ (p : Placed). p.command)) front ∙ commands-placed 0 (map (regrouped w) (commands_in b))
      where
        all : (c : Command) → Memᴰ c (map (regrouped w) (commands_in b)) → in_range c ≡ true
        all c m = let x = Memᴰ.of_map (regrouped w) (commands_in b) m in rw (← x.2) (ranged x.0 x.1)

        front : (front_of (concat_map bytes_of (map (regrouped w) (commands_in b)))).placed ≡ placed_from 0 (map (regrouped w) (commands_in b))
        front = unfold printed in (ap (λ (r : Front). r.placed) (front-of-printed (map (regrouped w) (commands_in b)) all))

    pub of_group : OfGroup w (converted w b)
    of_group a m = all-of-group w (commands_in b) a (subst (Memᴰ (Com.Access a)) commands-result m)

    -- converted further, the result gives what the bundle gives
    pub converted-twice : (v : Bool) → converted v (converted w b) ≡ converted v b
    converted-twice v = unfold converted in (ap (concat_map bytes_of) (ap (map (regrouped v)) (unfold converted in commands-result) ∙ all-twice v w (commands_in b)))

    feasible-too : (v : Bool) → Feasible v b → Feasible v (converted w b)
    feasible-too true l = rw (converted-twice true) l
    feasible-too false h =
        λ c m.
        let x = Memᴰ.of_map (regrouped w) (commands_in b) (subst (Memᴰ c) commands-result m) in
        rw (← x.2) (regrouped-site w x.0 ∙ h x.0 x.1)

    pub restored : OfGroup (not w) b → to_group (not w) (converted w b) ≡ gives b
    restored own =
        group-intro (converted w b) accepted_too (not w) (feasible-too (not w) (feasible-own (not w) own))
        ∙ ap gives (converted-twice (not w) ∙ converted-own (not w) own)

    same_answer : judgement_of (chunks_of (converted w b)) ≡ judgement_of (chunks_of b)
    same_answer =
        sym
        (same-judgement (map (regrouped_chunk w) (chunks_of b)) (chunks_of (converted w b)) same_chunks sound.shaped (legible (converted w b) accepted_too).shaped)
        ∙ judgement-regrouped w (chunks_of b)
      where
        same_chunks : Permᴰ (map unplaced (map (regrouped_chunk w) (chunks_of b))) (map unplaced (chunks_of (converted w b)))
        same_chunks = rw (printed-result, result.chunks, unplaced-settle 0 (map (regrouped_chunk w) (chunks_of b))) (Permᴰ.refl (map unplaced (map (regrouped_chunk w) (chunks_of b))))

    pub judged_same : (u v : List ℕ) → 16384 ≤ length u → 16384 ≤ length v → Judged b (converted w b) u v
    judged_same u v large large' =
        record {
          accepted_too = accepted_too;
          judgement = judgement_of (chunks_of b);
          answer = judges b u ok large;
          same_answer = judges (converted w b) v accepted_too large' ∙ ap gives same_answer;
          exact = exactly b (distinct-members b ok);
        }

-- what the operation does with a result
module _ (w : Bool) (b c buffer : List ℕ) (e : to_group w b ≡ gives c) where
  fills : length c ≤ length buffer → convert_of w b buffer ≡ record { answer = gives (length c); buffer = c ++ drop (length c) buffer }
  unfolding convert_of handed_to filling_of written
  fills h = rw (e, le-ltb (length buffer) (length c) h, zero-add (length c))

  too_short : length buffer < length c → convert_of w b buffer ≡ record { answer = refuses 17 0; buffer = buffer }
  unfolding convert_of handed_to filling_of
  too_short h = rw (e, lt-ltb (length buffer) (length c) h)

pub conversion : Conversion
conversion b bytes ok =
    record {
      one_group = one_group b bytes ok;
      copied = copied b bytes ok;
      converts = λ w c e. let r = group-elim b ok w c e in subst (ConvertedTo w b) (sym r.0) (all w r.1 (subst (λ (d : List ℕ). to_group w b ≡ gives d) r.0 e));
    }
  where
    all : (w : Bool) → Feasible w b → to_group w b ≡ gives (converted w b) → ConvertedTo w b (converted w b)
    all w f e =
        record {
          accepted_too = accepted_too b bytes ok w f;
          same_commands = commands-result b bytes ok w f;
          of_group = of_group b bytes ok w f;
          judged_same = judged_same b bytes ok w f;
          restored = restored b bytes ok w f;
          fills = λ buffer. fills w b (converted w b) buffer e;
          short = λ buffer. too_short w b (converted w b) buffer e;
        }
