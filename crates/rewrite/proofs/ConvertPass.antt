-- The passes over an accepted bundle that measure and write its conversion.
use Prim.Native.Nat.{ℕ, ◌+◌, ◌-◌, ◌*◌, ◌≤◌, ◌<◌}
use mathlib.Core.Path.{◌≡◌, refl, sym, ◌∙◌, ap, subst}
use mathlib.Core.Bool.{Bool, true, false, cond}
use mathlib.Core.List.{List, [], ◌∷◌, ◌++◌, map, append_assoc, append-nil, Memᴰ}
use mathlib.Core.Option.{Option, none, some}
use native.Mathlib.Omega.{arith}
use native.Mathlib.Nat.{zero-add, add_assoc}
use lib.ListN.{length, length-append}
use borrow.Author.Tests.{lt-ltb, le-ltb, le-leb}
use Rattle.bundle.specs.Answer.{Answer, gives, refuses, when_given}
use Rattle.bundle.specs.Lists.{first, concat_map, from_option}
use Rattle.bundle.specs.Commands.{Bytes, Lent, bytes_of, in_range, read_at, written, put_at}
use Rattle.bundle.specs.Chunks.{Placed, front_of}
use Rattle.bundle.specs.Check.{check_of, Accepted}
use Rattle.bundle.specs.declared.command.Command.{Command}
use Rattle.std.specs.declared.option.Option as Code
use Rattle.std.specs.declared.option.Option.TheVariants.{Some, None}
use Rattle.std.specs.declared.result.Result.{Result}
use Rattle.std.specs.declared.result.Result.TheVariants.{Ok, Err}
use Rattle.std.specs.Bool.{then_some}
use Rattle.std.specs.Option.{option_or}
use Rattle.bundle.specs.Answer.{answer_of}
use Rattle.bundle.specs.declared.refusal.Refusal.{Refusal}
use Rattle.bundle.proofs.Decoding.{read_next}
use Rattle.bundle.proofs.Fitting.{written-length}
use Rattle.bundle.proofs.Onward.{Onward, Next, onward-next, legible}
use Rattle.rewrite.specs.Rewriting.{filling_of}
use Rattle.rewrite.specs.Converting.{regrouped, commands_in, converted, site_over, first_over, to_wide, to_narrow, to_group, handed_to, convert_of}
use Rattle.rewrite.specs.Measuring.{measured_after, measured_from, unmeasured, measured_of, size_to, Puttable, Convertible}
use Rattle.rewrite.specs.declared.convert.Measured.{Measured}
use Rattle.rewrite.proofs.ReadOn.{onward-stops}
use Rattle.rewrite.proofs.Pieces.{written-front, written_on}
use Rattle.rewrite.proofs.Regrouping.{bytes_most}
use Rattle.rewrite.proofs.Conversions.{group-elim, ranged}

abbrev bare : List Placed → List Command
bare ps = map (λ (p : Placed). p.command) ps

-- the pass that measures is at a position: with the rest of the commands it comes to the whole
pub record MeasuredTo (w : Bool) (s : List ℕ) (at : ℕ) (m : Measured) : Type 0 where
  pub rest : List Placed
  pub onwards : Onward s at rest
  pub whole : measured_from w m rest ≡ measured_of w s
  pub few : m.size ≤ 14 * at
  pub short : length s ≤ 65536

pub measured-start : (w : Bool) (s : List ℕ) → Accepted s → MeasuredTo w s 0 (record { size = 0; over = None })
measured-start w s ok =
    let l = legible s ok in
    record {
      rest = (front_of s).placed;
      onwards = l.onwards;
      whole = unfold measured_of unmeasured in refl;
      few = omega arith;
      short = l.short;
    }

module _ {w : Bool} {s : List ℕ} {at : ℕ} {m : Measured} (x : MeasuredTo w s at m) where
  pub few-so-far : {next : ℕ} {c : Command} → read_at s at ≡ gives (record { command = c; next = next }) → m.size ≤ 1000000
  few-so-far {next} {c} e =
      let n = read_next s at (record { command = c; next = next }) e in
      omega (arith, n.0, n.1, x.few, x.short)

  pub measured-turn :
      {next : ℕ} {c : Command} {r : Measured}
      → read_at s at ≡ gives (record { command = c; next = next })
      → r ≡ measured_after w m (record { at = at; command = c })
      → MeasuredTo w s next r
  unfolding measured_from
  measured-turn {next} {c} {r} e q =
      let n = onward-next s at (record { command = c; next = next }) x.onwards e in
      let more = read_next s at (record { command = c; next = next }) e in
      let most = bytes_most (regrouped w c) in
      let far = x.few in
      let long : r.size ≡ m.size + length (bytes_of (regrouped w c)) = ap (λ (y : Measured). y.size) q ∙ unfold measured_after in refl in
      record {
        rest = n.rest;
        onwards = n.onwards;
        whole = ap (λ (y : Measured). measured_from w y n.rest) q ∙ further n.rest n.parts;
        few = omega (arith, more.0);
        short = x.short;
      }
    where
      further : (ps : List Placed) → x.rest ≡ record { at = at; command = c } ∷ ps → measured_from w (measured_after w m (record { at = at; command = c })) ps ≡ measured_of w s
      further ps p = subst (λ (qs : List Placed). measured_from w m qs ≡ measured_of w s) p x.whole

  -- in an accepted bundle nothing is refused but to read on at its end
  pub measured-end : {n p : ℕ} → read_at s at ≡ refuses n p → m ≡ measured_of w s
  unfolding measured_from
  measured-end e = subst (λ (ps : List Placed). measured_from w m ps ≡ measured_of w s) (onward-stops s at x.onwards e) x.whole

-- one more command
pub small_size : (w : Bool) (c : Command) {size : ℕ} → size ≡ length (bytes_of (regrouped w c)) → size ≤ 14
small_size w c q = rw q (bytes_most (regrouped w c))

pub one-more :
    (w : Bool) (m : Measured) (c : Command) (at : ℕ) {size : ℕ} {over : Code.Option ℕ}
    → size ≡ length (bytes_of (regrouped w c))
    → over ≡ option_or m.over (then_some (site_over c) at)
    → record { size = m.size + size; over = over } ≡ measured_after w m (record { at = at; command = c })
unfolding measured_after
one-more w m c at q r = rw (q, r)

-- what was measured
size-from : (w : Bool) (m : Measured) (ps : List Placed) → (measured_from w m ps).size ≡ m.size + length (concat_map bytes_of (map (regrouped w) (bare ps)))
unfolding measured_from
size-from w m [] = omega arith
size-from w m (p ∷ ps) =
    size-from w (measured_after w m p) ps
    ∙ unfold measured_after in
    (rw length-append (add_assoc m.size (length (bytes_of (regrouped w p.command))) (length (concat_map bytes_of (map (regrouped w) (bare ps))))))

pub measured-size : (w : Bool) (s : List ℕ) → (measured_of w s).size ≡ length (converted w s)
unfolding measured_of unmeasured converted commands_in
measured-size w s =
    size-from w (record { size = 0; over = None }) (front_of s).placed
    ∙ zero-add (length (concat_map bytes_of (map (regrouped w) (bare (front_of s).placed))))

-- the first one that is over
abbrev place_of : Option Placed → Code.Option ℕ
place_of none = None
place_of (some p) = Some p.at

over-stays : (w : Bool) (m : Measured) (ps : List Placed) {at : ℕ} → m.over ≡ Some at → (measured_from w m ps).over ≡ Some at
unfolding measured_from
over-stays w m [] e = e
over-stays w m (p ∷ ps) e = over-stays w (measured_after w m p) ps (unfold measured_after in (rw e))

over-from : (w : Bool) (m : Measured) (ps : List Placed) → m.over ≡ None → (measured_from w m ps).over ≡ place_of (first_over ps)
unfolding measured_from first_over
over-from w m [] e = e
over-from w m (p ∷ ps) e = go (site_over p.command) refl (over-from w (measured_after w m p) ps)
  where
    go :
        (t : Bool)
        → site_over p.command ≡ t
        → ((measured_after w m p).over ≡ None → (measured_from w (measured_after w m p) ps).over ≡ place_of (first (λ q. site_over q.command) ps))
        → (measured_from w (measured_after w m p) ps).over ≡ place_of (cond (site_over p.command) (some p) (first (λ q. site_over q.command) ps))
    go true q ih = over-stays w (measured_after w m p) ps {at = p.at} (unfold measured_after in (rw (e, q))) ∙ rw q
    go false q ih = rw q (ih (unfold measured_after in (rw (e, q))))

measured-over : (w : Bool) (s : List ℕ) → (measured_of w s).over ≡ place_of (first_over (front_of s).placed)
unfolding measured_of unmeasured
measured-over w s = over-from w (record { size = 0; over = None }) (front_of s).placed refl

-- the size of the result, by what was measured
module _ (s : List ℕ) (ok : Accepted s) where
  module _ {m : Measured} (e : m ≡ measured_of true s) where
    long : m.size ≡ length (converted true s)
    long = ap (λ (n : Measured). n.size) e ∙ measured-size true s

    pub too_long : 65536 < m.size → refuses 1 0 ≡ size_to true s
    unfolding size_to to_wide
    too_long h = rw (ok, lt-ltb 65536 (length (converted true s)) (omega (arith, h, long)))

    pub wide_size : m.size ≤ 65536 → gives m.size ≡ size_to true s
    unfolding size_to to_wide
    wide_size h = rw (ok, le-ltb 65536 (length (converted true s)) (omega (arith, h, long)), long)

  module _ {m : Measured} (e : m ≡ measured_of false s) where
    short : m.size ≡ length (converted false s)
    short = ap (λ (n : Measured). n.size) e ∙ measured-size false s

    over : m.over ≡ place_of (first_over (front_of s).placed)
    over = ap (λ (n : Measured). n.over) e ∙ measured-over false s

    pub too_large : {at : ℕ} → m.over ≡ Some at → refuses 21 at ≡ size_to false s
    unfolding size_to to_narrow
    too_large {at} h = rw ok (go (first_over (front_of s).placed) (sym h ∙ over))
      where
        go : (o : Option Placed) → Some at ≡ place_of o → refuses 21 at ≡ when_given (from_option (gives (converted false s)) (λ (p : Placed). refuses 21 p.at) o) (λ c. gives (length c))
        go none q = let z : ◌≡◌ {A = Code.Option ℕ} (Some at) None = q in cc
        go (some p) q = let n : at ≡ p.at = cc in rw n

    pub narrow_size : m.over ≡ None → gives m.size ≡ size_to false s
    unfolding size_to to_narrow
    narrow_size h = rw ok (go (first_over (front_of s).placed) (sym h ∙ over))
      where
        go : (o : Option Placed) → None ≡ place_of o → gives m.size ≡ when_given (from_option (gives (converted false s)) (λ (p : Placed). refuses 21 p.at) o) (λ c. gives (length c))
        go none q = ap gives short
        go (some p) q = let z : ◌≡◌ {A = Code.Option ℕ} None (Some p.at) = q in cc

-- one command put
module _ (w : Bool) (c : Command) (buffer : List ℕ) (position : ℕ) (x : Puttable w c (length buffer) position) where
  put-fits : put_at (regrouped w c) buffer position ≡ record { answer = gives (position + length (bytes_of (regrouped w c))); buffer = written buffer position (bytes_of (regrouped w c)) }
  unfolding put_at
  put-fits = rw (x.in-range, le-leb (length (bytes_of (regrouped w c))) (length buffer - position) (omega (arith, x.fits)))

  -- what putting the command gave, once it was regrouped
  module _ {d : Command} (same : d ≡ regrouped w c) (r : Result ℕ Refusal) {after : List ℕ} (e : put_at d buffer position ≡ record { answer = answer_of r; buffer = after }) where
    given :
        ◌≡◌ {A = Lent ℕ} (record { answer = answer_of r; buffer = after })
        (record { answer = gives (position + length (bytes_of (regrouped w c))); buffer = written buffer position (bytes_of (regrouped w c)) })
    given = sym e ∙ ap (λ (f : Command). put_at f buffer position) same ∙ put-fits

    pub put_next : r ≡ Ok (position + length (bytes_of (regrouped w c)))
    put_next = go r (ap (λ (y : Lent ℕ). y.answer) given)
      where
        go : (q : Result ℕ Refusal) → answer_of q ≡ gives (position + length (bytes_of (regrouped w c))) → q ≡ Ok (position + length (bytes_of (regrouped w c)))
        go (Ok n) h = let same : n ≡ position + length (bytes_of (regrouped w c)) = cc in ap Ok same
        go (Err f) h = let z : ◌≡◌ {A = ℕ} 0 1 = cc in absurd (omega arith)

    pub put_after : after ≡ written buffer position (bytes_of (regrouped w c))
    put_after = ap (λ (y : Lent ℕ). y.buffer) given

-- the pass that writes is at a position: what is done, with the rest of the commands, is the whole
pub record PutTo (w : Bool) (s old : List ℕ) (at position : ℕ) (new : List ℕ) : Type 0 where
  pub rest : List Placed
  pub onwards : Onward s at rest
  pub ranges : (c : Command) → Memᴰ c (bare rest) → in_range (regrouped w c) ≡ true
  pub done : List ℕ
  pub whole : done ++ concat_map bytes_of (map (regrouped w) (bare rest)) ≡ converted w s
  pub room : length (converted w s) ≤ length old
  pub long : length new ≡ length old
  pub behind : position ≡ length done
  pub bytes : new ≡ written old 0 done

pub put-start : (w : Bool) (s old : List ℕ) → Convertible w s → length (converted w s) ≤ length old → PutTo w s old 0 0 old
put-start w s old x h =
    record {
      rest = (front_of s).placed;
      onwards = (legible s x.accepted).onwards;
      ranges = unfold commands_in in x.in-range;
      done = [];
      whole = unfold converted commands_in in refl;
      room = h;
      long = refl;
      behind = refl;
      bytes = sym (written-front old []);
    }

module _ {w : Bool} {s old : List ℕ} {at position : ℕ} {new : List ℕ} (x : PutTo w s old at position new) where
  module _ {next : ℕ} {c : Command} (e : read_at s at ≡ gives (record { command = c; next = next })) where
    ahead : Next s at (record { command = c; next = next }) x.rest
    ahead = onward-next s at (record { command = c; next = next }) x.onwards e

    split : (x.done ++ bytes_of (regrouped w c)) ++ concat_map bytes_of (map (regrouped w) (bare ahead.rest)) ≡ converted w s
    split =
        append_assoc x.done (bytes_of (regrouped w c)) (concat_map bytes_of (map (regrouped w) (bare ahead.rest)))
        ∙ subst (λ (ps : List Placed). x.done ++ concat_map bytes_of (map (regrouped w) (bare ps)) ≡ converted w s) ahead.parts x.whole

    pub puttable : Puttable w c (length new) position
    puttable =
        record {
          in-range = subst (λ (ps : List Placed). (d : Command) → Memᴰ d (bare ps) → in_range (regrouped w d) ≡ true) ahead.parts x.ranges c (Memᴰ.head refl);
          fits =
              let all = ap length split in
              let one = length-append (x.done ++ bytes_of (regrouped w c)) (concat_map bytes_of (map (regrouped w) (bare ahead.rest))) in
              let two = length-append x.done (bytes_of (regrouped w c)) in
              omega (arith, x.room, x.long, x.behind);
        }

    pub put-turn :
        {further : ℕ} {after : List ℕ}
        → further ≡ position + length (bytes_of (regrouped w c))
        → after ≡ written new position (bytes_of (regrouped w c))
        → PutTo w s old next further after
    put-turn n q =
        record {
          rest = ahead.rest;
          onwards = ahead.onwards;
          ranges =
              λ d m.
              subst (λ (ps : List Placed). (f : Command) → Memᴰ f (bare ps) → in_range (regrouped w f) ≡ true) ahead.parts x.ranges d (Memᴰ.tail m);
          done = x.done ++ bytes_of (regrouped w c);
          whole = split;
          room = x.room;
          long = ap length q ∙ written-length new position (bytes_of (regrouped w c)) puttable.fits ∙ x.long;
          behind = n ∙ ap (λ (k : ℕ). k + length (bytes_of (regrouped w c))) x.behind ∙ sym (length-append x.done (bytes_of (regrouped w c)));
          bytes = q ∙ (λ i. written (x.bytes i) (x.behind i) (bytes_of (regrouped w c))) ∙ written_on old x.done (bytes_of (regrouped w c));
        }

  pub put-end : {n p : ℕ} → read_at s at ≡ refuses n p → new ≡ written old 0 (converted w s)
  put-end e =
      x.bytes
      ∙ ap (written old 0)
      (sym (append-nil x.done)
      ∙ subst (λ (ps : List Placed). x.done ++ concat_map bytes_of (map (regrouped w) (bare ps)) ≡ converted w s) (onward-stops s at x.onwards e) x.whole)

-- what the answer is
pub record Sized (w : Bool) (s : List ℕ) (size : ℕ) : Type 0 where
  pub convertible : Convertible w s
  pub is : to_group w s ≡ gives (converted w s)
  pub long : size ≡ length (converted w s)

pub sized : (w : Bool) (s : List ℕ) → Bytes s → Accepted s → {size : ℕ} → gives size ≡ size_to w s → Sized w s size
unfolding size_to
sized w s bytes ok {size} e = go (to_group w s) refl e
  where
    go : (a : Answer (List ℕ)) → to_group w s ≡ a → gives size ≡ when_given a (λ c. gives (length c)) → Sized w s size
    go (gives c) q h =
        let r = group-elim s ok w c q in
        let n : size ≡ length c = cc in
        record {
          convertible = record { accepted = ok; in-range = ranged s bytes ok w r.1 };
          is = q ∙ ap gives r.0;
          long = n ∙ ap length r.0;
        }
    go (refuses n p) q h = let z : ◌≡◌ {A = ℕ} 0 1 = cc in absurd (omega arith)

module _ {w : Bool} {s : List ℕ} {size : ℕ} (x : Sized w s size) (buffer : List ℕ) where
  pub too_short : length buffer < size → record { answer = refuses 17 0; buffer = buffer } ≡ convert_of w s buffer
  unfolding convert_of handed_to filling_of
  too_short h = rw (x.is, lt-ltb (length buffer) (length (converted w s)) (omega (arith, h, x.long)))

  pub all_put : size ≤ length buffer → {after : List ℕ} → after ≡ written buffer 0 (converted w s) → record { answer = gives size; buffer = after } ≡ convert_of w s buffer
  unfolding convert_of handed_to filling_of
  all_put h q = rw (x.is, le-ltb (length buffer) (length (converted w s)) (omega (arith, h, x.long)), x.long, q)

pub size-refused : (w : Bool) (s buffer : List ℕ) {n p : ℕ} → refuses n p ≡ size_to w s → record { answer = refuses n p; buffer = buffer } ≡ convert_of w s buffer
unfolding size_to convert_of handed_to
size-refused w s buffer {n} {p} e = go (to_group w s) e
  where
    go : (a : Answer (List ℕ)) → refuses n p ≡ when_given a (λ c. gives (length c)) → record { answer = refuses n p; buffer = buffer } ≡ handed_to buffer a
    go (gives c) h = let z : ◌≡◌ {A = ℕ} 0 1 = cc in absurd (omega arith)
    go (refuses k q) h = let a : n ≡ k = cc in let b : p ≡ q = cc in rw (a, b)

pub convert-refused : (w : Bool) (s buffer : List ℕ) {n p : ℕ} → check_of s ≡ refuses n p → record { answer = refuses n p; buffer = buffer } ≡ convert_of w s buffer
unfolding convert_of to_wide to_narrow handed_to
convert-refused true s buffer e = rw e
convert-refused false s buffer e = rw e
