-- Commands printed one after another read back front to back, and a bundle whose commands are in range is its commands printed.
use Prim.Native.Nat.{ℕ, zero, suc, ◌+◌, ◌-◌, ◌≤◌, ◌<◌}
use mathlib.Core.Path.{◌≡◌, refl, sym, ◌∙◌, ap, subst}
use mathlib.Core.Logic.{◌⊎◌, inl, inr}
use mathlib.Core.Bool.{true, false}
use mathlib.Core.List.{List, [], ◌∷◌, ◌++◌, map, append_assoc, Memᴰ}
use native.Mathlib.Omega.{arith}
use native.Mathlib.Nat.{add-zero, zero-add, add_assoc}
use lib.ListN.{length, take, drop, length-append, take-append-drop, drop_of_length-le}
use lib.Seq.{drop-drop, take-append_seam, drop-append_seam, drop-append-add}
use lib.Dec.{leb}
use borrow.Author.Tests.{leb-true, leb-false, le-leb, lt-leb}
use Rattle.bundle.specs.Answer.{Answer, gives, refuses}
use Rattle.bundle.specs.Lists.{concat_map}
use Rattle.bundle.specs.Commands.{Bytes, Taken, bytes_of, in_range, written, decode_at}
use Rattle.bundle.specs.Chunks.{Placed, Front, follow, front_from, front_of}
use Rattle.bundle.specs.declared.command.Command.{Command}
use Rattle.bundle.proofs.Tests.{decide}
use Rattle.bundle.proofs.Decoding.{read-decodes, decode-reads, read_next}
use Rattle.bundle.proofs.RoundTrip.{bytes-some, written-reads, read-puts-back}

-- commands back to back, and their places from an offset on
unfoldable pub printed : List Command → List ℕ
printed cs = concat_map bytes_of cs

unfoldable pub placed_from : ℕ → List Command → List Placed
placed_from at [] = []
placed_from at (c ∷ cs) = record { at = at; command = c } ∷ placed_from (at + length (bytes_of c)) cs

pub commands-placed : (at : ℕ) (cs : List Command) → map (λ (p : Placed). p.command) (placed_from at cs) ≡ cs
unfolding placed_from
commands-placed at [] = refl
commands-placed at (c ∷ cs) = ap (λ (l : List Command). c ∷ l) (commands-placed (at + length (bytes_of c)) cs)

pub placed-append : (at : ℕ) (cs ds : List Command) → placed_from at (cs ++ ds) ≡ placed_from at cs ++ placed_from (at + length (printed cs)) ds
unfolding placed_from printed
placed-append at [] ds = ap (λ (n : ℕ). placed_from n ds) (sym (add-zero at))
placed-append at (c ∷ cs) ds =
    ap (λ (l : List Placed). record { at = at; command = c } ∷ l)
    (placed-append (at + length (bytes_of c)) cs ds
    ∙ ap (λ (n : ℕ). placed_from (at + length (bytes_of c)) cs ++ placed_from n ds)
    (rw length-append (add_assoc at (length (bytes_of c)) (length (concat_map bytes_of cs)))))

-- what is printed decodes to itself
pub decode-printed :
    (p q : List ℕ) (c : Command)
    → in_range c ≡ true
    → decode_at (p ++ (bytes_of c ++ q)) (length p) ≡ gives (record { command = c; next = length p + length (bytes_of c) })
unfolding written
decode-printed p q c r =
    let s = p ++ (bytes_of c ++ q) in
    let w = length (bytes_of c) in
    let here = written-reads c s (length p) r (simp (length-append) (omega arith)) in
    (read-decodes s (length p) (record { command = c; next = length p + w }) (rw whole at here)).0
  where
    whole :
        take (length p) (p ++ (bytes_of c ++ q)) ++ bytes_of c ++ drop (length p + length (bytes_of c)) (p ++ (bytes_of c ++ q))
        ≡ p ++ (bytes_of c ++ q)
    whole =
        rw (
          take-append_seam p (bytes_of c ++ q),
          drop-append-add p (bytes_of c ++ q) (length (bytes_of c)),
          drop-append_seam (bytes_of c) q,
        )
        (append_assoc p (bytes_of c) q)

-- the front of commands that are printed behind other bytes
pub front-stops : (fuel : ℕ) (s : List ℕ) (at : ℕ) → length s ≤ at → front_from fuel s at ≡ record { placed = []; stop = gives at }
unfolding front_from
front-stops zero s at h = refl
front-stops (suc fuel) s at h = rw (le-leb (length s) at h)

pub front_goes : (fuel : ℕ) (s : List ℕ) (at : ℕ) → at < length s → front_from (suc fuel) s at ≡ follow (front_from fuel s) at (decode_at s at)
unfolding front_from
front_goes fuel s at h = rw (lt-leb (length s) at h)

pub front-printed :
    (fuel : ℕ) (p : List ℕ) (cs : List Command)
    → ((c : Command) → Memᴰ c cs → in_range c ≡ true)
    → length (printed cs) ≤ fuel
    → front_from fuel (p ++ printed cs) (length p)
    ≡ record { placed = placed_from (length p) cs; stop = gives (length p + length (printed cs)) }
unfolding placed_from printed
front-printed fuel p [] h f =
    front-stops fuel (p ++ []) (length p) (simp length-append (omega arith))
    ∙ ap (λ (n : ℕ). record { placed = []; stop = gives n }) (sym (add-zero (length p)))
front-printed zero p (c ∷ cs) h f =
    let b = bytes-some c in
    let l = length-append (bytes_of c) (concat_map bytes_of cs) in
    absurd (omega arith)
front-printed (suc fuel) p (c ∷ cs) h f =
    let l = length-append (bytes_of c) (concat_map bytes_of cs) in
    let b = bytes-some c in
    goes (front-printed fuel (p ++ bytes_of c) cs (λ d m. h d (Memᴰ.tail m)) (omega arith))
  where
    w : ℕ
    w = length (bytes_of c)

    s : List ℕ
    s = p ++ (bytes_of c ++ concat_map bytes_of cs)

    end : ℕ
    end = length p + length (bytes_of c ++ concat_map bytes_of cs)

    same_end : length p + w + length (concat_map bytes_of cs) ≡ end
    same_end = rw length-append (add_assoc (length p) w (length (concat_map bytes_of cs)))

    inside : length p < length s
    inside = let b = bytes-some c in simp length-append (omega arith)

    goes :
        front_from fuel (p ++ bytes_of c ++ printed cs) (length (p ++ bytes_of c))
        ≡ record { placed = placed_from (length (p ++ bytes_of c)) cs; stop = gives (length (p ++ bytes_of c) + length (printed cs)) }
        → front_from (suc fuel) s (length p) ≡ record { placed = placed_from (length p) (c ∷ cs); stop = gives end }
    goes ih =
        front_goes fuel s (length p) inside
        ∙ ap (follow (front_from fuel s) (length p)) (decode-printed p (concat_map bytes_of cs) c (h c (Memᴰ.head refl)))
        ∙ unfold follow in
        (ap
        (λ (r : Front). record { placed = record { at = length p; command = c } ∷ r.placed; stop = r.stop })
        ((rw (append_assoc p (bytes_of c) (concat_map bytes_of cs), length-append p (bytes_of c)) at ih)
        ∙ ap (λ (n : ℕ). record { placed = placed_from (length p + w) cs; stop = gives n }) same_end))

-- a bundle that is read to its end, with commands in range, is its commands printed
abbrev Prints : ℕ → List ℕ → ℕ → Front → Type 0
Prints past s at front =
    front.stop ≡ gives past
    → ((c : Command) → Memᴰ c (map (λ (p : Placed). p.command) front.placed) → in_range c ≡ true)
    → drop at s ≡ printed (map (λ (p : Placed). p.command) front.placed)

prints-follow :
    (s : List ℕ) (at past : ℕ) (rest : ℕ → Front)
    → Bytes s
    → ((next : ℕ) → at < next → next ≤ length s → Prints past s next (rest next))
    → (d : Answer Taken)
    → decode_at s at ≡ d
    → Prints past s at (follow rest at d)
unfolding follow printed
prints-follow s at past rest bytes ih (gives t) q e h =
    let reads = decode-reads s at t q (h t.command (Memᴰ.head refl)) in
    let n = read_next s at t reads in
    let tail = ih t.next n.0 n.1 e (λ c m. h c (Memᴰ.tail m)) in
    let whole : at + (t.next - at) ≡ t.next = omega (arith, n.0) in
    sym (take-append-drop (t.next - at) (drop at s))
    ∙ rw (← (read-puts-back s at t bytes reads).bytes, drop-drop (t.next - at) at s, whole, tail)
prints-follow s at past rest bytes ih (refuses n p) q e h = let z : ◌≡◌ {A = ℕ} 0 1 = cc in absurd (omega arith)

prints-from :
    (fuel : ℕ) (s : List ℕ) (at past : ℕ)
    → Bytes s
    → length s ≤ at + fuel
    → Prints past s at (front_from fuel s at)
prints-from zero s at past bytes f =
    subst (Prints past s at) (sym (front-stops zero s at (omega arith)))
    (λ e h. unfold printed in (drop_of_length-le s (rw add-zero at f)))
prints-from (suc fuel) s at past bytes f =
    go (decide (leb (length s) at)) (λ next h l. prints-from fuel s next past bytes (omega arith))
  where
    go :
        (leb (length s) at ≡ true) ⊎ (leb (length s) at ≡ false)
        → ((next : ℕ) → at < next → next ≤ length s → Prints past s next (front_from fuel s next))
        → Prints past s at (front_from (suc fuel) s at)
    go (inl t) ih =
        subst (Prints past s at) (sym (front-stops (suc fuel) s at (leb-true (length s) at t)))
        (λ e h. unfold printed in (drop_of_length-le s (leb-true (length s) at t)))
    go (inr t) ih =
        subst (Prints past s at) (sym (front_goes fuel s at (leb-false (length s) at t)))
        (prints-follow s at past (front_from fuel s) bytes ih (decode_at s at) refl)

pub prints-front :
    (s : List ℕ) (past : ℕ)
    → Bytes s
    → (front_of s).stop ≡ gives past
    → ((c : Command) → Memᴰ c (map (λ (p : Placed). p.command) (front_of s).placed) → in_range c ≡ true)
    → s ≡ printed (map (λ (p : Placed). p.command) (front_of s).placed)
unfolding front_of
prints-front s past bytes e h = prints-from (length s) s 0 past bytes (omega arith) e h

pub front-of-printed :
    (cs : List Command)
    → ((c : Command) → Memᴰ c cs → in_range c ≡ true)
    → front_of (printed cs) ≡ record { placed = placed_from 0 cs; stop = gives (length (printed cs)) }
unfolding front_of
front-of-printed cs h = front-printed (length (printed cs)) [] cs h (omega arith) ∙ ap (λ (n : ℕ). record { placed = placed_from 0 cs; stop = gives n }) (zero-add (length (printed cs)))
