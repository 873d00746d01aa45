-- Chunks put one after another get their places anew; nothing else of them changes.
use Prim.Native.Nat.{ℕ, ◌+◌}
use mathlib.Core.Path.{◌≡◌, refl, sym, ◌∙◌, ap, subst}
use mathlib.Core.Logic.{⊎_elim}
use mathlib.Core.List.Memᴰ
use mathlib.Core.List.{List, [], ◌∷◌, ◌++◌, map, append_assoc, append-nil, Memᴰ}
use native.Mathlib.Nat.{add_assoc, add-sub_cancel_left}
use lib.ListN.{length, length-append}
use lib.Seq.{take-append_seam, drop-append_seam}
use Rattle.bundle.specs.Lists.{concat_map}
use Rattle.bundle.specs.Commands.{bytes_of}
use Rattle.bundle.specs.Chunks.{Placed, Chunk, gather, commands_of, part_of}
use Rattle.bundle.specs.declared.command.Command.TheVariants as Com
use Rattle.bundle.proofs.ListLaws.{concat_map-append}
use Rattle.bundle.proofs.Places.{unplaced_command, unplaced}
use Rattle.bundle.proofs.Gathering.{Body, ends, goes, gather-plain, gather-closes, Formed, placed_of, log_of, gather-chunks}
use Rattle.bundle.proofs.Printing.{printed, placed_from, placed-append}

-- a chunk at an offset, and chunks one after another from an offset on
unfoldable pub settled : ℕ → Chunk → Chunk
settled at c =
    record {
      place = at;
      team = c.team;
      member = c.member;
      body = placed_from (at + length (bytes_of (Com.Member c.team c.member))) (commands_of c);
      past = at + length (printed (log_of c));
    }

unfoldable pub settle : ℕ → List Chunk → List Chunk
settle at [] = []
settle at (c ∷ cs) = settled at c ∷ settle (at + length (printed (log_of c))) cs

pub placed-settle : (at : ℕ) (cs : List Chunk) → concat_map placed_of (settle at cs) ≡ placed_from at (concat_map log_of cs)
unfolding settle
placed-settle at [] = unfold placed_from in refl
placed-settle at (c ∷ cs) = go (placed-settle (at + length (printed (log_of c))) cs)
  where
    go :
        concat_map placed_of (settle (at + length (printed (log_of c))) cs) ≡ placed_from (at + length (printed (log_of c))) (concat_map log_of cs)
        → placed_of (settled at c) ++ concat_map placed_of (settle (at + length (printed (log_of c))) cs) ≡ placed_from at (log_of c ++ concat_map log_of cs)
    go ih =
        ap (λ (l : List Placed). placed_of (settled at c) ++ l) ih
        ∙ sym (placed-append at (log_of c) (concat_map log_of cs) ∙ unfold placed_of settled placed_from log_of in refl)

-- a chunk is formed by its commands alone
body-placed : (at : ℕ) {ps : List Placed} → Body ps → Body (placed_from at (map (λ (p : Placed). p.command) ps))
unfolding placed_from
body-placed at (ends e) = ends e
body-placed at (goes {p = p} e b) = goes e (body-placed (at + length (bytes_of p.command)) b)

past-placed :
    (at : ℕ) {ps : List Placed}
    → Body ps
    → at + length (printed (map (λ (p : Placed). p.command) ps)) ≡ (gather (placed_from at (map (λ (p : Placed). p.command) ps))).past
unfolding placed_from printed gather
past-placed at (ends {p = p} e) =
    rw (gather-closes (record { at = at; command = p.command }) (gather []) e, append-nil (bytes_of p.command))
past-placed at (goes {p = p} {ps = ps} e b) =
    let w = length (bytes_of p.command) in
    let cs = map (λ (q : Placed). q.command) ps in
    rw (gather-plain (record { at = at; command = p.command }) (gather (placed_from (at + w) cs)) e)
    (rw length-append (sym (add_assoc at w (length (concat_map bytes_of cs))) ∙ past-placed (at + w) b))

formed-settled : (at : ℕ) (c : Chunk) → Formed c → Formed (settled at c)
unfolding settled commands_of printed log_of
formed-settled at c f =
    let w = length (bytes_of (Com.Member c.team c.member)) in
    record {
      body_ok = body-placed (at + w) f.body_ok;
      past_ok =
          rw length-append
          (sym (add_assoc at w (length (concat_map bytes_of (map (λ (p : Placed). p.command) c.body))))
          ∙ past-placed (at + w) f.body_ok);
    }

pub formed-settle :
    (at : ℕ) (cs : List Chunk)
    → ((c : Chunk) → Memᴰ c cs → Formed c)
    → (d : Chunk)
    → Memᴰ d (settle at cs)
    → Formed d
unfolding settle
formed-settle at [] h d m = absurd (Memᴰ.not-nil m)
formed-settle at (c ∷ cs) h d m =
    ⊎_elim
    (λ q. subst Formed (sym q) (formed-settled at c (h c (Memᴰ.head refl))))
    (formed-settle (at + length (printed (log_of c))) cs (λ e l. h e (Memᴰ.tail l)) d)
    (Memᴰ.cases_cons m)

-- the chunks of commands printed one after another
pub gather-settle :
    (at : ℕ) (cs : List Chunk)
    → ((c : Chunk) → Memᴰ c cs → Formed c)
    → (gather (placed_from at (concat_map log_of cs))).chunks ≡ settle at cs
gather-settle at cs h =
    rw (← placed-settle at cs) (gather-chunks (settle at cs) (formed-settle at cs h))

-- what stays
bare-placed : (at : ℕ) (ps : List Placed) → map unplaced_command (placed_from at (map (λ (p : Placed). p.command) ps)) ≡ map unplaced_command ps
unfolding placed_from unplaced_command
bare-placed at [] = refl
bare-placed at (p ∷ ps) =
    ap (λ (l : List Placed). record { at = 0; command = p.command } ∷ l) (bare-placed (at + length (bytes_of p.command)) ps)

pub unplaced-settle : (at : ℕ) (cs : List Chunk) → map unplaced (settle at cs) ≡ map unplaced cs
unfolding settle
unplaced-settle at [] = refl
unplaced-settle at (c ∷ cs) = go (unplaced-settle (at + length (printed (log_of c))) cs)
  where
    one : unplaced (settled at c) ≡ unplaced c
    one =
        unfold unplaced settled commands_of in
        (ap (λ (l : List Placed). record { place = 0; team = c.team; member = c.member; body = l; past = 0 })
        (bare-placed (at + length (bytes_of (Com.Member c.team c.member))) c.body))

    go :
        map unplaced (settle (at + length (printed (log_of c))) cs) ≡ map unplaced cs
        → unplaced (settled at c) ∷ map unplaced (settle (at + length (printed (log_of c))) cs) ≡ unplaced c ∷ map unplaced cs
    go ih = rw (one, ih)

-- a chunk's part of the bundle is its commands printed
pub part-settle :
    (p : List ℕ) (cs : List Chunk)
    → map (part_of (p ++ printed (concat_map log_of cs))) (settle (length p) cs) ≡ map (λ (c : Chunk). printed (log_of c)) cs
unfolding settle
part-settle p [] = refl
part-settle p (c ∷ cs) = go (part-settle (p ++ printed (log_of c)) cs)
  where
    x : List ℕ
    x = printed (log_of c)

    y : List ℕ
    y = printed (concat_map log_of cs)

    split : p ++ printed (log_of c ++ concat_map log_of cs) ≡ p ++ (x ++ y)
    split = unfold printed in (ap (λ (l : List ℕ). p ++ l) (concat_map-append bytes_of (log_of c) (concat_map log_of cs)))

    one : part_of (p ++ (x ++ y)) (settled (length p) c) ≡ x
    one =
        unfold part_of settled in
        (rw (add-sub_cancel_left (length p) (length x), drop-append_seam p (x ++ y)) (take-append_seam x y))

    go :
        map (part_of (p ++ x ++ y)) (settle (length (p ++ x)) cs) ≡ map (λ (d : Chunk). printed (log_of d)) cs
        → map (part_of (p ++ printed (concat_map log_of (c ∷ cs)))) (settled (length p) c ∷ settle (length p + length x) cs)
        ≡ x ∷ map (λ (d : Chunk). printed (log_of d)) cs
    go ih =
        ap (λ (z : List ℕ). map (part_of z) (settled (length p) c ∷ settle (length p + length x) cs)) split
        ∙ rw one (ap (λ (l : List (List ℕ)). x ∷ l) (rw (append_assoc p x y, length-append p x) at ih))
