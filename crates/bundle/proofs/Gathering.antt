-- Chunks and commands: the commands of a bundle that passes the scan are those of its chunks, one chunk after another.
use Prim.Native.Nat.{ℕ, ◌+◌}
use mathlib.Core.Path.{◌≡◌, refl, sym, ◌∙◌, ap, subst}
use mathlib.Core.Logic.{⊎_elim}
use mathlib.Core.Bool.{Bool, true, false, cond, not}
use mathlib.Core.List.Memᴰ
use mathlib.Core.List.{List, [], ◌∷◌, ◌++◌, map, Memᴰ}
use lib.ListN.{length}
use Rattle.bundle.specs.Lists.{concat_map}
use Rattle.bundle.specs.Cases.{on_delimiter}
use Rattle.bundle.specs.Commands.{bytes_of}
use Rattle.bundle.specs.Chunks.{Placed, Chunk, Gathered, gather_one, gather}
unfoldable pub use Rattle.bundle.specs.Index.{log_of}
use Rattle.bundle.specs.Scan.{is_member, misplaced, start, scanned}
use Rattle.bundle.specs.declared.scan.Scan.{Scan}
use Rattle.bundle.specs.declared.command.Command.{Command}
use Rattle.bundle.specs.declared.command.Command.TheVariants as Com
use Rattle.bundle.proofs.Tests.{false-is-true}
unfoldable pub use Rattle.bundle.proofs.Delimiters.{plain, closes}
use Rattle.bundle.proofs.Delimiters.{Delimiter, opens_chunk, closes_chunk, neither, delimits, on-plain, on-closes}
use Rattle.bundle.proofs.Scanning.{uncounted, orderly, orderly-head, orderly-tail}

-- the commands of a chunk after MEMBER: plain ones, then one that closes it
pub data Body : List Placed → Type 0 where
  ends : {p : Placed} → closes p.command ≡ true → Body (p ∷ [])
  goes : {p : Placed} {ps : List Placed} → plain p.command ≡ true → Body ps → Body (p ∷ ps)

pub gather-plain : (p : Placed) (g : Gathered) → plain p.command ≡ true → gather_one p g ≡ record { body = p ∷ g.body; past = g.past; chunks = g.chunks }
unfolding gather_one
gather-plain p g e = on-plain _ _ _ p.command e

pub gather-closes :
    (p : Placed) (g : Gathered)
    → closes p.command ≡ true
    → gather_one p g ≡ record { body = p ∷ []; past = p.at + length (bytes_of p.command); chunks = g.chunks }
unfolding gather_one
gather-closes p g e = on-closes _ _ _ p.command e

pub gather-body :
    {ps : List Placed} (rest : List Placed)
    → Body ps
    → gather (ps ++ rest) ≡ record { body = ps; past = (gather ps).past; chunks = (gather rest).chunks }
unfolding gather
gather-body rest (ends {p = p} e) = rw (gather-closes p (gather rest) e, gather-closes p (gather []) e)
gather-body rest (goes {p = p} {ps = ps} e b) =
    rw (gather-plain p (gather (ps ++ rest)) e, gather-plain p (gather ps) e, gather-body rest b)

-- a chunk whose body is a body, and whose end is behind its END or CUT
pub record Formed (c : Chunk) : Type 0 where
  pub body_ok : Body c.body
  pub past_ok : c.past ≡ (gather c.body).past

-- a chunk's commands with their places
unfoldable pub placed_of : Chunk → List Placed
placed_of c = record { at = c.place; command = Com.Member c.team c.member } ∷ c.body

pub gather-chunks : (cs : List Chunk) → ((c : Chunk) → Memᴰ c cs → Formed c) → (gather (concat_map placed_of cs)).chunks ≡ cs
unfolding gather gather_one placed_of
gather-chunks [] h = refl
gather-chunks (c ∷ cs) h =
    let f = h c (Memᴰ.head refl) in
    let ih = gather-chunks cs (λ d m. h d (Memᴰ.tail m)) in
    rw (gather-body (concat_map placed_of cs) f.body_ok, ih)
    (ap (λ (n : ℕ). record { place = c.place; team = c.team; member = c.member; body = c.body; past = n } ∷ cs) (sym f.past_ok))

-- what stands behind a place outside a chunk, or inside one
pub record Outside (ps : List Placed) : Type 0 where
  pub parts : ps ≡ concat_map placed_of (gather ps).chunks
  pub formed : (c : Chunk) → Memᴰ c (gather ps).chunks → Formed c

pub record Inside (ps : List Placed) : Type 0 where
  pub parts : ps ≡ (gather ps).body ++ concat_map placed_of (gather ps).chunks
  pub body_ok : Body (gather ps).body
  pub past_ok : (gather ps).past ≡ (gather (gather ps).body).past
  pub formed : (c : Chunk) → Memᴰ c (gather ps).chunks → Formed c

abbrev Behind : Bool → List Placed → Type 0
Behind true ps = Inside ps
Behind false ps = Outside ps

nothing-behind : (t : Bool) → not t ≡ true → Behind t []
unfolding gather
nothing-behind true e = false-is-true e
nothing-behind false e = record { parts = refl; formed = λ c m. absurd (Memᴰ.not-nil m) }

member-behind : (p : Placed) (t m : ℕ) (ps : List Placed) → p.command ≡ Com.Member t m → Inside ps → Outside (p ∷ ps)
unfolding gather gather_one placed_of
member-behind p t m ps e i =
    let here : p ≡ record { at = p.at; command = Com.Member t m } = ap (λ (c : Command). record { at = p.at; command = c }) e in
    rw e
    (record {
      parts = rw here (ap (λ (l : List Placed). record { at = p.at; command = Com.Member t m } ∷ l) i.parts);
      formed =
          λ c l.
          ⊎_elim
          (λ q. rw q (record { body_ok = i.body_ok; past_ok = i.past_ok }))
          (i.formed c)
          (Memᴰ.cases_cons l);
    })

end-behind : (p : Placed) (ps : List Placed) → closes p.command ≡ true → Outside ps → Inside (p ∷ ps)
unfolding gather
end-behind p ps e o =
    record {
      parts = rw here (ap (λ (l : List Placed). p ∷ l) o.parts);
      body_ok = rw here (ends e);
      past_ok = rw (here, gather-closes p (gather []) e);
      formed = λ c m. o.formed c (rw here at m);
    }
  where
    here : gather_one p (gather ps) ≡ record { body = p ∷ []; past = p.at + length (bytes_of p.command); chunks = (gather ps).chunks }
    here = gather-closes p (gather ps) e

plain-behind : (p : Placed) (ps : List Placed) → plain p.command ≡ true → Inside ps → Inside (p ∷ ps)
unfolding gather
plain-behind p ps e i =
    record {
      parts = rw (here) (ap (λ (l : List Placed). p ∷ l) i.parts);
      body_ok = rw (here) (goes e i.body_ok);
      past_ok = rw (here, gather-plain p (gather (gather ps).body) e) i.past_ok;
      formed = λ c m. i.formed c (rw here at m);
    }
  where
    here : gather_one p (gather ps) ≡ record { body = p ∷ (gather ps).body; past = (gather ps).past; chunks = (gather ps).chunks }
    here = gather-plain p (gather ps) e

-- by the command: where it stands, and where the next stands
step-behind :
    (k : Scan) (p : Placed) (ps : List Placed)
    → Delimiter p.command
    → not (misplaced k p.command) ≡ true
    → Behind (uncounted (scanned k p.command)).inside ps
    → Behind k.inside (p ∷ ps)
unfolding misplaced is_member uncounted scanned
step-behind k p ps d h b = go p.command refl d h b
  where
    from : (c : Command) → Bool → Bool
    from c i = cond (is_member c) i (not i)

    stands : (i : Bool) → not (not i) ≡ true → i ≡ true
    stands true q = refl
    stands false q = q

    inside : Inside (p ∷ ps) → (i : Bool) → not (not i) ≡ true → Behind i (p ∷ ps)
    inside x true q = x
    inside x false q = false-is-true q

    go :
        (c : Command)
        → p.command ≡ c
        → Delimiter c
        → not (cond (is_member c) k.inside (not k.inside)) ≡ true
        → Behind (on_delimiter k.inside (λ t m. true) false c) ps
        → Behind k.inside (p ∷ ps)
    go c e (opens_chunk t m) q x = outside k.inside q
      where
        outside : (i : Bool) → not i ≡ true → Behind i (p ∷ ps)
        outside true r = false-is-true r
        outside false r = member-behind p t m ps e x
    go c e (closes_chunk f) q x =
        inside
        (end-behind p ps (ap closes e ∙ f) (subst (λ (i : Bool). Behind i ps) (on-closes k.inside (λ t m. true) false c f) x))
        k.inside
        (rw (on-closes false (λ t m. true) false c f) at q)
    go c e (neither f) q x =
        let i = rw (on-plain false (λ t m. true) false c f) at q in
        inside
        (plain-behind p ps (ap plain e ∙ f)
        (subst (λ (j : Bool). Behind j ps) (on-plain k.inside (λ t m. true) false c f ∙ stands k.inside i) x))
        k.inside
        i

behind : (ps : List Placed) (k : Scan) → orderly k (map (λ (p : Placed). p.command) ps) ≡ true → Behind k.inside ps
unfolding orderly
behind [] k o = nothing-behind k.inside o
behind (p ∷ ps) k o =
    let c = p.command in
    let cs = map (λ (q : Placed). q.command) ps in
    step-behind k p ps (delimits c)
    (orderly-head k c cs o).in_place
    (behind ps (uncounted (scanned k c)) (orderly-tail k c cs o))

-- the commands that pass the scan are those of the chunks, and every chunk is formed
pub all-in-chunks : (ps : List Placed) → orderly start (map (λ (p : Placed). p.command) ps) ≡ true → Outside ps
unfolding start
all-in-chunks ps o = behind ps start o
