-- The scan chunk by chunk: chunks one after another pass where each passes by itself.
use mathlib.Core.Path.{◌≡◌, refl, sym, ◌∙◌, ap}
use mathlib.Core.Bool.{Bool, true, false, ◌&&◌, and_assoc, and-true}
use mathlib.Core.List.{List, [], ◌∷◌, ◌++◌, map, map-append, Memᴰ}
use Rattle.bundle.specs.Lists.{all, concat_map}
use Rattle.bundle.specs.Chunks.{Placed, Chunk, fresh, after_command, commands_of}
use Rattle.bundle.specs.Scan.{start, scanned}
use Rattle.bundle.specs.declared.scan.Scan.{Scan}
use Rattle.bundle.specs.declared.command.Command.{Command}
use Rattle.bundle.specs.declared.command.Command.TheVariants as Com
use Rattle.bundle.proofs.Delimiters.{closes, on-closes}
use Rattle.bundle.proofs.Scanning.{passes, uncounted, orderly}
use Rattle.bundle.proofs.Gathering.{Body, ends, goes, Formed, placed_of, log_of}

-- after the end of a chunk the scan stands as at the start
closed-scan : (k : Scan) (c : Command) → closes c ≡ true → uncounted (scanned k c) ≡ start
unfolding uncounted scanned start
closed-scan k c e =
    rw (
      on-closes k.inside (λ t m. true) false c e,
      on-closes k.team (λ t m. t) 0 c e,
      on-closes (after_command k.state c) (λ t m. fresh) fresh c e,
    )

scan-end : (k : Scan) (c : Command) (rest : List Command) → closes c ≡ true → orderly k (c ∷ rest) ≡ (orderly k (c ∷ []) && orderly start rest)
unfolding orderly
scan-end k c rest e = rw (closed-scan k c e) (unfold start in (ap (λ (t : Bool). t && orderly start rest) (sym (and-true (passes k c)))))

scan-body :
    (k : Scan) {ps : List Placed} (rest : List Command)
    → Body ps
    → orderly k (map (λ (p : Placed). p.command) ps ++ rest)
    ≡ (orderly k (map (λ (p : Placed). p.command) ps) && orderly start rest)
unfolding orderly
scan-body k rest (ends {p = p} e) = scan-end k p.command rest e
scan-body k rest (goes {p = p} {ps = ps} e b) =
    ap (λ (t : Bool). passes k p.command && t) (scan-body (uncounted (scanned k p.command)) rest b)
    ∙ sym
    (and_assoc
    (passes k p.command)
    (orderly (uncounted (scanned k p.command)) (map (λ (q : Placed). q.command) ps))
    (orderly start rest))

pub scan-chunk : (c : Chunk) (rest : List Command) → Formed c → orderly start (log_of c ++ rest) ≡ (orderly start (log_of c) && orderly start rest)
unfolding orderly log_of commands_of
scan-chunk c rest f =
    let m = Com.Member c.team c.member in
    let k = uncounted (scanned start m) in
    ap (λ (t : Bool). passes start m && t) (scan-body k rest f.body_ok)
    ∙ sym (and_assoc (passes start m) (orderly k (map (λ (p : Placed). p.command) c.body)) (orderly start rest))

pub scan-chunks :
    (cs : List Chunk)
    → ((c : Chunk) → Memᴰ c cs → Formed c)
    → orderly start (concat_map log_of cs) ≡ all (λ (c : Chunk). orderly start (log_of c)) cs
unfolding orderly start
scan-chunks [] h = refl
scan-chunks (c ∷ cs) h =
    scan-chunk c (concat_map log_of cs) (h c (Memᴰ.head refl))
    ∙ ap (λ (t : Bool). orderly start (log_of c) && t) (scan-chunks cs (λ d m. h d (Memᴰ.tail m)))

-- the chunks' commands without their places
pub commands-of-chunks : (cs : List Chunk) → map (λ (p : Placed). p.command) (concat_map placed_of cs) ≡ concat_map log_of cs
unfolding placed_of log_of commands_of
commands-of-chunks [] = refl
commands-of-chunks (c ∷ cs) =
    map-append (λ (p : Placed). p.command) (placed_of c) (concat_map placed_of cs)
    ∙ ap (λ (l : List Command). log_of c ++ l) (commands-of-chunks cs)
