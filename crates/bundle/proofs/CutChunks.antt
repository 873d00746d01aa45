-- What is left of a chunk that is cut: its body passes the scan where it stands, counts no more than before, has the same REGIONs and no
-- more barriers, and is whole where it is complete.
use Prim.Native.Nat.{ℕ, ◌+◌, ◌≤◌}
use mathlib.Core.Path.{◌≡◌, refl, sym, ◌∙◌, ap, subst}
use mathlib.Core.Logic.{⊎_elim}
use mathlib.Core.Bool.{true, false}
use mathlib.Core.List.Memᴰ
use mathlib.Core.List.{List, [], ◌∷◌, ◌++◌, map, Memᴰ, tail-eq_of_cons-eq, head-eq_of_cons-eq, append-ne-nil_of_right_ne-nil}
use native.Mathlib.Omega.{arith}
use Rattle.bundle.specs.Lists.{any, concat_map}
use Rattle.bundle.specs.Commands.{form_of, code_of, widths_of, fit_widths, operands_ok, in_range}
use Rattle.bundle.specs.Chunks.{Placed, Chunk, after_command, after_commands, commands_of, is_end, complete}
use Rattle.bundle.specs.Walk.{opens_segment, adds_access, Entry, entries_from, entries_of, barriers_of, fork_at, forks_in}
use Rattle.bundle.specs.Scan.{is_member, misplaced, above_own_team, misuses_lock, start, scanned}
use Rattle.bundle.specs.Index.{total, log_of}
use Rattle.bundle.specs.declared.scan.Scan.{Scan}
use Rattle.bundle.specs.declared.chunk.ChunkState.{ChunkState}
use Rattle.bundle.specs.declared.index.Fork.{Fork}
use Rattle.bundle.specs.declared.command.Access.{Access}
use Rattle.bundle.specs.declared.command.Command.{Command}
use Rattle.bundle.specs.declared.command.Command.TheVariants as Com
use Rattle.bundle.proofs.Tests.{false-is-true, both, and_left}
use Rattle.bundle.proofs.Delimiters.{accessing, plain, closes, on-plain, forking, on-other, closes-forks-none, plain-not-end, barriers-rise}
use Rattle.bundle.proofs.Scanning.{passes, uncounted, orderly, orderly-tail, not-access}
use Rattle.bundle.proofs.Gathering.{Body, ends, goes, Formed}
use Rattle.bundle.proofs.Shortening.{Shortened}

abbrev bare : List Placed → List Command
bare ps = map (λ (p : Placed). p.command) ps

abbrev NoRegion : List Command → Type 0
NoRegion cs = (c : Command) → Memᴰ c cs → forking c ≡ false

-- CUT in place of what is lost; its offset does not matter
abbrev cutting : Placed
cutting = record { at = 0; command = Com.Cut }

-- what is left of a body: all of it, or its first commands and CUT
pub data Left : List Placed → List Placed → Type 0 where
  stays : {p : Placed} → closes p.command ≡ true → Left (p ∷ []) (p ∷ [])
  cuts : {p : Placed} {ps : List Placed} → NoRegion (bare (p ∷ ps)) → Left (p ∷ ps) (cutting ∷ [])
  keeps : {p : Placed} {ps qs : List Placed} → plain p.command ≡ true → Left ps qs → Left (p ∷ ps) (p ∷ qs)

pub left-whole : {ps : List Placed} → Body ps → Left ps ps
left-whole (ends e) = stays e
left-whole (goes e b) = keeps e (left-whole b)

pub record LeftAs (ps : List Placed) (cs : List Command) : Type 0 where
  pub rest : List Placed
  pub left : Left ps rest
  pub commands : bare rest ≡ cs

-- "at command ends": all that is kept stands before the command that closes
pub left_cut :
    {ps : List Placed} (kept lost : List Command)
    → Body ps
    → bare ps ≡ kept ++ lost
    → (lost ≡ [] → ⊥)
    → NoRegion lost
    → LeftAs ps (kept ++ (Com.Cut ∷ []))
left_cut [] lost (ends e) q some h = record { rest = cutting ∷ []; left = cuts (subst NoRegion (sym q) h); commands = refl }
left_cut [] lost (goes e b) q some h = record { rest = cutting ∷ []; left = cuts (subst NoRegion (sym q) h); commands = refl }
left_cut (c ∷ kept) lost (ends e) q some h = absurd (append-ne-nil_of_right_ne-nil kept some (sym (tail-eq_of_cons-eq q)))
left_cut (c ∷ kept) lost (goes {p = p} e b) q some h =
    let r = left_cut kept lost b (tail-eq_of_cons-eq q) some h in
    record { rest = p ∷ r.rest; left = keeps e r.left; commands = λ i. head-eq_of_cons-eq q i ∷ r.commands i }

pub cut-closes : closes Com.Cut ≡ true
unfolding closes
cut-closes = refl

pub left_body : {ps qs : List Placed} → Left ps qs → Body qs
left_body (stays e) = ends e
left_body (cuts h) = ends cut-closes
left_body (keeps e l) = goes e (left_body l)

-- inside a chunk CUT passes the tests 4, 5 and 6
cut-passes : (k : Scan) → k.inside ≡ true → orderly k (Com.Cut ∷ []) ≡ true
unfolding orderly passes misplaced is_member in_range fit_widths widths_of form_of code_of operands_ok above_own_team misuses_lock scanned uncounted
cut-passes k e = rw e

-- other commands that pass behind the first
orderly-behind :
    (k : Scan) (c : Command) (cs ds : List Command)
    → orderly k (c ∷ cs) ≡ true
    → orderly (uncounted (scanned k c)) ds ≡ true
    → orderly k (c ∷ ds) ≡ true
unfolding orderly
orderly-behind k c cs ds o h = both (and_left (passes k c) (orderly (uncounted (scanned k c)) cs) o) h

still-inside : (k : Scan) (c : Command) → plain c ≡ true → (uncounted (scanned k c)).inside ≡ k.inside
unfolding uncounted scanned
still-inside k c e = on-plain k.inside (λ t m. true) false c e

left-orderly : {ps qs : List Placed} (k : Scan) → Left ps qs → k.inside ≡ true → orderly k (bare ps) ≡ true → orderly k (bare qs) ≡ true
left-orderly k (stays e) i o = o
left-orderly k (cuts h) i o = cut-passes k i
left-orderly k (keeps {p = p} {ps = ps} {qs = qs} e l) i o =
    let c = p.command in
    orderly-behind k c (bare ps) (bare qs) o
    (left-orderly (uncounted (scanned k c)) l (still-inside k c e ∙ i) (orderly-tail k c (bare ps) o))

-- a count that CUT adds least to
left-total :
    (f : Command → ℕ) → ((c : Command) → f Com.Cut ≤ f c) → {ps qs : List Placed} → Left ps qs → total f (bare qs) ≤ total f (bare ps)
unfolding total
left-total f least (stays e) = omega arith
left-total f least (cuts {p = p} h) = let one = least p.command in omega arith
left-total f least (keeps e l) = let ih = left-total f least l in omega arith

-- an access that is left was there before
left-access : {ps qs : List Placed} {a : Access} → Left ps qs → Memᴰ (Com.Access a) (bare qs) → Memᴰ (Com.Access a) (bare ps)
unfolding accessing
left-access (stays e) m = m
left-access (cuts h) m = absurd (not-access {c = Com.Cut} refl (Memᴰ.eq_of_singleton m))
left-access (keeps e l) m = ⊎_elim Memᴰ.head (λ n. Memᴰ.tail (left-access l n)) (Memᴰ.cases_cons m)

-- the barriers passed never fall
barriers-never-fall : (k : ChunkState) (cs : List Command) → k.barriers ≤ (after_commands k cs).barriers
unfolding after_commands
barriers-never-fall k [] = omega arith
barriers-never-fall k (c ∷ cs) =
    let one = barriers-rise k c in
    let ih = barriers-never-fall (after_command k c) cs in
    omega arith

left-barriers : {ps qs : List Placed} (k : ChunkState) → Left ps qs → (after_commands k (bare qs)).barriers ≤ (after_commands k (bare ps)).barriers
unfolding after_commands
left-barriers k (stays e) = omega arith
left-barriers k (cuts {p = p} {ps = ps} h) = unfold after_command in (barriers-never-fall k (bare (p ∷ ps)))
left-barriers k (keeps {p = p} e l) = left-barriers (after_command k p.command) l

-- what has END is whole
left_ended : {ps qs : List Placed} → Left ps qs → any is_end (bare qs) ≡ true → qs ≡ ps
left_ended (stays e) f = refl
left_ended (cuts h) f = false-is-true (unfold is_end in f)
left_ended (keeps {p = p} {qs = qs} e l) f =
    ap (λ (rs : List Placed). p ∷ rs) (left_ended l (rw (plain-not-end p.command e) at f))

-- no REGION is lost
pub no-fork : (t m : ℕ) (e : Entry) → forking e.command ≡ false → fork_at t m e ≡ []
unfolding fork_at
no-fork t m e h = on-other [] _ e.command h

no-forks : (t m : ℕ) (k : ChunkState) (g n : ℕ) (ps : List Placed) → NoRegion (bare ps) → concat_map (fork_at t m) (entries_from k g n ps) ≡ []
unfolding entries_from
no-forks t m k g n [] h = refl
no-forks t m k g n (p ∷ ps) h =
    rw (no-fork t m (record { at = p.at; command = p.command; state = k; segment = g; accesses = n }) (h p.command (Memᴰ.head refl)))
    (no-forks t m (after_command k p.command) (g + opens_segment p.command) (n + adds_access p.command) ps (λ c l. h c (Memᴰ.tail l)))

left-forks :
    {ps qs : List Placed} (t m : ℕ) (k : ChunkState) (g n : ℕ)
    → Left ps qs
    → concat_map (fork_at t m) (entries_from k g n qs) ≡ concat_map (fork_at t m) (entries_from k g n ps)
unfolding entries_from
left-forks t m k g n (stays e) = refl
left-forks t m k g n (cuts {p = p} {ps = ps} h) =
    no-forks t m k g n (cutting ∷ []) (λ c l. ap forking (Memᴰ.eq_of_singleton l) ∙ closes-forks-none Com.Cut cut-closes)
    ∙ sym (no-forks t m k g n (p ∷ ps) h)
left-forks t m k g n (keeps {p = p} e l) =
    ap (λ (fs : List Fork). fork_at t m (record { at = p.at; command = p.command; state = k; segment = g; accesses = n }) ++ fs)
    (left-forks t m (after_command k p.command) (g + opens_segment p.command) (n + adds_access p.command) l)

-- the commands that are kept and lost
record Kept (cs ds : List Command) : Type 0 where
  pub kept : List Command
  pub lost : List Command
  pub last : Command
  pub before : cs ≡ kept ++ lost
  pub after : ds ≡ kept ++ (last ∷ [])
  pub closing : closes last ≡ true
  pub no_region : NoRegion lost

left-kept : {ps qs : List Placed} → Left ps qs → Kept (bare ps) (bare qs)
left-kept (stays {p = p} e) =
    record {
      kept = [];
      lost = p.command ∷ [];
      last = p.command;
      before = refl;
      after = refl;
      closing = e;
      no_region = λ c m. ap forking (Memᴰ.eq_of_singleton m) ∙ closes-forks-none p.command e;
    }
left-kept (cuts {p = p} {ps = ps} h) =
    record { kept = []; lost = bare (p ∷ ps); last = Com.Cut; before = refl; after = refl; closing = cut-closes; no_region = h }
left-kept (keeps {p = p} e l) =
    let r = left-kept l in
    let c = p.command in
    record {
      kept = c ∷ r.kept;
      lost = r.lost;
      last = r.last;
      before = ap (λ (es : List Command). c ∷ es) r.before;
      after = ap (λ (es : List Command). c ∷ es) r.after;
      closing = r.closing;
      no_region = r.no_region;
    }

-- the chunk d is what is left of the chunk c
pub record Remains (c d : Chunk) : Type 0 where
  pub team : d.team ≡ c.team
  pub member : d.member ≡ c.member
  pub body : Left c.body d.body
  pub formed : Formed d

pub remains-orderly : {c d : Chunk} → Remains c d → orderly start (log_of c) ≡ true → orderly start (log_of d) ≡ true
unfolding log_of commands_of
remains-orderly {c} {d} r o = rw (r.team, r.member) (orderly-behind start m (bare c.body) (bare d.body) o inner)
  where
    m : Command
    m = Com.Member c.team c.member

    k : Scan
    k = uncounted (scanned start m)

    inner : orderly k (bare d.body) ≡ true
    inner = left-orderly k r.body (unfold uncounted scanned in refl) (orderly-tail start m (bare c.body) o)

pub remains-total :
    (f : Command → ℕ) → ((c : Command) → f Com.Cut ≤ f c) → {c d : Chunk} → Remains c d → total f (log_of d) ≤ total f (log_of c)
unfolding total log_of commands_of
remains-total f least {c} {d} r = rw (r.team, r.member) (let rest = left-total f least r.body in omega arith)

pub remains-access : {c d : Chunk} {a : Access} → Remains c d → Memᴰ (Com.Access a) (log_of d) → Memᴰ (Com.Access a) (log_of c)
unfolding log_of commands_of accessing
remains-access {d = d} r m =
    ⊎_elim (λ q. absurd (not-access {c = Com.Member d.team d.member} refl q)) (λ n. Memᴰ.tail (left-access r.body n)) (Memᴰ.cases_cons m)

pub remains-barriers : {c d : Chunk} → Remains c d → barriers_of d ≤ barriers_of c
unfolding barriers_of commands_of
remains-barriers r = left-barriers _ r.body

pub remains-complete : {c d : Chunk} → Remains c d → complete d ≡ true → (complete c ≡ true) × (barriers_of d ≡ barriers_of c)
unfolding complete barriers_of commands_of
remains-complete r e = let q = left_ended r.body e in (rw q at e, rw q)

pub remains-forks : {c d : Chunk} → Remains c d → forks_in d ≡ forks_in c
unfolding forks_in entries_of
remains-forks {c} r = rw (r.team, r.member) (left-forks c.team c.member _ 0 0 r.body)

-- what is left of a chunk, wherever it is put, is the chunk shortened
pub remains-shortened : {c d e : Chunk} → Remains c d → e.team ≡ d.team → e.member ≡ d.member → commands_of e ≡ commands_of d → Shortened c e
unfolding commands_of
remains-shortened r t m q =
    let k = left-kept r.body in
    record {
      team = t ∙ r.team;
      member = m ∙ r.member;
      kept = k.kept;
      lost = k.lost;
      last = k.last;
      before = k.before;
      after = q ∙ k.after;
      closing = k.closing;
      no_region = k.no_region;
    }
