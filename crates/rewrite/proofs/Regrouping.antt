-- Commands in another group: what stays the same, and their ranges.
use Prim.Native.Nat.{ℕ, ◌^◌, ◌≤◌, ◌<◌}
use mathlib.Core.Path.{◌≡◌, refl, sym, ◌∙◌, ap}
use mathlib.Core.Bool.{Bool, true, false, cond, ◌&&◌}
use mathlib.Core.List.Memᴰ
use mathlib.Core.List.{List, [], ◌∷◌, map, Memᴰ}
use native.Mathlib.Omega.{arith}
use lib.ListN.{length, length-append}
use lib.Dec.{ltb}
use borrow.Author.Tests.{ltb-true, ltb-false, lt-ltb, le-ltb}
use Rattle.bundle.specs.Lists.{concat_map}
use Rattle.bundle.specs.Commands.{form_of, widths_of, access_byte, access_widths, code_of, low_first, operand_bytes, bytes_of, range_ok, operands_ok, fit_widths, in_range}
use Rattle.bundle.specs.Inner.{range_operands}
use Rattle.bundle.specs.Cases.{on_access}
use Rattle.bundle.specs.Chunks.{after_command, is_end}
use Rattle.bundle.specs.Walk.{opens_segment, adds_access}
use Rattle.bundle.specs.Scan.{is_member, misplaced, above_own_team, misuses_lock, scanned}
use Rattle.bundle.specs.declared.scan.Scan.{Scan}
use Rattle.bundle.specs.declared.chunk.ChunkState.{ChunkState}
use Rattle.bundle.specs.declared.command.Access.{Access}
use Rattle.bundle.specs.declared.command.Command.{Command}
use Rattle.bundle.specs.declared.command.Command.TheVariants as Com
use Rattle.bundle.proofs.Tests.{both, and_left, and_right}
use Rattle.bundle.proofs.Delimiters.{plain, closes, on-no-access, Accessing, accesses_some, accesses_none, accessings}
use Rattle.bundle.proofs.Forms.{access-widths, access-bytes}
use Rattle.bundle.proofs.Scanning.{uncounted}
use Rattle.rewrite.specs.Converting.{in_group, regrouped, site_over}

-- what sees no difference between an access and the same in another group sees none between a command and the same regrouped
pub regrouped-keeps :
    {A : Type 0} (f : Command → A) (w : Bool)
    → ((a : Access) → f (Com.Access (in_group w a)) ≡ f (Com.Access a))
    → (c : Command)
    → f (regrouped w c) ≡ f c
unfolding regrouped
regrouped-keeps f w h c = go (accessings c)
  where
    go : {d : Command} → Accessing d → f (on_access d (λ a. Com.Access (in_group w a)) d) ≡ f d
    go (accesses_some a) = h a
    go (accesses_none {c = d} n) = ap f (on-no-access d (λ a. Com.Access (in_group w a)) d n)

module _ (w : Bool) where
  pub regrouped-closes : (c : Command) → closes (regrouped w c) ≡ closes c
  unfolding closes
  regrouped-closes = regrouped-keeps closes w (λ a. refl)

  pub regrouped-plain : (c : Command) → plain (regrouped w c) ≡ plain c
  unfolding plain
  regrouped-plain = regrouped-keeps plain w (λ a. refl)

  pub regrouped-misplaced : (k : Scan) (c : Command) → misplaced k (regrouped w c) ≡ misplaced k c
  unfolding misplaced is_member
  regrouped-misplaced k = regrouped-keeps (misplaced k) w (λ a. refl)

  pub regrouped-above : (t : ℕ) (c : Command) → above_own_team t (regrouped w c) ≡ above_own_team t c
  unfolding above_own_team
  regrouped-above t = regrouped-keeps (above_own_team t) w (λ a. refl)

  pub regrouped-misuses : (locks : ℕ) (c : Command) → misuses_lock locks (regrouped w c) ≡ misuses_lock locks c
  unfolding misuses_lock
  regrouped-misuses locks = regrouped-keeps (misuses_lock locks) w (λ a. refl)

  pub regrouped-opens : (c : Command) → opens_segment (regrouped w c) ≡ opens_segment c
  unfolding opens_segment
  regrouped-opens = regrouped-keeps opens_segment w (λ a. refl)

  pub regrouped-adds : (c : Command) → adds_access (regrouped w c) ≡ adds_access c
  unfolding adds_access
  regrouped-adds = regrouped-keeps adds_access w (λ a. refl)

  pub regrouped-after : (k : ChunkState) (c : Command) → after_command k (regrouped w c) ≡ after_command k c
  unfolding after_command
  regrouped-after k = regrouped-keeps (after_command k) w (λ a. refl)

  pub regrouped-end : (c : Command) → is_end (regrouped w c) ≡ is_end c
  unfolding is_end
  regrouped-end = regrouped-keeps is_end w (λ a. refl)

  pub regrouped-scanned : (k : Scan) (c : Command) → uncounted (scanned k (regrouped w c)) ≡ uncounted (scanned k c)
  unfolding uncounted scanned after_command
  regrouped-scanned k = regrouped-keeps (λ (c : Command). uncounted (scanned k c)) w (λ a. refl)

  pub regrouped-site : (c : Command) → site_over (regrouped w c) ≡ site_over c
  unfolding site_over in_group
  regrouped-site = regrouped-keeps site_over w (λ a. refl)

  -- twice is once, and a command of the wanted group is left as it is
  pub regrouped-twice : (v : Bool) (c : Command) → regrouped w (regrouped v c) ≡ regrouped w c
  unfolding regrouped in_group
  regrouped-twice v = regrouped-keeps (regrouped w) v (λ a. refl)

  regrouped-own : (c : Command) → ((a : Access) → Com.Access a ≡ c → a.wide ≡ w) → regrouped w c ≡ c
  unfolding regrouped in_group
  regrouped-own c h = go (accessings c) h
    where
      go : {d : Command} → Accessing d → ((a : Access) → Com.Access a ≡ d → a.wide ≡ w) → on_access d (λ a. Com.Access (in_group w a)) d ≡ d
      go (accesses_some a) h =
          ap (λ (v : Bool). Com.Access (record { kind = a.kind; wide = v; site = a.site; range = a.range })) (sym (h a refl))
      go (accesses_none {c = d} n) h = on-no-access d (λ a. Com.Access (in_group w a)) d n

  pub all_own : (cs : List Command) → ((a : Access) → Memᴰ (Com.Access a) cs → a.wide ≡ w) → map (regrouped w) cs ≡ cs
  all_own [] h = refl
  all_own (c ∷ cs) h =
      rw (regrouped-own c (λ a e. h a (Memᴰ.head e)), all_own cs (λ a m. h a (Memᴰ.tail m)))

  pub all-twice : (v : Bool) (cs : List Command) → map (regrouped w) (map (regrouped v) cs) ≡ map (regrouped w) cs
  all-twice v [] = refl
  all-twice v (c ∷ cs) = rw (regrouped-twice v c, all-twice v cs)

  -- every access is then of the wanted group
  abbrev group_in : Command → Bool
  group_in = on_access w (λ (a : Access). a.wide)

  regrouped-group : (c : Command) → group_in (regrouped w c) ≡ w
  unfolding regrouped in_group
  regrouped-group c = go (accessings c)
    where
      go : {d : Command} → Accessing d → group_in (on_access d (λ a. Com.Access (in_group w a)) d) ≡ w
      go (accesses_some a) = refl
      go (accesses_none {c = d} n) = ap group_in (on-no-access d (λ a. Com.Access (in_group w a)) d n) ∙ on-no-access w (λ (a : Access). a.wide) d n

  pub all-of-group : (cs : List Command) (a : Access) → Memᴰ (Com.Access a) (map (regrouped w) cs) → a.wide ≡ w
  all-of-group cs a m =
      let x = Memᴰ.of_map (regrouped w) cs m in
      ap group_in (sym x.2) ∙ regrouped-group x.0

-- the operands of an access in range
access-range :
    (a : Access)
    → in_range (Com.Access a)
    ≡ (ltb a.site (256 ^ cond a.wide 4 2) && fit_widths (4 ∷ 2 ∷ 2 ∷ 1 ∷ []) (range_operands a.range) && range_ok a.range)
unfolding in_range code_of operands_ok fit_widths
access-range a = rw (access-widths a)

site-in-range : (a : Access) → in_range (Com.Access a) ≡ true → ltb a.site (256 ^ cond a.wide 4 2) ≡ true
site-in-range a e =
    let site = ltb a.site (256 ^ cond a.wide 4 2) in
    let rest = fit_widths (4 ∷ 2 ∷ 2 ∷ 1 ∷ []) (range_operands a.range) in
    and_left site rest (and_left (site && rest) (range_ok a.range) (sym (access-range a) ∙ e))

site-fits : (w : Bool) (a : Access) → in_range (Com.Access a) ≡ true → ltb a.site (256 ^ cond w 4 2) ≡ true → in_range (Com.Access (in_group w a)) ≡ true
unfolding in_group
site-fits w a e h =
    let site = ltb a.site (256 ^ cond a.wide 4 2) in
    let rest = fit_widths (4 ∷ 2 ∷ 2 ∷ 1 ∷ []) (range_operands a.range) in
    let f = sym (access-range a) ∙ e in
    access-range (record { kind = a.kind; wide = w; site = a.site; range = a.range })
    ∙ both (both h (and_right site rest (and_left (site && rest) (range_ok a.range) f))) (and_right (site && rest) (range_ok a.range) f)

-- a site of the narrow group is not over 65,535, and one that is not over fits either group
narrow-site : (n : ℕ) → ltb n (256 ^ cond false 4 2) ≡ true → ltb 65535 n ≡ false
narrow-site n e = let h : n < 65536 = ltb-true n 65536 e in le-ltb 65535 n (omega arith)

fits-group : (w v : Bool) (n : ℕ) → (w ≡ false → ltb 65535 n ≡ false) → ltb n (256 ^ cond v 4 2) ≡ true → ltb n (256 ^ cond w 4 2) ≡ true
fits-group true true n h e = e
fits-group true false n h e = let l : n < 65536 = ltb-true n 65536 e in lt-ltb n 4294967296 (omega arith)
fits-group false v n h e = let l : n ≤ 65535 = ltb-false 65535 n (h refl) in lt-ltb n 65536 (omega arith)

pub regrouped-range : (w : Bool) (c : Command) → in_range c ≡ true → (w ≡ false → site_over c ≡ false) → in_range (regrouped w c) ≡ true
unfolding regrouped site_over
regrouped-range w c e h = go (accessings c) e h
  where
    go :
        {d : Command}
        → Accessing d
        → in_range d ≡ true
        → (w ≡ false → on_access false (λ a. ltb 65535 a.site) d ≡ false)
        → in_range (on_access d (λ a. Com.Access (in_group w a)) d) ≡ true
    go (accesses_some a) r q = site-fits w a r (fits-group w a.wide a.site q (site-in-range a r))
    go (accesses_none {c = d} n) r q = ap in_range (on-no-access d (λ a. Com.Access (in_group w a)) d n) ∙ r

pub narrow-not-over : (c : Command) → in_range c ≡ true → ((a : Access) → Com.Access a ≡ c → a.wide ≡ false) → site_over c ≡ false
unfolding site_over
narrow-not-over c e h = go (accessings c) e h
  where
    go : {d : Command} → Accessing d → in_range d ≡ true → ((a : Access) → Com.Access a ≡ d → a.wide ≡ false) → on_access false (λ a. ltb 65535 a.site) d ≡ false
    go (accesses_some a) r q = narrow-site a.site (rw (q a refl) at (site-in-range a r))
    go (accesses_none {c = d} n) r q = on-no-access false (λ a. ltb 65535 a.site) d n

-- how many bytes an access has, and how many a command has at most
pub access-size : (a : Access) → length (bytes_of (Com.Access a)) ≡ cond a.wide 14 12
unfolding operand_bytes low_first code_of
access-size a = rw (access-bytes a) (go a.wide)
  where
    go : (v : Bool) → length (access_byte a.wide a.kind ∷ operand_bytes (access_widths v) (a.site ∷ range_operands a.range)) ≡ cond v 14 12
    go true = refl
    go false = refl

pub size-of-access : {w : Bool} {c : Command} {a : Access} (v : Bool) → w ≡ v → c ≡ Com.Access a → cond v 14 12 ≡ length (bytes_of (regrouped w c))
unfolding regrouped in_group
size-of-access {w} {c} {a} v e q =
    ap (λ (u : Bool). cond u 14 12) (sym e) ∙ sym (access-size (in_group w a)) ∙ ap (λ (d : Command). length (bytes_of (regrouped w d))) (sym q)

pub bytes_most : (c : Command) → length (bytes_of c) ≤ 14
unfolding bytes_of code_of form_of widths_of operand_bytes low_first
bytes_most (Com.Member t m) = omega arith
bytes_most Com.End = omega arith
bytes_most (Com.Region t z) = omega arith
bytes_most Com.Barrier = omega arith
bytes_most (Com.Acquire l) = omega arith
bytes_most (Com.Release l) = omega arith
bytes_most (Com.Access a) = at_most a.wide (access-size a)
  where
    at_most : {n : ℕ} (v : Bool) → n ≡ cond v 14 12 → n ≤ 14
    at_most true e = omega arith
    at_most false e = omega arith
bytes_most Com.Cut = omega arith

-- in the narrow group no command is longer
command-narrower : (c : Command) → length (bytes_of (regrouped false c)) ≤ length (bytes_of c)
unfolding regrouped in_group
command-narrower c = go (accessings c)
  where
    at_least : {n m : ℕ} (v : Bool) → n ≡ 12 → m ≡ cond v 14 12 → n ≤ m
    at_least true e q = omega arith
    at_least false e q = omega arith

    go : {d : Command} → Accessing d → length (bytes_of (on_access d (λ a. Com.Access (in_group false a)) d)) ≤ length (bytes_of d)
    go (accesses_some a) = at_least a.wide (access-size (in_group false a)) (access-size a)
    go (accesses_none {c = d} n) = rw (on-no-access d (λ a. Com.Access (in_group false a)) d n) (omega arith)

pub narrower : (cs : List Command) → length (concat_map bytes_of (map (regrouped false) cs)) ≤ length (concat_map bytes_of cs)
narrower [] = omega arith
narrower (c ∷ cs) =
    let one = command-narrower c in
    let ih = narrower cs in
    rw (length-append (bytes_of (regrouped false c)) (concat_map bytes_of (map (regrouped false) cs)), length-append (bytes_of c) (concat_map bytes_of cs)) (omega arith)
