-- What the word of a build says of its files. Assumes nothing.
use Prim.Native.Nat.{ℕ, ◌≤◌}
use mathlib.Core.Path.{◌≡◌, refl, sym, ap, subst, ◌∙◌}
use mathlib.Core.Bool.{Bool, true, false, ◌||◌}
use mathlib.Core.List.Memᴰ
use mathlib.Core.List.{List, [], ◌∷◌, map, Memᴰ}
use mathlib.Core.Option.{none, some}
use native.Mathlib.Omega.{arith}
use lib.ListN.{length}
use Rattle.bundle.specs.Answer.{Answer, gives, refuses}
use Rattle.bundle.specs.Lists.{any}
use Rattle.bundle.specs.Chunks.{chunks_of}
use Rattle.bundle.specs.Check.{check_of}
use Rattle.bundle.proofs.Tests.{is_false, not-both}
use Rattle.bundle.proofs.ListLaws.{any-elim, any-intro}
use Rattle.verdict.specs.Races.{races_of}
use Rattle.verdict.specs.Judge.{verdict_of, judgement_of, judged_of}
use Rattle.verdict.specs.declared.race.Race.{Race}
use Rattle.verdict.proofs.RaceList.{races-elim, races-intro}
use Rattle.tray.specs.declared.word.Outcome.{Outcome}
use Rattle.tray.specs.declared.word.Outcome.TheVariants as Out
use Rattle.tray.specs.declared.word.Word.{Word}
use Rattle.tray.specs.declared.word.Word.TheVariants as Wor
use Rattle.tray.specs.Words.{verdict_outcome, is_race, is_refused, File, file_outcome, build_word}
use Rattle.tray.specs.Demand.{Clean, Racing, TurnedAway, Some, EveryBuild}
use Rattle.tray.proofs.WordLaws.{by_tests, empty, tests}

-- the outcome of a bundle that is accepted, by its races
accepted-outcome : (s : List ℕ) → check_of s ≡ gives tt → file_outcome (some s) ≡ verdict_outcome (verdict_of (races_of (chunks_of s)))
unfolding file_outcome judged_of judgement_of
accepted-outcome s e = rw e refl

no-races : (rs : List Race) → ((r : Race) → Memᴰ r rs → ⊥) → verdict_outcome (verdict_of rs) ≡ Out.RaceFree
unfolding verdict_of
no-races [] h = refl
no-races (r ∷ rs) h = absurd (h r (Memᴰ.head refl))

a_race : (rs : List Race) (r : Race) → Memᴰ r rs → verdict_outcome (verdict_of rs) ≡ Out.Race
unfolding verdict_of
a_race [] r m = absurd (Memᴰ.not-nil m)
a_race (q ∷ rs) r m = refl

clean-outcome : {f : File} → Clean f → file_outcome f ≡ Out.RaceFree
clean-outcome c =
    ap file_outcome c.read
    ∙ accepted-outcome c.bytes c.accepted
    ∙ no-races (races_of (chunks_of c.bytes)) (λ r m. c.no_race r (races-elim (chunks_of c.bytes) m))

racing-outcome : {f : File} → Racing f → file_outcome f ≡ Out.Race
racing-outcome c =
    ap file_outcome c.read
    ∙ accepted-outcome c.bytes c.accepted
    ∙ a_race (races_of (chunks_of c.bytes)) c.race (races-intro (chunks_of c.bytes) c.is-race)

away-outcome : {f : File} → TurnedAway f → file_outcome f ≡ Out.Refused
unfolding file_outcome judged_of
away-outcome TurnedAway.unreadable = refl
away-outcome (TurnedAway.refused s n p e) = rw e refl

-- each file is of one of three kinds
data Kind (f : File) : Type 0 where
  clean : Clean f → Kind f
  racing : Racing f → Kind f
  away : TurnedAway f → Kind f

kind-of : (f : File) → Kind f
kind-of none = Kind.away TurnedAway.unreadable
kind-of (some s) = go (check_of s) refl (races_of (chunks_of s)) refl
  where
    go : (a : Answer (Unit {0})) → check_of s ≡ a → (rs : List Race) → races_of (chunks_of s) ≡ rs → Kind (some s)
    go (refuses n p) e rs q = Kind.away (TurnedAway.refused s n p e)
    go (gives u) e [] q =
        Kind.clean (record {
          bytes = s;
          read = refl;
          accepted = e;
          no_race = λ r i. Memᴰ.not-nil (subst (λ (l : List Race). Memᴰ r l) q (races-intro (chunks_of s) i));
        })
    go (gives u) e (r ∷ rs) q =
        Kind.racing (record {
          bytes = s;
          read = refl;
          accepted = e;
          race = r;
          is-race = races-elim (chunks_of s) (subst (λ (l : List Race). Memᴰ r l) (sym q) (Memᴰ.head refl));
        })

-- a test of each file's outcome
any-map : (p : Outcome → Bool) (files : List File) → any p (map file_outcome files) ≡ any (λ f. p (file_outcome f)) files
any-map p [] = refl
any-map p (f ∷ files) = ap (λ (b : Bool). p (file_outcome f) || b) (any-map p files)

abbrev none_of : List File → Bool
none_of [] = true
none_of (f ∷ files) = false

some-files : (files : List File) → none_of files ≡ false → 1 ≤ length files
some-files [] e = not-both refl e
some-files (f ∷ files) e = omega arith

not_none : (files : List File) → 1 ≤ length files → none_of files ≡ false
not_none [] h = absurd (omega arith)
not_none (f ∷ files) h = refl

no-files : (files : List File) → none_of files ≡ true → files ≡ []
no-files [] e = refl
no-files (f ∷ files) e = not-both e refl

empty-map : (files : List File) → empty (map file_outcome files) ≡ none_of files
empty-map [] = refl
empty-map (f ∷ files) = refl

-- words differ
abbrev code : Word → ℕ
code Wor.Missing = 0
code Wor.RaceFree = 1
code Wor.Refused = 2
code Wor.Race = 3

-- the word by its tests, backwards
race-test : (a b c : Bool) → by_tests a b c ≡ Wor.Race → a ≡ true
race-test true b c e = refl
race-test false true c e = absurd (omega (arith, ap code e))
race-test false false true e = absurd (omega (arith, ap code e))
race-test false false false e = absurd (omega (arith, ap code e))

refused-test : (a b c : Bool) → by_tests a b c ≡ Wor.Refused → (a ≡ false) × (b ≡ true)
refused-test true b c e = absurd (omega (arith, ap code e))
refused-test false true c e = (refl, refl)
refused-test false false true e = absurd (omega (arith, ap code e))
refused-test false false false e = absurd (omega (arith, ap code e))

missing-test : (a b c : Bool) → by_tests a b c ≡ Wor.Missing → c ≡ true
missing-test true b c e = absurd (omega (arith, ap code e))
missing-test false true c e = absurd (omega (arith, ap code e))
missing-test false false true e = refl
missing-test false false false e = absurd (omega (arith, ap code e))

free-test : (a b c : Bool) → by_tests a b c ≡ Wor.RaceFree → (a ≡ false) × (b ≡ false) × (c ≡ false)
free-test true b c e = absurd (omega (arith, ap code e))
free-test false true c e = absurd (omega (arith, ap code e))
free-test false false true e = absurd (omega (arith, ap code e))
free-test false false false e = (refl, refl, refl)

module _ (files : List File) where
  abbrev raced : Bool
  raced = any (λ f. is_race (file_outcome f)) files

  abbrev turned : Bool
  turned = any (λ f. is_refused (file_outcome f)) files

  word-tests : build_word files ≡ by_tests raced turned (none_of files)
  unfolding build_word
  word-tests = tests (map file_outcome files) ∙ rw (any-map is_race files, any-map is_refused files, empty-map files) refl

  raced-elim : raced ≡ true → Some Racing files
  raced-elim e =
      let p = any-elim (λ f. is_race (file_outcome f)) files e in
      record { file = p.element; present = p.present; holds = go p.passes (kind-of p.element) }
    where
      go : {f : File} → is_race (file_outcome f) ≡ true → Kind f → Racing f
      go h (Kind.clean c) = not-both h (ap is_race (clean-outcome c))
      go h (Kind.racing c) = c
      go h (Kind.away c) = not-both h (ap is_race (away-outcome c))

  raced-intro : Some Racing files → raced ≡ true
  raced-intro s = any-intro (λ f. is_race (file_outcome f)) s.present (ap is_race (racing-outcome s.holds))

  turned-elim : turned ≡ true → Some TurnedAway files
  turned-elim e =
      let p = any-elim (λ f. is_refused (file_outcome f)) files e in
      record { file = p.element; present = p.present; holds = go p.passes (kind-of p.element) }
    where
      go : {f : File} → is_refused (file_outcome f) ≡ true → Kind f → TurnedAway f
      go h (Kind.clean c) = not-both h (ap is_refused (clean-outcome c))
      go h (Kind.racing c) = not-both h (ap is_refused (racing-outcome c))
      go h (Kind.away c) = c

  turned-intro : Some TurnedAway files → turned ≡ true
  turned-intro s = any-intro (λ f. is_refused (file_outcome f)) s.present (ap is_refused (away-outcome s.holds))

  all-clean : raced ≡ false → turned ≡ false → (f : File) → Memᴰ f files → Clean f
  all-clean r t f m = go (kind-of f)
    where
      go : Kind f → Clean f
      go (Kind.clean c) = c
      go (Kind.racing c) = not-both (raced-intro (record { file = f; present = m; holds = c })) r
      go (Kind.away c) = not-both (turned-intro (record { file = f; present = m; holds = c })) t

  -- no file that passes a test which no clean one does
  none_passes : (p : Outcome → Bool) → p Out.RaceFree ≡ false → ((f : File) → Memᴰ f files → Clean f) → any (λ f. p (file_outcome f)) files ≡ false
  none_passes p h all =
      is_false (any (λ f. p (file_outcome f)) files)
      (λ e. let q = any-elim (λ f. p (file_outcome f)) files e in not-both q.passes (ap p (clean-outcome (all q.element q.present)) ∙ h))

-- the word of a build says what it should
pub released : EveryBuild
released files =
    let w = word-tests files in
    record {
      race_free = (
        λ e.
            let t = free-test (raced files) (turned files) (none_of files) (sym w ∙ e) in
            (some-files files t.2, all-clean files t.0 t.1),
        λ h. w ∙ rw (none_passes files is_race refl h.1, none_passes files is_refused refl h.1, not_none files h.0) refl,
      );
      race = (λ e. raced-elim files (race-test (raced files) (turned files) (none_of files) (sym w ∙ e)), λ s. w ∙ rw (raced-intro files s) refl);
      refused = (
        λ e.
            let t = refused-test (raced files) (turned files) (none_of files) (sym w ∙ e) in
            (turned-elim files t.1, λ s. not-both (raced-intro files s) t.0),
        λ h. w ∙ rw (is_false (raced files) (λ r. h.1 (raced-elim files r)), turned-intro files h.0) refl,
      );
      missing = (
        λ e. no-files files (missing-test (raced files) (turned files) (none_of files) (sym w ∙ e)),
        λ e. ap build_word e ∙ no_word,
      );
    }
  where
    no_word : build_word [] ≡ Wor.Missing
    no_word = word-tests []
