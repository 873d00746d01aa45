-- The word of a build, bundle by bundle. Assumes nothing.
use mathlib.Core.Path.{◌≡◌, refl, sym, ap, ◌∙◌}
use mathlib.Core.Bool.{Bool, true, false, cond, ◌||◌}
use mathlib.Core.List.{List, [], ◌∷◌, ◌++◌, append_assoc, append-nil}
use Rattle.bundle.specs.Lists.{any}
use Rattle.bundle.proofs.Tests.{or_assoc}
use Rattle.tray.specs.declared.word.Outcome.{Outcome}
use Rattle.tray.specs.declared.word.Outcome.TheVariants as Out
use Rattle.tray.specs.declared.word.Word.{Word}
use Rattle.tray.specs.declared.word.Word.TheVariants as Wor
use Rattle.tray.specs.Words.{is_race, is_refused, word_of, after_outcome, after_all, Onward}

any_snoc : (p : Outcome → Bool) (os : List Outcome) (o : Outcome) → any p (os ++ (o ∷ [])) ≡ (any p os || p o)
any_snoc p [] o = go (p o)
  where
    go : (a : Bool) → (a || false) ≡ a
    go true = refl
    go false = refl
any_snoc p (x ∷ os) o = ap (λ (b : Bool). p x || b) (any_snoc p os o) ∙ sym (or_assoc (p x) (any p os) (p o))

-- the word by its three tests
abbrev pub by_tests : Bool → Bool → Bool → Word
by_tests race refused none = cond race Wor.Race (cond refused Wor.Refused (cond none Wor.Missing Wor.RaceFree))

abbrev pub empty : List Outcome → Bool
empty [] = true
empty (o ∷ os) = false

pub tests : (os : List Outcome) → word_of os ≡ by_tests (any is_race os) (any is_refused os) (empty os)
unfolding word_of
tests [] = refl
tests (o ∷ os) = refl

empty-snoc : (os : List Outcome) (o : Outcome) → empty (os ++ (o ∷ [])) ≡ false
empty-snoc [] o = refl
empty-snoc (x ∷ os) o = refl

step : (a b c : Bool) (o : Outcome) → by_tests (a || is_race o) (b || is_refused o) false ≡ after_outcome (by_tests a b c) o
step true b c Out.Race = refl
step true b c Out.RaceFree = refl
step true b c Out.Refused = refl
step false true c Out.Race = refl
step false true c Out.RaceFree = refl
step false true c Out.Refused = refl
step false false true Out.Race = refl
step false false true Out.RaceFree = refl
step false false true Out.Refused = refl
step false false false Out.Race = refl
step false false false Out.RaceFree = refl
step false false false Out.Refused = refl

-- before the first bundle
pub word_none : word_of [] ≡ Wor.Missing
unfolding word_of
word_none = refl

-- one bundle more
pub word_after : (os : List Outcome) (o : Outcome) → word_of (os ++ (o ∷ [])) ≡ after_outcome (word_of os) o
word_after os o =
    tests (os ++ (o ∷ []))
    ∙ rw (any_snoc is_race os o, any_snoc is_refused os o, empty-snoc os o)
    (step (any is_race os) (any is_refused os) (empty os) o)
    ∙ ap (λ (w : Word). after_outcome w o) (sym (tests os))

-- all bundles, one after another
word_more : (before os : List Outcome) → after_all (word_of before) os ≡ word_of (before ++ os)
word_more before [] = ap word_of (sym (append-nil before))
word_more before (o ∷ os) =
    ap (λ (w : Word). after_all w os) (sym (word_after before o))
    ∙ word_more (before ++ (o ∷ [])) os
    ∙ ap word_of (append_assoc before (o ∷ []) os)

pub word-all : (os : List Outcome) → after_all Wor.Missing os ≡ word_of os
word-all os = ap (λ (w : Word). after_all w os) (sym word_none) ∙ word_more [] os

-- the same at the word of the code
pub onward : (word : Word) (outcome : Outcome) {r : Word} → r ≡ after_outcome word outcome → Onward word outcome r
onward word outcome e os w = e ∙ ap (λ (x : Word). after_outcome x outcome) w ∙ sym (word_after os outcome)

-- each word is that of some bundles, so that nothing is left open
pub some-bundles : (word : Word) → (os : List Outcome) × (word ≡ word_of os)
unfolding word_of
some-bundles Wor.Missing = ([], refl)
some-bundles Wor.RaceFree = (Out.RaceFree ∷ [], refl)
some-bundles Wor.Refused = (Out.Refused ∷ [], refl)
some-bundles Wor.Race = (Out.Race ∷ [], refl)
